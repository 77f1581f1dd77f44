-- A demo has its text.
use Rattle.std.proofs.Common.{◌≡◌, ap, refl, sym, subst, ℕ, ◌+◌, ◌*◌, ◌≤◌, false, List, [], ◌∷◌, ◌++◌, codes, length, length-append, arith}
use Rattle.std.proofs.lemmas.List.{take_all}
use Rattle.std.specs.Prelude.{Option, Some, Ok}
use Rattle.demo_files.specs.Demo.{demo_schedule, demo_script, demo_topic_file}
use Rattle.command_line.proofs.Limits.{within_limits}
use Rattle.command_line.specs.Words.{command_of}
use Rattle.command_line.specs.declared.asked.Command.{Command}
use Rattle.command_line.specs.declared.asked.Command.TheVariants.{Demo}
use Rattle.ksql_program.specs.declared.program.Item.{Item}
use Rattle.ksql_analyse.specs.Judgement.{IsProgramOf}
use Rattle.ksql_outside.specs.Outside.{read_bytes, read_limit}
use Rattle.topic_files.specs.File.{topic_lines}
use Rattle.topology.specs.Tasks.{chain_of, depth_after}
use Rattle.topology.specs.Topologies.{cuts_of, stages_at, subs, subs_from, subs_of, topology_of}
use Rattle.topology.specs.declared.schedule.Lined.{Lined}
use Rattle.topology.specs.declared.stage.Stage.{Stage}
use Rattle.topology.specs.declared.topology.Sub.{Sub}
use Rattle.topology.proofs.Depths.{depth_after-within, greatest-within}
use Rattle.topology.proofs.Numbered.{length-subs_from}
use Rattle.topology_build.proofs.Counts.{item_stages-few}
use Rattle.schedule_text.specs.Schedules.{schedule_of}
use Rattle.schedule_text.specs.Steps.{topic_number}
use Rattle.ksql_cli.specs.Command.{AreFed, Files, HasText, HasTextFor, IsProgramRead, Runs, demo_asked, demo_files, whole_room}
use Rattle.ksql_cli.specs.Run.{Run, declared_of, summary_of}
use Rattle.schedule_laws.proofs.Demo.{demo-read}
use Rattle.schedule_laws.proofs.DemoFile.{demo-good, demo-short}
use Rattle.schedule_laws.proofs.DemoProgram.{IsDemo, demo-program}
use Rattle.schedule_laws.proofs.DemoRules.{hits_relation}
use Rattle.schedule_laws.proofs.DemoSteps.{demo-steps}
use Rattle.schedule_laws.proofs.DemoTrees.{demo-reads, demo_trees}

-- ---- the chain of a program isn't long

chain-within : (ss : List Sub) → chain_of ss ≤ length ss
chain-within ss =
    greatest-within (λ (s : Sub). depth_after (λ topic. 0) ss s.output) (length ss) ss
    (λ s. let low : depth_after (λ topic. 0) ss s.output ≤ 0 + length ss = depth_after-within (λ topic. 0) 0 ss (λ t. omega arith) s.output in omega (arith, low))

few-subs : (items : List Item) (query first number : ℕ) (is : List Item) → length (subs_of items query first number is) ≤ 3 * length is
unfolding subs_of
few-subs items query first number [] = omega arith
few-subs items query first number (i ∷ is) =
    let stages : List Stage = stages_at items i in
    let front : List Sub = subs_from items query first (cuts_of stages) number stages in
    let rest : List Sub = subs_of items (query + 1) (first + length (cuts_of stages)) (number + length stages) is in
    let both : length (front ++ rest) ≡ length front + length rest = length-append front rest in
    let same : length front ≡ length stages = length-subs_from items query first (cuts_of stages) number stages in
    let few : length stages ≤ 3 = item_stages-few items i in
    let more : length rest ≤ 3 * length is = few-subs items (query + 1) (first + length (cuts_of stages)) (number + length stages) is in
    omega (arith, both, same, few, more)

chain-few : (items : List Item) → chain_of (topology_of items).subs ≤ 3 * length items
chain-few items =
    let chain : chain_of (subs items) ≤ length (subs items) = chain-within (subs items) in
    let few : length (subs items) ≤ 3 * length items = few-subs items 0 (length items) 0 items in
    omega (arith, chain, few)

-- ---- the program

one-stream : (items : List Item) → IsDemo items → declared_of items ≡ hits_relation ∷ []
one-stream items is = ap declared_of is.2

hits-known : (items : List Item) → IsDemo items → topic_number items (codes "hits") ≡ Some 0
hits-known items is = ap (λ (found : List Item). topic_number found (codes "hits")) is.2

three-items : (items : List Item) → IsDemo items → length items ≡ 3
three-items items is = ap length is.2

module _ (items : List Item) (judged : IsProgramOf demo_trees items) (is : IsDemo items) (records workers : ℕ) (few : records ≤ 100000) (some : 1 ≤ workers) (fit : workers ≤ 32) where
  script-read : IsProgramRead (codes "script.sql") (demo_files records) (record { items = items })
  unfolding demo_script read_limit
  script-read = (demo_script, refl, record { trees = demo_trees; read = demo-reads; judged = judged })

  file-read : read_bytes (codes "./hits.jsonl") (demo_files records) ≡ Some (demo_topic_file records)
  unfolding read_limit
  file-read =
      let short : length (demo_topic_file records) ≤ 10000000 = demo-short records few in
      ap Some (take_all read_limit (demo_topic_file records) (omega (arith, short)))

  fed : AreFed (codes ".") (demo_files records) whole_room (declared_of items) (topic_lines hits_relation (demo_topic_file records) ∷ [])
  fed =
      subst (λ rs. AreFed (codes ".") (demo_files records) whole_room rs (topic_lines hits_relation (demo_topic_file records) ∷ [])) (sym (one-stream items is))
      (demo_topic_file records, [], (file-read, demo-good records few), refl, refl)

  steps : (steps : List Lined) × (schedule_of items (topology_of items) workers (demo_schedule records) ≡ Ok steps)
  steps =
      let chain : chain_of (topology_of items).subs ≤ 3 * length items = chain-few items in
      let three : length items ≡ 3 = three-items items is in
      demo-steps items 0 records workers (hits-known items is) (omega (arith, chain, three)) few some fit

  runs : (run : Run) × Runs (demo_asked workers) (demo_files records) run
  runs = (
    record { program = record { items = items }; files = topic_lines hits_relation (demo_topic_file records) ∷ []; workers = workers; steps = steps.0; trace = false },
    record { read = (script-read, fed); workers = refl; steps = (demo_schedule records, demo-read records few, steps.1); trace = refl },
  )

-- each demo has its text
pub demo-decided : (words : List (List ℕ)) (all : Files) (records workers : ℕ) → command_of words ≡ Some (Demo records workers) → (text : List ℕ) × HasText words all text
demo-decided words all records workers is =
    let within = within_limits words (Demo records workers) is in
    let program = demo-program in
    let found = runs program.0 program.1 program.2 records workers within.0.1 within.1.0 within.1.1 in
    subst (λ (o : Option Command). (text : List ℕ) × HasTextFor o all text) (sym is) (summary_of found.0, (found.0, found.1, refl))
