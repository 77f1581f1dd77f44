-- At each drain of a schedule that is read a worker is live.
use Rattle.std.proofs.Common.{◌≡◌, ◌≢◌, ◌∙◌, ap, refl, sym, subst, subst₂, ℕ, zero, suc, ◌+◌, ◌≤◌, Bool, true, false, cond, List, [], ◌∷◌, ◌++◌, length, length-append, arith}
use Rattle.std.specs.Prelude.{IfSome, Option, None, Some, option_and_then, option_map, Ok, ◌==◌, nat_le, nat_lt, min}
use Rattle.std.specs.List.{cons_option, fold, range_with_len}
use Rattle.std.specs.Option.{option_or}
use Rattle.std.proofs.lemmas.List.Sums.{fold-append}
use Rattle.ksql_program.specs.declared.program.Item.{Item}
use Rattle.ksql_program.specs.declared.program.Program.{Program}
use Rattle.topic_files.specs.File.{bytes_of}
use Rattle.topic_files.specs.Lines.{lines_of}
use Rattle.topic_files.specs.declared.topic.TopicLines.{TopicLines}
use Rattle.topology.specs.Tasks.{chain_of}
use Rattle.topology.specs.Topologies.{topology_of}
use Rattle.topology.specs.declared.schedule.Count.{Count}
use Rattle.topology.specs.declared.schedule.Lined.{Lined}
use Rattle.topology.specs.declared.schedule.Step.{Step}
use Rattle.topology.specs.declared.schedule.Step.TheVariants as step
use Rattle.topology.specs.declared.topology.Topology.{Topology}
use Rattle.schedule_text.specs.declared.fault.StepWhy.{StepWhy}
use Rattle.schedule_text.specs.declared.fault.StepWhy.TheVariants.{NoWorker, TooLarge}
use Rattle.schedule_text.specs.Forms.{Form, form_of_line}
use Rattle.schedule_text.specs.Forms as form
use Rattle.schedule_text.specs.Lines.{is_skipped}
use Rattle.schedule_text.specs.Refusals.{Setting, form_refusal, most_bytes, most_rounds, most_steps, refusal_of, refused_if}
use Rattle.schedule_text.specs.Schedules.{first_refused, lined, lined_steps, schedule_of, setting_of}
use Rattle.schedule_text.specs.Steps.{all_rounds, counts_of, live_after, live_after_one, step_of, step_of_line, steps_of}
use Rattle.schedule_text.proofs.OneLine.{steps-more}
use Rattle.schedule_text.proofs.Taken.{schedule-accepted}
use Rattle.cluster_laws.specs.Progress.{Progress, after_line, after_step, opening, round, rounds}
use Rattle.core_state.specs.declared.journal.JournalEntry.TheVariants as entry
use Rattle.ksql_cli.specs.Command.{Files, IsScheduled}
use Rattle.schedule_laws.specs.Drained.{DrainsHaveWorkers}

-- ---- the live workers

rounds-live : (t : Topology) (n : ℕ) (p : Progress) → (rounds t n p).live ≡ p.live
rounds-live t zero p = refl
rounds-live t (suc n) p = rounds-live t n (round None t p)

-- they are after a step as those of the text
step-live : (t : Topology) (p : Progress) (s : Step) → (after_step t p s).live ≡ live_after_one p.live s
step-live t p step.FeedAll = refl
step-live t p (step.Feed counts) = refl
step-live t p (step.Round None stalled) = refl
step-live t p (step.Round (Some lost) stalled) = refl
step-live t p (step.Start worker) = refl
step-live t p (step.Stop worker) = refl
step-live t p (step.Lose task) = refl
step-live t p step.Drain = rounds-live t (chain_of t.subs) p
step-live t p (step.Wake worker) = refl

-- ---- a line

-- a drain has a live worker
abbrev HasWorker : List ℕ → Step → Type 0
HasWorker live s = s ≡ step.Drain → live ≢ []

fed-workers : (live : List ℕ) (counts : Option (List Count)) → IfSome (option_map step.Feed counts) (HasWorker live)
fed-workers live None = tt
fed-workers live (Some counts) = λ is. absurd (cc (is))

some-live : (live : List ℕ) → refused_if (length live == 0) NoWorker ≡ None → live ≢ []
some-live [] is none = absurd (cc (is))
some-live (worker ∷ live) is none = absurd (cc (none))

form-workers : (setting : Setting) (live : List ℕ) (o : Option Form) → form_refusal setting live o ≡ None → IfSome (option_and_then (step_of setting.items) o) (HasWorker live)
form-workers setting live None fits = tt
form-workers setting live (Some form.feed_all) fits = λ is. absurd (cc (is))
form-workers setting live (Some (form.feed pairs)) fits = fed-workers live (counts_of setting.items pairs)
form-workers setting live (Some (form.round lost)) fits = λ is. absurd (cc (is))
form-workers setting live (Some (form.start worker)) fits = λ is. absurd (cc (is))
form-workers setting live (Some (form.stop worker)) fits = λ is. absurd (cc (is))
form-workers setting live (Some (form.lose task)) fits = λ is. absurd (cc (is))
form-workers setting live (Some form.drain) fits = λ is. some-live live fits

-- a line that isn't refused is skipped, or its form isn't refused
passed : (long skipped late : Bool) (form rounds : Option StepWhy) (o : Option Step) (P : Step → Type 0) → (form ≡ None → IfSome o P) →
    cond long (Some TooLarge) (cond skipped None (cond late (Some TooLarge) (option_or form rounds))) ≡ None → IfSome (cond skipped None o) P
passed true skipped late form rounds o P h fits = absurd (cc (fits))
passed false true late form rounds o P h fits = tt
passed false false true form rounds o P h fits = absurd (cc (fits))
passed false false false None rounds o P h fits = h refl
passed false false false (Some why) rounds o P h fits = absurd (cc (fits))

line-workers : (setting : Setting) (workers : ℕ) (before : List (List ℕ)) (line : List ℕ) → refusal_of setting workers before line ≡ None →
    IfSome (step_of_line setting.items line) (HasWorker (live_after workers (steps_of setting.items before)))
line-workers setting workers before line =
    passed (nat_lt most_bytes (min (bytes_of (before ++ line ∷ [])) setting.size)) (is_skipped line) (nat_le most_steps (length (steps_of setting.items before)))
    (form_refusal setting (live_after workers (steps_of setting.items before)) (form_of_line line))
    (refused_if (nat_lt most_rounds (all_rounds setting.chain (steps_of setting.items (before ++ line ∷ [])))) TooLarge) (option_and_then (step_of setting.items) (form_of_line line))
    (HasWorker (live_after workers (steps_of setting.items before))) (form-workers setting (live_after workers (steps_of setting.items before)) (form_of_line line))

-- the live workers after one more line
live-more : (items : List Item) (workers : ℕ) (before : List (List ℕ)) (line : List ℕ) →
    live_after workers (steps_of items (before ++ line ∷ [])) ≡ fold live_after_one (live_after workers (steps_of items before)) (cons_option (step_of_line items line) [])
live-more items workers before line =
    ap (live_after workers) (steps-more items before line) ∙ fold-append live_after_one (range_with_len 1 workers) (steps_of items before) (cons_option (step_of_line items line) [])

-- ---- lines

-- steps from where these workers are live
abbrev DrainsHaveWorkersFrom : Topology → List ℕ → List Lined → Type 0
DrainsHaveWorkersFrom t live steps = (p : Progress) → p.live ≡ live → DrainsHaveWorkers t p steps

after-workers : (t : Topology) (line : ℕ) (live : List ℕ) (o : Option Step) (more : List Lined) → IfSome o (HasWorker live) →
    DrainsHaveWorkersFrom t (fold live_after_one live (cons_option o [])) more → DrainsHaveWorkersFrom t live (lined line o ++ more)
after-workers t line live None more has then = then
after-workers t line live (Some s) more has then = λ p is. (
  λ drain none. has drain (sym is ∙ none),
  then (after_line t p (record { line = line; step = s })) (step-live t (record p { journal = p.journal ++ entry.Step line ∷ [] }) s ∙ ap (λ (ws : List ℕ). live_after_one ws s) is),
)

-- neither this line is refused nor one after it
none-refused : (number : ℕ) (o : Option StepWhy) (rest : Option (ℕ × StepWhy)) → option_or (option_map (λ why. (number, why)) o) rest ≡ None → (o ≡ None) × (rest ≡ None)
none-refused number None rest is = (refl, is)
none-refused number (Some why) rest is = absurd (cc (is))

lines-workers : (t : Topology) (setting : Setting) (workers : ℕ) (before lines : List (List ℕ)) → first_refused setting workers before lines ≡ None →
    DrainsHaveWorkersFrom t (live_after workers (steps_of setting.items before)) (lined_steps setting.items (length before) lines)
lines-workers t setting workers before [] fits = λ p is. tt
lines-workers t setting workers before (line ∷ more) fits =
    let both = none-refused (length before + 1) (refusal_of setting workers before line) (first_refused setting workers (before ++ line ∷ []) more) fits in
    after-workers t (length before + 1) (live_after workers (steps_of setting.items before)) (step_of_line setting.items line) (lined_steps setting.items (length before + 1) more)
    (line-workers setting workers before line both.0)
    (subst₂ (λ (live : List ℕ) (n : ℕ). DrainsHaveWorkersFrom t live (lined_steps setting.items n more)) (live-more setting.items workers before line) (length-append before (line ∷ []))
    (lines-workers t setting workers (before ++ line ∷ []) more both.1))

-- ---- schedules

pub text-workers : (items : List Item) (files : List TopicLines) (workers : ℕ) (bytes : List ℕ) (steps : List Lined) →
    schedule_of items (topology_of items) workers bytes ≡ Ok steps → DrainsHaveWorkers (topology_of items) (opening (topology_of items) items files workers) steps
text-workers items files workers bytes steps is =
    let accepted = schedule-accepted items (topology_of items) workers bytes steps is in
    subst (DrainsHaveWorkers (topology_of items) (opening (topology_of items) items files workers)) (sym accepted.1)
    (lines-workers (topology_of items) (setting_of items (topology_of items) (length bytes)) workers [] (lines_of bytes) accepted.0 (opening (topology_of items) items files workers) refl)

some-workers : (n : ℕ) → 1 ≤ n → range_with_len 1 n ≢ []
some-workers zero some none = absurd (omega (arith, some))
some-workers (suc n) some none = let long : suc (length (range_with_len 2 n)) ≡ 0 = ap length none in absurd (omega (arith, long))

pub run-workers : (program : Program) (files : List TopicLines) (name : Option (List ℕ)) (workers : ℕ) (all : Files) (steps : List Lined) → 1 ≤ workers →
    IsScheduled name workers all program steps → DrainsHaveWorkers (topology_of program.items) (opening (topology_of program.items) program.items files workers) steps
run-workers program files None workers all steps some is =
    subst (DrainsHaveWorkers (topology_of program.items) (opening (topology_of program.items) program.items files workers)) (sym is)
    (λ drain. absurd (cc (drain)), (λ drain. some-workers workers some, tt))
run-workers program files (Some name) workers all steps some is = text-workers program.items files workers is.0 steps is.2
