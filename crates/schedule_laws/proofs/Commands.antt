-- The texts of commands that run one script on the same topic files.
use Rattle.std.proofs.Common.{◌≡◌, ◌∙◌, ap, ap₂, sym, subst, ℕ, ◌≤◌, Bool, true, false, cond, List, [], ◌∷◌, ◌++◌, codes, length, map}
use Rattle.std.proofs.lemmas.Option.{same_Some}
use Rattle.std.specs.Prelude.{IfOk, Option, None, Some, Result, Ok}
use Rattle.ksql_types.specs.declared.relation.Relation.{Relation}
use Rattle.ksql_lexer.specs.Script.{kinds}
use Rattle.ksql_parser.specs.Script.{statements}
use Rattle.statement_trees.specs.declared.tree.Statement.{Statement}
use Rattle.ksql_analyse.specs.Judgement.{AreParsed}
use Rattle.ksql_analyse.proofs.sound.SoundPrograms.{sound}
use Rattle.ksql_outside.specs.Outside.{read_bytes}
use Rattle.ksql_script.specs.Reading.{Reads, Refusal}
use Rattle.ksql_script.specs.Script.{IsAccepted}
use Rattle.ksql_script.proofs.OneScript.{one_program}
use Rattle.command_line.proofs.Limits.{within_limits}
use Rattle.command_line.specs.Words.{command_of}
use Rattle.command_line.specs.declared.asked.Command.{Command}
use Rattle.command_line.specs.declared.asked.Command.TheVariants.{Run as run_words}
use Rattle.ksql_place.specs.declared.change.SourceRecord.{SourceRecord}
use Rattle.ksql_program.specs.Program.{relations}
use Rattle.ksql_program.specs.Sound.{IsSound}
use Rattle.ksql_program.specs.declared.program.Item.{Item}
use Rattle.ksql_program.specs.declared.program.Item.TheVariants.{Declared, Started}
use Rattle.ksql_program.specs.declared.program.Program.{Program}
use Rattle.topic_files.specs.declared.topic.Room.{Room}
use Rattle.topic_files.specs.declared.topic.TopicLines.{TopicLines}
use Rattle.topic_files.specs.File.{topic_lines}
use Rattle.topology.specs.Topologies.{topology_of}
use Rattle.topology.specs.declared.schedule.Lined.{Lined}
use Rattle.topology.specs.declared.schedule.Step.{Step}
use Rattle.feed_laws.proofs.FileRecords.{fits-file}
use Rattle.feed_laws.specs.Fitting.{AreFilesOf}
use Rattle.schedule_text.specs.Schedules.{schedule_of}
use Rattle.schedule_text.specs.declared.fault.StepWhy.{StepWhy}
use Rattle.run_text.specs.Report.{report}
use Rattle.cluster_laws.specs.Progress.{opening}
use Rattle.schedule_laws.proofs.Draining.{fed-once-order}
use Rattle.ksql_cli.specs.Command.{AreFed, Files, HasText, HasTextFor, IsProgramRead, IsScheduled, Runs, room_after, topic_file, whole_room}
use Rattle.ksql_cli.specs.Run.{Run, declared_of, progress, progress_of, report_of, trace_in}
use Rattle.trace_text.specs.Trace.{trace_of}
use Rattle.schedule_laws.specs.Commands.{HasFeeds}
use Rattle.schedule_laws.specs.Drained.{DrainsHaveWorkers, feeds_of, is_drained}
use Rattle.schedule_laws.specs.Reports.{AreAlike, EndsDrained, ShowsAllAtOnce, ShowsTheWhole, whole_section}
use Rattle.schedule_laws.proofs.Alike.{alike, shows-whole}
use Rattle.schedule_laws.proofs.DrainWorkers.{run-workers}
use Rattle.schedule_laws.proofs.Workers.{one-list}

-- ---- a script

parsed : (script : List ℕ) (r : Result (List Statement) Refusal) → Reads script r → IfOk r AreParsed
parsed script r (Reads.too_long p) = tt
parsed script r (Reads.not_utf8 p q) = tt
parsed script r (Reads.no_token p q) = tt
parsed script r (Reads.no_tree p q h) = tt
parsed script r (Reads.all_trees {ts} p q h) = (statements (kinds ts), h)

-- the program of a script is sound
accepted-sound : (script : List ℕ) (program : Program) → IsAccepted script program → IsSound program.items
accepted-sound script program is = sound is.trees program.items (parsed script (Ok is.trees) is.read) is.judged

pub one-bytes : (name : List ℕ) (all : Files) (a b : List ℕ) → read_bytes name all ≡ Some a → read_bytes name all ≡ Some b → a ≡ b
one-bytes name all a b first second = same_Some a b (sym first ∙ second)

one-read : (name : List ℕ) (all : Files) (p q : Program) → IsProgramRead name all p → IsProgramRead name all q → p ≡ q
one-read name all p q a b = one_program b.0 p q (subst (λ (script : List ℕ). IsAccepted script p) (one-bytes name all a.0 b.0 a.1 b.1) a.2) b.2

-- ---- topic files

one-fed : (dir : List ℕ) (all : Files) (room : Room) (relations : List Relation) (a b : List TopicLines) → AreFed dir all room relations a → AreFed dir all room relations b → a ≡ b
one-fed dir all room [] a b first second = first ∙ sym second
one-fed dir all room (r ∷ rs) a b first second =
    let same : first.0 ≡ second.0 = one-bytes (topic_file dir r) all first.0 second.0 first.2.0 second.2.0 in
    let rest : first.1 ≡ second.1 =
    one-fed dir all (room_after room r second.0) rs first.1 second.1 (subst (λ (file : List ℕ). AreFed dir all (room_after room r file) rs first.1) same first.3) second.3 in
    first.4 ∙ (λ i. topic_lines r (same i) ∷ rest i) ∙ sym second.4

fed-fit : (dir : List ℕ) (all : Files) (room : Room) (items : List Item) (files : List TopicLines) → AreFed dir all room (declared_of items) files → AreFilesOf items files
fed-fit dir all room [] files fed = subst (AreFilesOf []) (sym fed) tt
fed-fit dir all room (Declared r ∷ items) files fed =
    subst (AreFilesOf (Declared r ∷ items)) (sym fed.4) (fits-file r fed.0, fed-fit dir all (room_after room r fed.0) items fed.1 fed.3)
fed-fit dir all room (Started q ∷ items) files fed = fed-fit dir all room items files fed

-- ---- a schedule

one-ok : (r : Result (List Lined) (ℕ × StepWhy)) (a b : List Lined) → r ≡ Ok a → r ≡ Ok b → a ≡ b
one-ok r a b first second = let both : ◌≡◌ {A = Result (List Lined) (ℕ × StepWhy)} (Ok a) (Ok b) = sym first ∙ second in cc (both)

one-schedule : (o : Option (List ℕ)) (workers : ℕ) (all : Files) (p : Program) (a b : List Lined) → IsScheduled o workers all p a → IsScheduled o workers all p b → a ≡ b
one-schedule None workers all p a b first second = first ∙ sym second
one-schedule (Some name) workers all p a b first second =
    one-ok (schedule_of p.items (topology_of p.items) workers second.0) a b
    (ap (schedule_of p.items (topology_of p.items) workers) (one-bytes name all second.0 first.0 second.1 first.1) ∙ first.2) second.2

-- ---- runs

module _ (script topics : List ℕ) (workers : ℕ) (schedule : Option (List ℕ)) (trace : Bool) (all : Files) (run : Run)
    (runs : Runs (record { script = script; topics = topics; workers = workers; schedule = schedule; trace = trace }) all run) where
  -- a run ends drained where its schedule does
  pub runs-ends : 1 ≤ workers → is_drained run.steps ≡ true → EndsDrained run
  runs-ends some drains = record {
    have_workers = subst (λ (n : ℕ). DrainsHaveWorkers (topology_of run.program.items) (opening (topology_of run.program.items) run.program.items run.files n) run.steps) (sym runs.workers)
        (run-workers run.program run.files schedule workers all run.steps some runs.steps);
    drained = drains;
  }

  pub runs-sound : IsSound run.program.items
  runs-sound = accepted-sound runs.read.0.0 run.program runs.read.0.2

  runs-whole : 1 ≤ workers → is_drained run.steps ≡ true → ShowsTheWhole run
  runs-whole some drains = shows-whole run runs-sound (fed-fit topics all whole_room run.program.items run.files runs.read.1) (runs-ends some drains)

runs-at-once : (script topics : List ℕ) (workers : ℕ) (trace : Bool) (all : Files) (run : Run) →
    Runs (record { script = script; topics = topics; workers = workers; schedule = None; trace = trace }) all run → 1 ≤ workers → ShowsAllAtOnce run
runs-at-once script topics workers trace all run runs some =
    let drains : is_drained run.steps ≡ true = ap is_drained runs.steps in
    runs-whole script topics workers None trace all run runs some drains
    ∙ ap₂ (λ (feed : ℕ) (order : List SourceRecord). report (relations run.program.items) order (map (whole_section run.program.items feed order) run.program.items) (trace_in run))
    (ap (λ (steps : List Lined). length (feeds_of steps)) runs.steps)
    (ap (λ (steps : List Lined). (progress run.program.items run.files run.workers steps).order) runs.steps ∙ fed-once-order run.program.items run.files run.workers)

-- a command has a worker
some-worker : (words : List (List ℕ)) (script topics : List ℕ) (workers : ℕ) (schedule : Option (List ℕ)) (trace : Bool) →
    command_of words ≡ Some (run_words script topics workers schedule trace) → 1 ≤ workers
some-worker words script topics workers schedule trace is = (within_limits words (run_words script topics workers schedule trace) is).2.0

pub command-workers : (words : List (List ℕ)) (all : Files) (script topics : List ℕ) (workers : ℕ) (schedule : Option (List ℕ)) (trace : Bool)
    (program : Program) (files : List TopicLines) (steps : List Lined) → command_of words ≡ Some (run_words script topics workers schedule trace) →
    IsScheduled schedule workers all program steps → DrainsHaveWorkers (topology_of program.items) (opening (topology_of program.items) program.items files workers) steps
command-workers words all script topics workers schedule trace program files steps is =
    run-workers program files schedule workers all steps (some-worker words script topics workers schedule trace is)

pub command-whole : (words : List (List ℕ)) (all : Files) (script topics : List ℕ) (workers : ℕ) (schedule : Option (List ℕ)) (trace : Bool) (run : Run) →
    command_of words ≡ Some (run_words script topics workers schedule trace) →
    Runs (record { script = script; topics = topics; workers = workers; schedule = schedule; trace = trace }) all run → is_drained run.steps ≡ true → ShowsTheWhole run
command-whole words all script topics workers schedule trace run is runs =
    runs-whole script topics workers schedule trace all run runs (some-worker words script topics workers schedule trace is)

pub command-at-once : (words : List (List ℕ)) (all : Files) (script topics : List ℕ) (workers : ℕ) (trace : Bool) (run : Run) →
    command_of words ≡ Some (run_words script topics workers None trace) →
    Runs (record { script = script; topics = topics; workers = workers; schedule = None; trace = trace }) all run → ShowsAllAtOnce run
command-at-once words all script topics workers trace run is runs =
    runs-at-once script topics workers trace all run runs (some-worker words script topics workers None trace is)

-- ---- texts

untraced : (run : Run) → run.trace ≡ false → trace_in run ≡ []
untraced run none = ap (λ b. cond b (trace_of (progress_of run).journal run.steps) []) none

alike-untraced : (a b : Run) → AreAlike a b → a.trace ≡ false → b.trace ≡ false → report_of a ≡ report_of b
alike-untraced a b are none nothing =
    are.1 ∙ ap (λ (t : List ℕ). are.0 ++ (t ++ codes "end\n")) (untraced a none ∙ sym (untraced b nothing)) ∙ sym are.2

module _ (all : Files) (script topics : List ℕ) (workers more : ℕ) (schedule other : Option (List ℕ)) (trace debug : Bool) (a b : Run)
    (first : Runs (record { script = script; topics = topics; workers = workers; schedule = schedule; trace = trace }) all a)
    (second : Runs (record { script = script; topics = topics; workers = more; schedule = other; trace = debug }) all b) where
  pub one-program : a.program ≡ b.program
  one-program = one-read script all a.program b.program first.read.0 second.read.0

  pub one-files : a.files ≡ b.files
  one-files =
      one-fed topics all whole_room (declared_of b.program.items) a.files b.files
      (subst (λ (p : Program). AreFed topics all whole_room (declared_of p.items) a.files) one-program first.read.1) second.read.1

  pub runs-alike : 1 ≤ workers → 1 ≤ more → feeds_of a.steps ≡ feeds_of b.steps → is_drained a.steps ≡ true → is_drained b.steps ≡ true → AreAlike a b
  runs-alike some others feeds drains ends =
      alike a b (runs-sound script topics workers schedule trace all a first) one-program one-files feeds (runs-ends script topics workers schedule trace all a first some drains)
      (runs-ends script topics more other debug all b second others ends)

-- the steps of a run are those that its schedule is known to have
known-steps : (script topics : List ℕ) (workers : ℕ) (schedule : Option (List ℕ)) (trace : Bool) (all : Files) (run : Run) (program : Program) (feeds : List Step) →
    Runs (record { script = script; topics = topics; workers = workers; schedule = schedule; trace = trace }) all run → IsProgramRead script all program →
    (has : HasFeeds schedule workers all program feeds) → has.steps ≡ run.steps
known-steps script topics workers schedule trace all run program feeds runs read has =
    one-schedule schedule workers all program has.steps run.steps has.read
    (subst (λ (p : Program). IsScheduled schedule workers all p run.steps) (one-read script all run.program program runs.read.0 read) runs.steps)

pub same-text : (words others : List (List ℕ)) (all : Files) (script topics : List ℕ) (workers more : ℕ) (schedule other : Option (List ℕ)) (program : Program) (feeds : List Step)
    (text same : List ℕ) →
    command_of words ≡ Some (run_words script topics workers schedule false) → command_of others ≡ Some (run_words script topics more other false) →
    IsProgramRead script all program → HasFeeds schedule workers all program feeds → HasFeeds other more all program feeds → HasText words all text → HasText others all same → text ≡ same
same-text words others all script topics workers more schedule other program feeds text same first second read one two has have =
    let a : HasTextFor (Some (run_words script topics workers schedule false)) all text = subst (λ (o : Option Command). HasTextFor o all text) first has in
    let b : HasTextFor (Some (run_words script topics more other false)) all same = subst (λ (o : Option Command). HasTextFor o all same) second have in
    let steps : one.steps ≡ a.0.steps = known-steps script topics workers schedule false all a.0 program feeds a.1 read one in
    let moves : two.steps ≡ b.0.steps = known-steps script topics more other false all b.0 program feeds b.1 read two in
    let are : AreAlike a.0 b.0 =
    runs-alike all script topics workers more schedule other false false a.0 b.0 a.1 b.1
    (some-worker words script topics workers schedule false first) (some-worker others script topics more other false second)
    (ap feeds_of (sym steps) ∙ one.fed ∙ sym two.fed ∙ ap feeds_of moves)
    (subst (λ (ls : List Lined). is_drained ls ≡ true) steps one.drained)
    (subst (λ (ls : List Lined). is_drained ls ≡ true) moves two.drained) in
    a.2 ∙ alike-untraced a.0 b.0 are a.1.trace b.1.trace ∙ sym b.2

-- one schedule has the same steps for other workers
pub other-workers : (o : Option (List ℕ)) (workers more : ℕ) (all : Files) (p : Program) (steps moves : List Lined) → IsScheduled o workers all p steps → IsScheduled o more all p moves → steps ≡ moves
other-workers None workers more all p steps moves first second = first ∙ sym second
other-workers (Some name) workers more all p steps moves first second =
    one-list p.items (topology_of p.items) workers more second.0 steps moves
    (ap (schedule_of p.items (topology_of p.items) workers) (one-bytes name all second.0 first.0 second.1 first.1) ∙ first.2) second.2

pub same-workers : (words others : List (List ℕ)) (all : Files) (script topics : List ℕ) (workers more : ℕ) (schedule : Option (List ℕ)) (program : Program) (feeds : List Step)
    (text same : List ℕ) →
    command_of words ≡ Some (run_words script topics workers schedule false) → command_of others ≡ Some (run_words script topics more schedule false) →
    IsProgramRead script all program → HasFeeds schedule workers all program feeds → HasText words all text → HasText others all same → text ≡ same
same-workers words others all script topics workers more schedule program feeds text same first second read one has have =
    let b : HasTextFor (Some (run_words script topics more schedule false)) all same = subst (λ (o : Option Command). HasTextFor o all same) second have in
    let moves : IsScheduled schedule more all program b.0.steps =
    subst (λ (p : Program). IsScheduled schedule more all p b.0.steps) (one-read script all b.0.program program b.1.read.0 read) b.1.steps in
    let steps : one.steps ≡ b.0.steps = other-workers schedule workers more all program one.steps b.0.steps one.read moves in
    same-text words others all script topics workers more schedule schedule program feeds text same first second read one
    (record { steps = b.0.steps; read = moves; fed = ap feeds_of (sym steps) ∙ one.fed; drained = ap is_drained (sym steps) ∙ one.drained })
    has have
