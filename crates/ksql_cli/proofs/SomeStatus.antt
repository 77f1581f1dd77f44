-- A command has a status that its words and files decide, or a file that is due isn't there.
use Rattle.std.proofs.Common.{◌≡◌, ◌⊎◌, ℕ, List, [], ◌∷◌, Option, Some, None, refl, inl, inr}
use Rattle.std.specs.Prelude.{IfSome, Result, Ok, Err}
use Rattle.ksql_types.specs.declared.code.Code.{Code}
use Rattle.ksql_types.specs.declared.relation.Relation.{Relation}
use Rattle.ksql_outside.specs.Outside.{read_bytes}
use Rattle.command_line.specs.Words.{command_of}
use Rattle.command_line.specs.declared.asked.Command.{Command}
use Rattle.command_line.specs.declared.asked.Command.TheVariants.{Run as run_words, Explain, Demo}
use Rattle.ksql_program.specs.declared.program.Program.{Program}
use Rattle.topic_files.specs.declared.topic.LineWhy.{LineWhy}
use Rattle.topic_files.specs.declared.topic.Room.{Room}
use Rattle.topic_files.specs.declared.topic.TopicLines.{TopicLines}
use Rattle.topic_files.specs.File.{first_fault, topic_lines}
use Rattle.topology.specs.Topologies.{topology_of}
use Rattle.topology.specs.declared.schedule.Lined.{Lined}
use Rattle.schedule_text.specs.Schedules.{schedule_of}
use Rattle.schedule_text.specs.declared.fault.StepWhy.{StepWhy}
use Rattle.ksql_script.specs.Script.{IsAccepted, IsRefused}
use Rattle.ksql_script.proofs.SomeScript.{some_script}
use Rattle.ksql_cli.specs.declared.asked.Asked.{Asked}
use Rattle.ksql_cli.specs.declared.status.Status.{Status}
use Rattle.ksql_cli.specs.declared.status.Status.TheVariants as ended
use Rattle.ksql_cli.specs.Command.{AreFed, AreRead, ExplainCause, Files, HasAnswer, HasAnswerFor, IsDecided, IsFirstBad, IsGood, IsProgramRead, IsScheduleRefused, IsScheduled, IsScriptRefused, IsTopicDue, RunCause, fed_once, room_after, topic_file, whole_room}
use Rattle.ksql_cli.specs.Run.{declared_of}
use Rattle.ksql_cli.specs.Stages.{IsRunDue}

-- the topic files of some relations are good, or one is the first bad one, or one that is due isn't there
abbrev TopicsEnd : List ℕ → Files → Room → List Relation → Type 0
TopicsEnd dir all room relations =
    ((files : List TopicLines) × AreFed dir all room relations files)
    ⊎ (((topic : List ℕ) × (line : ℕ) × (why : LineWhy) × IsFirstBad dir all room relations topic line why)
    ⊎ ((name : List ℕ) × IsTopicDue dir all room relations name × (read_bytes name all ≡ None)))

topics-end : (dir : List ℕ) (all : Files) (room : Room) (relations : List Relation) → TopicsEnd dir all room relations
topics-end dir all room [] = inl ([], refl)
topics-end dir all room (r ∷ rs) = read (λ file. topics-end dir all (room_after room r file) rs) (read_bytes (topic_file dir r) all) refl
  where
    others : (file : List ℕ) → IsGood dir all room r file → TopicsEnd dir all (room_after room r file) rs → TopicsEnd dir all room (r ∷ rs)
    others file good (inl fed) = inl (topic_lines r file ∷ fed.0, (file, fed.0, good, fed.1, refl))
    others file good (inr (inl bad)) = inr (inl (bad.0, bad.1, bad.2, (file, good.0, inr (good.1, bad.3))))
    others file good (inr (inr due)) = inr (inr (due.0, inr (file, good, due.1), due.2))

    looked : (file : List ℕ) → TopicsEnd dir all (room_after room r file) rs → read_bytes (topic_file dir r) all ≡ Some file → (fault : Option (ℕ × LineWhy))
        → first_fault room file ≡ fault → TopicsEnd dir all room (r ∷ rs)
    looked file rest there None good = others file (there, good) rest
    looked file rest there (Some (line, why)) bad = inr (inl (r.topic, line, why, (file, there, inl (bad, refl))))

    read : ((file : List ℕ) → TopicsEnd dir all (room_after room r file) rs) → (found : Option (List ℕ)) → read_bytes (topic_file dir r) all ≡ found
        → TopicsEnd dir all room (r ∷ rs)
    read rest None missing = inr (inr (topic_file dir r, inl refl, missing))
    read rest (Some file) there = looked file (rest file) there (first_fault room file) refl

-- the schedule of a run is read, or refused, or it isn't there
abbrev ScheduleEnd : Option (List ℕ) → ℕ → Files → Program → Type 0
ScheduleEnd o workers all program =
    ((steps : List Lined) × IsScheduled o workers all program steps)
    ⊎ (((line : ℕ) × (why : StepWhy) × IsScheduleRefused o workers all program line why)
    ⊎ ((name : List ℕ) × (o ≡ Some name) × (read_bytes name all ≡ None)))

schedule-end : (o : Option (List ℕ)) (workers : ℕ) (all : Files) (program : Program) → ScheduleEnd o workers all program
schedule-end None workers all program = inl (fed_once, refl)
schedule-end (Some name) workers all program = read (read_bytes name all) refl
  where
    looked : (bytes : List ℕ) → read_bytes name all ≡ Some bytes → (r : Result (List Lined) (ℕ × StepWhy)) →
        schedule_of program.items (topology_of program.items) workers bytes ≡ r → ScheduleEnd (Some name) workers all program
    looked bytes there (Ok steps) is = inl (steps, (bytes, there, is))
    looked bytes there (Err (line, why)) is = inr (inl (line, why, (bytes, there, is)))

    read : (found : Option (List ℕ)) → read_bytes name all ≡ found → ScheduleEnd (Some name) workers all program
    read None missing = inr (inr (name, refl, missing))
    read (Some bytes) there = looked bytes there (schedule_of program.items (topology_of program.items) workers bytes) refl

-- ---- a command

-- a status that a cause says, or a name that is due and isn't there
abbrev EndsSo : (Status → Type 0) → (List ℕ → Type 0) → Files → Type 0
EndsSo Cause Due all = ((status : Status) × IsDecided status × Cause status) ⊎ ((name : List ℕ) × Due name × (read_bytes name all ≡ None))

-- the script of this name is read as a program, refused, or isn't there
abbrev ScriptEnd : List ℕ → Files → Type 0
ScriptEnd name all = ((program : Program) × IsProgramRead name all program) ⊎ (((s : ℕ) × (c : Code) × IsScriptRefused name all s c) ⊎ (read_bytes name all ≡ None))

script-end : (name : List ℕ) (all : Files) → ScriptEnd name all
script-end name all = read (read_bytes name all) refl
  where
    judged : (script : List ℕ) → read_bytes name all ≡ Some script → ((p : Program) × IsAccepted script p) ⊎ ((s : ℕ) × (c : Code) × IsRefused script s c) → ScriptEnd name all
    judged script there (inl p) = inl (p.0, (script, there, p.1))
    judged script there (inr r) = inr (inl (r.0, r.1, (script, there, r.2)))

    read : (found : Option (List ℕ)) → read_bytes name all ≡ found → ScriptEnd name all
    read None missing = inr (inr missing)
    read (Some script) there = judged script there (some_script script)

module _ (a : Asked) (all : Files) where
  abbrev RunEnd : Type 0
  RunEnd = EndsSo (RunCause a all [] []) (IsRunDue a all) all

  taken : (program : Program) (files : List TopicLines) → AreRead a all program files → ScheduleEnd a.schedule a.workers all program → RunEnd
  taken program files read (inl steps) = inl (
    ended.Done,
    tt,
    (
      record { program = program; files = files; workers = a.workers; steps = steps.0; trace = a.trace },
      record { read = read; workers = refl; steps = steps.1; trace = refl },
    ),
  )
  taken program files read (inr (inl bad)) = inl (ended.Schedule bad.0 bad.1, tt, (program, files, read, bad.2))
  taken program files read (inr (inr due)) = inr (due.0, inr (inr (program, files, read, due.1)), due.2)

  fed : (program : Program) → IsProgramRead a.script all program → TopicsEnd a.topics all whole_room (declared_of program.items) → RunEnd
  fed program read (inl files) = taken program files.0 (read, files.1) (schedule-end a.schedule a.workers all program)
  fed program read (inr (inl bad)) = inl (ended.TopicFile bad.0 bad.1 bad.2, tt, (program, read, bad.3))
  fed program read (inr (inr due)) = inr (due.0, inr (inl (program, read, due.1)), due.2)

  run-ends : ScriptEnd a.script all → RunEnd
  run-ends (inl p) = fed p.0 p.1 (topics-end a.topics all whole_room (declared_of p.0.items))
  run-ends (inr (inl r)) = inl (ended.Script r.0 r.1, tt, r.2)
  run-ends (inr (inr missing)) = inr (a.script, inl refl, missing)

explain-ends : (name : List ℕ) (all : Files) → ScriptEnd name all → EndsSo (ExplainCause name all [] []) (λ due. due ≡ name) all
explain-ends name all (inl p) = inl (ended.Done, tt, p)
explain-ends name all (inr (inl r)) = inl (ended.Script r.0 r.1, tt, r.2)
explain-ends name all (inr (inr missing)) = inr (name, refl, missing)

command-ends : (o : Option Command) (all : Files) → HasAnswerFor o all
command-ends (Some (run_words script topics workers schedule trace)) all =
    run-ends (record { script = script; topics = topics; workers = workers; schedule = schedule; trace = trace }) all (script-end script all)
command-ends (Some (Explain script)) all = explain-ends script all (script-end script all)
command-ends (Some (Demo records workers)) all = tt
command-ends None all = inl (ended.Usage, tt, inl refl)

pub told_status : (files : Option Files) (words : List (List ℕ)) → IfSome files (λ all. HasAnswer words all)
told_status None words = tt
told_status (Some all) words = command-ends (command_of words) all
