-- What a command reads and runs, and the cause of each of its statuses.
use Rattle.std.specs.Prelude.{◌≡◌, ◌⊎◌, ℕ, ◌-◌, length, false, List, [], ◌∷◌, ◌++◌, codes, Option, None, Some, Ok, Err}
use Rattle.std.specs.List.{AllByRecursion}
use Rattle.ksql_types.specs.declared.code.Code.{Code}
use Rattle.ksql_types.specs.declared.relation.Relation.{Relation}
use Rattle.demo_files.specs.Demo.{demo_schedule, demo_script, demo_topic_file}
use Rattle.ksql_outside.specs.Outside.{read_bytes, JoinedLast}
use Rattle.command_line.specs.Words.{command_of}
use Rattle.command_line.specs.declared.asked.Command.{Command}
use Rattle.command_line.specs.declared.asked.Command.TheVariants.{Run as run_words, Explain, Demo}
use Rattle.ksql_program.specs.declared.program.Program.{Program}
use Rattle.ksql_script.specs.Script.{IsAccepted, IsRefused}
use Rattle.topic_files.specs.declared.topic.Fed.{Fed}
use Rattle.topic_files.specs.declared.topic.LineWhy.{LineWhy}
use Rattle.topic_files.specs.declared.topic.Room.{Room}
use Rattle.topic_files.specs.declared.topic.TopicLines.{TopicLines}
use Rattle.topic_files.specs.File.{first_fault, topic_lines}
use Rattle.topology.specs.Topologies.{topology_of}
use Rattle.topology.specs.declared.schedule.Lined.{Lined}
use Rattle.topology.specs.declared.schedule.Step.TheVariants as step
use Rattle.topology_build.specs.Text.{topology_text}
use Rattle.schedule_text.specs.Schedules.{schedule_of}
use Rattle.schedule_text.specs.declared.fault.StepWhy.{StepWhy}
use Rattle.ksql_cli.specs.declared.asked.Asked.{Asked}
use Rattle.ksql_cli.specs.declared.status.Status.{Status}
use Rattle.ksql_cli.specs.declared.status.Status.TheVariants as ended
use Rattle.ksql_cli.specs.Run.{Run, declared_of, report_of, summary_of}

-- files, by name
abbrev pub Files : Type 0
Files = List (List ℕ × List ℕ)

-- ---- the script

-- the script with this name is accepted as this program
abbrev pub IsProgramRead : List ℕ → Files → Program → Type 0
IsProgramRead name all program = (script : List ℕ) × (read_bytes name all ≡ Some script) × IsAccepted script program

-- the script with this name is refused in this statement with this code
abbrev pub IsScriptRefused : List ℕ → Files → ℕ → Code → Type 0
IsScriptRefused name all statement code = (script : List ℕ) × (read_bytes name all ≡ Some script) × IsRefused script statement code

-- ---- the topic files

-- the name of a relation's topic file in a folder
abbrev pub topic_file : List ℕ → Relation → List ℕ
topic_file dir relation = dir ++ (codes "/" ++ (relation.topic ++ codes ".jsonl"))

-- the most records and bytes that all topic files can have together
unfoldable pub whole_room : Room
whole_room = record { records = 200000; bytes = 67108864 }

-- the room that a file leaves for those after it
abbrev pub room_after_feds : Room → List ℕ → List Fed → Room
room_after_feds room file feds = record { records = room.records - length feds; bytes = room.bytes - length file }

-- this is the relation's topic file, and it has no fault within the room
abbrev pub IsGood : List ℕ → Files → Room → Relation → List ℕ → Type 0
IsGood dir all room relation file = (read_bytes (topic_file dir relation) all ≡ Some file) × (first_fault room file ≡ None)

-- the room after a relation's topic file
abbrev pub room_after : Room → Relation → List ℕ → Room
room_after room relation file = room_after_feds room file (topic_lines relation file).feds

-- the topic files of the relations are good within a room that they share, and these are their records: one file for
-- each relation, in order
abbrev pub AreFed : List ℕ → Files → Room → List Relation → List TopicLines → Type 0
AreFed dir all room [] files = files ≡ []
AreFed dir all room (relation ∷ relations) files =
    (file : List ℕ) × (others : List TopicLines) × IsGood dir all room relation file
    × AreFed dir all (room_after room relation file) relations others × (files ≡ topic_lines relation file ∷ others)

-- the first topic file that isn't good is that of this topic, with this as its first fault
abbrev pub IsFirstBad : List ℕ → Files → Room → List Relation → List ℕ → ℕ → LineWhy → Type 0
IsFirstBad dir all room [] topic line why = ⊥
IsFirstBad dir all room (relation ∷ relations) topic line why =
    (file : List ℕ) × (read_bytes (topic_file dir relation) all ≡ Some file)
    × (((first_fault room file ≡ Some (line, why)) × (topic ≡ relation.topic))
    ⊎ ((first_fault room file ≡ None) × IsFirstBad dir all (room_after room relation file) relations topic line why))

-- the topic files before the one with this name are good
abbrev pub IsTopicDue : List ℕ → Files → Room → List Relation → List ℕ → Type 0
IsTopicDue dir all room [] name = ⊥
IsTopicDue dir all room (relation ∷ relations) name =
    (name ≡ topic_file dir relation) ⊎ ((file : List ℕ) × IsGood dir all room relation file × IsTopicDue dir all (room_after room relation file) relations name)

-- ---- the schedule

-- a schedule of one feed of all records and a drain
abbrev pub fed_once : List Lined
fed_once = record { line = 1; step = step.FeedAll } ∷ record { line = 2; step = step.Drain } ∷ []

-- the steps of a run: without a schedule one feed of all records and a drain, else those of the schedule's file
abbrev pub IsScheduled : Option (List ℕ) → ℕ → Files → Program → List Lined → Type 0
IsScheduled None workers all program steps = steps ≡ fed_once
IsScheduled (Some name) workers all program steps =
    (bytes : List ℕ) × (read_bytes name all ≡ Some bytes) × (schedule_of program.items (topology_of program.items) workers bytes ≡ Ok steps)

-- the schedule is refused at this line
abbrev pub IsScheduleRefused : Option (List ℕ) → ℕ → Files → Program → ℕ → StepWhy → Type 0
IsScheduleRefused None workers all program line why = ⊥
IsScheduleRefused (Some name) workers all program line why =
    (bytes : List ℕ) × (read_bytes name all ≡ Some bytes) × (schedule_of program.items (topology_of program.items) workers bytes ≡ Err (line, why))

-- ---- the demo

-- the files of a demo of n records, which aren't read from a folder
abbrev pub demo_files : ℕ → Files
demo_files records =
    (codes "script.sql", demo_script) ∷ (codes "./hits.jsonl", demo_topic_file records) ∷ (codes "schedule", demo_schedule records) ∷ []

-- the run of a demo
abbrev pub demo_asked : ℕ → Asked
demo_asked workers =
    record { script = codes "script.sql"; topics = codes "."; workers = workers; schedule = Some (codes "schedule"); trace = false }

-- ---- what is due

-- the script is accepted as this program, and its topic files have these records
abbrev pub AreRead : Asked → Files → Program → List TopicLines → Type 0
AreRead a all program files = IsProgramRead a.script all program × AreFed a.topics all whole_room (declared_of program.items) files

-- a file with this name is due in a run after its script: a topic file if those before it are good, or the schedule if
-- all are
abbrev pub IsLaterDue : Asked → Files → List ℕ → Type 0
IsLaterDue a all name =
    ((program : Program) × IsProgramRead a.script all program × IsTopicDue a.topics all whole_room (declared_of program.items) name)
    ⊎ ((program : Program) × (files : List TopicLines) × AreRead a all program files × (a.schedule ≡ Some name))

-- a file with this name is due for a command: its script, and in a run the others
abbrev pub IsDueFor : Option Command → Files → List ℕ → Type 0
IsDueFor (Some (run_words script topics workers schedule trace)) all name =
    (name ≡ script) ⊎ IsLaterDue (record { script = script; topics = topics; workers = workers; schedule = schedule; trace = trace }) all name
IsDueFor (Some (Explain script)) all name = name ≡ script
IsDueFor _ all name = ⊥

abbrev pub IsDue : List (List ℕ) → Files → List ℕ → Type 0
IsDue words all name = IsDueFor (command_of words) all name

-- all names that joined are due
abbrev pub AreDue : List (List ℕ) → Files → List (List ℕ) → List (List ℕ) → Type 0
AreDue words all old new = (names : List (List ℕ)) × (new ≡ old ++ names) × AllByRecursion (IsDue words all) names

-- ---- what is run

-- the requested run: of the script's program on its topic files, with this many workers and the steps of its schedule
pub record Runs (a : Asked) (all : Files) (run : Run) : Type 0 where
  pub read : AreRead a all run.program run.files
  pub workers : run.workers ≡ a.workers
  pub steps : IsScheduled a.schedule a.workers all run.program run.steps
  pub trace : run.trace ≡ a.trace

-- the text of a command: the report of a run, the topology of a script, or the summary of a demo
abbrev pub HasTextFor : Option Command → Files → List ℕ → Type 0
HasTextFor (Some (run_words script topics workers schedule trace)) all text =
    (run : Run) × Runs (record { script = script; topics = topics; workers = workers; schedule = schedule; trace = trace }) all run × (text ≡ report_of run)
HasTextFor (Some (Explain script)) all text =
    (program : Program) × IsProgramRead script all program × (text ≡ topology_text program.items (topology_of program.items))
HasTextFor (Some (Demo records workers)) all text = (run : Run) × Runs (demo_asked workers) (demo_files records) run × (text ≡ summary_of run)
HasTextFor None all text = ⊥

abbrev pub HasText : List (List ℕ) → Files → List ℕ → Type 0
HasText words all text = HasTextFor (command_of words) all text

-- ---- the causes

-- the cause of a status of a run, with the names that failed before and after
abbrev pub RunCause : Asked → Files → List (List ℕ) → List (List ℕ) → Status → Type 0
RunCause a all old new ended.Done = (run : Run) × Runs a all run
RunCause a all old new ended.Usage = ⊥
RunCause a all old new (ended.Script statement code) = IsScriptRefused a.script all statement code
RunCause a all old new (ended.TopicFile topic line why) =
    (program : Program) × IsProgramRead a.script all program × IsFirstBad a.topics all whole_room (declared_of program.items) topic line why
RunCause a all old new (ended.Schedule line why) =
    (program : Program) × (files : List TopicLines) × AreRead a all program files × IsScheduleRefused a.schedule a.workers all program line why
RunCause a all old new (ended.ReadFault name) =
    ((name ≡ a.script) × (new ≡ old ++ name ∷ [])) ⊎ (IsLaterDue a all name × JoinedLast old new name)
RunCause a all old new ended.WriteFault = (run : Run) × Runs a all run
RunCause a all old new ended.OutOfMemory = Unit {0}

-- the cause of a status of an explanation
abbrev pub ExplainCause : List ℕ → Files → List (List ℕ) → List (List ℕ) → Status → Type 0
ExplainCause script all old new ended.Done = (program : Program) × IsProgramRead script all program
ExplainCause script all old new (ended.Script statement code) = IsScriptRefused script all statement code
ExplainCause script all old new (ended.ReadFault name) = (name ≡ script) × (new ≡ old ++ name ∷ [])
ExplainCause script all old new ended.WriteFault = (program : Program) × IsProgramRead script all program
ExplainCause script all old new ended.OutOfMemory = Unit {0}
ExplainCause script all old new _ = ⊥

-- the cause of a status of a demo, which reads nothing
abbrev pub DemoCause : ℕ → ℕ → Status → Type 0
DemoCause records workers ended.Done = (run : Run) × Runs (demo_asked workers) (demo_files records) run
DemoCause records workers ended.WriteFault = (run : Run) × Runs (demo_asked workers) (demo_files records) run
DemoCause records workers ended.OutOfMemory = Unit {0}
DemoCause records workers _ = ⊥

-- the cause of a status, by the command; words that are no command have their own status
abbrev pub CauseFor : Option Command → Files → List (List ℕ) → List (List ℕ) → Status → Type 0
CauseFor (Some (run_words script topics workers schedule trace)) all old new status =
    RunCause (record { script = script; topics = topics; workers = workers; schedule = schedule; trace = trace }) all old new status
CauseFor (Some (Explain script)) all old new status = ExplainCause script all old new status
CauseFor (Some (Demo records workers)) all old new status = DemoCause records workers status
CauseFor None all old new status = (status ≡ ended.Usage) ⊎ (status ≡ ended.OutOfMemory)

abbrev pub HasCause : List (List ℕ) → Files → List (List ℕ) → List (List ℕ) → Status → Type 0
HasCause words all old new status = CauseFor (command_of words) all old new status

-- The files that a command's answer depends on: those of the folder, if they are known, where it reads any. A demo reads
-- none, nor do words that are no command.
abbrev pub told_for : Option Command → Option Files → Option Files
told_for (Some (run_words script topics workers schedule trace)) known = known
told_for (Some (Explain script)) known = known
told_for _ known = Some []

abbrev pub told : List (List ℕ) → Option Files → Option Files
told words known = told_for (command_of words) known

-- a result that the words and the files decide, whatever is read and written
abbrev pub IsDecided : Status → Type 0
IsDecided ended.Done = Unit {0}
IsDecided ended.Usage = Unit {0}
IsDecided (ended.Script statement code) = Unit {0}
IsDecided (ended.TopicFile topic line why) = Unit {0}
IsDecided (ended.Schedule line why) = Unit {0}
IsDecided _ = ⊥

-- the files decide a status of a command, or a file that is due isn't there; a demo reads no file
abbrev pub HasAnswerFor : Option Command → Files → Type 0
HasAnswerFor (Some (Demo records workers)) all = Unit {0}
HasAnswerFor o all =
    ((status : Status) × IsDecided status × CauseFor o all [] [] status) ⊎ ((name : List ℕ) × IsDueFor o all name × (read_bytes name all ≡ None))

abbrev pub HasAnswer : List (List ℕ) → Files → Type 0
HasAnswer words all = HasAnswerFor (command_of words) all

-- a status for which the command's text isn't written
abbrev pub IsRefusal : Status → Type 0
IsRefusal ended.Done = ⊥
IsRefusal ended.WriteFault = ⊥
IsRefusal _ = Unit {0}

-- no name that was due is the last one that joined the failed names
abbrev pub NoDueFails : List (List ℕ) → Files → List (List ℕ) → List (List ℕ) → Type 0
NoDueFails words all old new = (name : List ℕ) → IsDue words all name → JoinedLast old new name → ⊥
