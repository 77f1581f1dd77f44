-- The stages of a command: how they end without a result, and which names join.
use Rattle.std.specs.Prelude.{◌≡◌, ◌⊎◌, ◌≤◌, ℕ, All, List, [], ◌∷◌, ◌++◌, length, Option, None, Some, IfSome}
use Rattle.std.specs.List.{AllByRecursion}
use Rattle.ksql_outside.specs.Outside.{MayJoin}
use Rattle.command_line.specs.Words.{command_of, longest_word}
use Rattle.ksql_program.specs.Sound.{IsSound}
use Rattle.ksql_program.specs.declared.program.Program.{Program}
use Rattle.topic_files.specs.declared.topic.TopicLines.{TopicLines}
use Rattle.ksql_cli.specs.declared.asked.Asked.{Asked}
use Rattle.feed_laws.specs.Fitting.{AreFilesOf}
use Rattle.cluster_core.specs.Cluster.{IsBuilt}
use Rattle.ksql_cli.specs.declared.run.Inputs.{Inputs}
use Rattle.ksql_cli.specs.declared.run.Ran.{Ran}
use Rattle.ksql_cli.specs.declared.status.Status.{Status}
use Rattle.ksql_cli.specs.declared.status.Status.TheVariants as ended
use Rattle.ksql_cli.specs.Command.{AreRead, Files, IsLaterDue, IsScheduleRefused, IsScheduled, IsScriptRefused}
use Rattle.ksql_cli.specs.Run.{Run}

-- a run's names are words, and it has 1 to 32 workers
pub record HasShortNames (a : Asked) : Type 0 where
  pub script : length a.script ≤ longest_word
  pub topics : length a.topics ≤ longest_word
  pub schedule : IfSome a.schedule (λ name. length name ≤ longest_word)
  pub some : 1 ≤ a.workers
  pub few : a.workers ≤ 32

-- the script, or a file after it, is due in a run
abbrev pub IsRunDue : Asked → Files → List ℕ → Type 0
IsRunDue a all name = (name ≡ a.script) ⊎ IsLaterDue a all name

-- all names that joined are due in a run
abbrev pub AreDueIn : Asked → Files → List (List ℕ) → List (List ℕ) → Type 0
AreDueIn a all old new = (names : List (List ℕ)) × (new ≡ old ++ names) × AllByRecursion (IsRunDue a all) names

-- why the script with this name gave no program
abbrev pub IsScriptFailure : List ℕ → Files → List (List ℕ) → List (List ℕ) → Status → Type 0
IsScriptFailure script all old new (ended.Script statement code) = IsScriptRefused script all statement code
IsScriptFailure script all old new (ended.ReadFault name) = (name ≡ script) × (new ≡ old ++ name ∷ [])
IsScriptFailure script all old new ended.OutOfMemory = Unit {0}
IsScriptFailure script all old new _ = ⊥

-- why the schedule gave no steps
abbrev pub IsScheduleFailure : Asked → Files → Program → List (List ℕ) → List (List ℕ) → Status → Type 0
IsScheduleFailure a all program old new (ended.Schedule line why) = IsScheduleRefused a.schedule a.workers all program line why
IsScheduleFailure a all program old new (ended.ReadFault name) = (a.schedule ≡ Some name) × (new ≡ old ++ name ∷ [])
IsScheduleFailure a all program old new ended.OutOfMemory = Unit {0}
IsScheduleFailure a all program old new _ = ⊥

-- at most the requested name joined
abbrev pub IsExpected : Option (List ℕ) → List (List ℕ) → List (List ℕ) → Type 0
IsExpected None old new = new ≡ old
IsExpected (Some name) old new = MayJoin old new name

-- how a command that is read from words ends without a text
abbrev pub IsRunRefusal : Status → Type 0
IsRunRefusal ended.Done = ⊥
IsRunRefusal ended.Usage = ⊥
IsRunRefusal ended.WriteFault = ⊥
IsRunRefusal _ = Unit {0}

-- Usage means that the words are no command
abbrev pub IsUsage : List (List ℕ) → Status → Type 0
IsUsage words status = status ≡ ended.Usage → command_of words ≡ None

-- the inputs of a run fit together: a sound program, records of its declared relations, and steps that a cluster can
-- take
pub record AreInputs (i : Inputs) : Type 0 where
  pub sound : IsSound i.program.items
  pub files : AreFilesOf i.program.items i.files.items
  pub built : All (λ l. IsBuilt l.step) i.schedule.steps

-- a requested run reads this
pub record ReadsInputs (a : Asked) (all : Files) (i : Inputs) : Type 0 where
  pub read : AreRead a all i.program i.files.items
  pub steps : IsScheduled a.schedule a.workers all i.program i.schedule.steps

-- the requested run of a program on some files
abbrev pub run_of : Asked → Ran → List TopicLines → Run
run_of a ran files = record { program = ran.program; files = files; workers = a.workers; steps = ran.schedule.steps; trace = a.trace }
