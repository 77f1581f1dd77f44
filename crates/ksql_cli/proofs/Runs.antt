-- What the stages of a run say together: a script that is read, its topic files, and its schedule.
use Rattle.std.proofs.Common.{◌≡◌, ◌∙◌, ap, refl, sym, subst, List, [], ◌++◌, ℕ}
use Rattle.std.specs.Prelude.{Option, IfSome}
use Rattle.ksql_outside.specs.Outside.{MayJoin}
use Rattle.ksql_program.specs.declared.program.Item.{Item}
use Rattle.ksql_program.specs.declared.program.Program.{Program}
use Rattle.topic_files.specs.declared.topic.Room.{Room}
use Rattle.topic_files.specs.declared.topic.TopicLines.{TopicLines}
use Rattle.topology.specs.declared.schedule.Schedule.{Schedule}
use Rattle.ksql_cli.specs.declared.asked.Asked.{Asked}
use Rattle.ksql_cli.specs.declared.run.Inputs.{Inputs}
use Rattle.ksql_cli.specs.declared.run.Ran.{Ran}
use Rattle.ksql_cli.specs.declared.status.Status.{Status}
use Rattle.ksql_cli.specs.Command.{AreFed, AreRead, Files, IsProgramRead, IsScheduled, RunCause, Runs, whole_room}
use Rattle.ksql_cli.specs.Run.{declared_of}
use Rattle.ksql_cli.specs.Stages.{AreDueIn, IsExpected, IsScheduleFailure, ReadsInputs, run_of}
use Rattle.ksql_cli.specs.Steps.{AreTopicsDue, HasGrown, IsTopicFailure}
use Rattle.ksql_cli.proofs.Stages.{as-they-were, cause-schedule, cause-topics, due-both, due-schedule, due-script, due-topics, of-both}
use Rattle.ksql_cli.proofs.TopicLaws.{as_before}

-- the run that is made of what was read
pub runs-inputs : (a : Asked) (all : Files) (i : Inputs) (ran : Ran) → ran.program ≡ i.program → ran.schedule ≡ i.schedule → ReadsInputs a all i →
    Runs a all (run_of a ran i.files.items)
runs-inputs a all i ran program schedule reads = record {
  read = subst (λ (p : Program). AreRead a all p i.files.items) (sym program) reads.read;
  workers = refl;
  steps = subst (λ (p : Program × Schedule). IsScheduled a.schedule a.workers all p.0 p.1.steps) (λ k. (sym program k, sym schedule k)) reads.steps;
  trace = refl;
}

module _ (a : Asked) (known : Option Files) (program : Program) where
  -- a script that is read under a name that is that of the run
  module _ (script : List ℕ) (of-script : script ≡ a.script) (read : IfSome known (λ all. IsProgramRead script all program)) where
    script-read : IfSome known (λ all. IsProgramRead a.script all program)
    script-read = subst (λ (s : List ℕ). IfSome known (λ all. IsProgramRead s all program)) of-script read

    -- the topic files are read later, of the program's items, from the folder of the run
    module _ (later : Option Files) (same : later ≡ known) (items : List Item) (are : items ≡ program.items) (topics : List ℕ) (of-topics : topics ≡ a.topics)
        (room : Room) (whole : room ≡ whole_room) where
      as-given : (P : List ℕ → Files → Room → List Item → Type 0) → IfSome later (λ all. P topics all room items) → IfSome known (λ all. P a.topics all whole_room program.items)
      as-given P said =
          subst (λ (t : List ℕ). IfSome known (λ all. P t all whole_room program.items)) of-topics
          (as_before (P topics) known later room whole_room items program.items same whole are said)

      pub topics-cause : (old mid new : List (List ℕ)) (status : Status) → HasGrown old mid →
          IfSome later (λ all. IsTopicFailure topics all room (declared_of items) mid new status) → IfSome known (λ all. RunCause a all old new status)
      topics-cause old mid new status grown failed =
          of-both (λ all. IsProgramRead a.script all program) (λ all. IsTopicFailure a.topics all whole_room (declared_of program.items) mid new status)
          (λ all. RunCause a all old new status) known (λ all. cause-topics a all program old mid new status grown) script-read
          (as-given (λ t all r is. IsTopicFailure t all r (declared_of is) mid new status) failed)

      pub topics-due : (old mid new : List (List ℕ)) → MayJoin old mid script → IfSome later (λ all. AreTopicsDue topics all room (declared_of items) mid new) →
          IfSome known (λ all. AreDueIn a all old new)
      topics-due old mid new joined due =
          of-both (λ all. IsProgramRead a.script all program) (λ all. AreTopicsDue a.topics all whole_room (declared_of program.items) mid new)
          (λ all. AreDueIn a all old new) known
          (λ all read them. due-both a all old mid new (due-script a all old mid (subst (MayJoin old mid) of-script joined)) (due-topics a all program mid new read them))
          script-read (as-given (λ t all r is. AreTopicsDue t all r (declared_of is) mid new) due)

      pub files-read : (before got : List TopicLines) → before ≡ [] →
          IfSome later (λ all. (read : List TopicLines) × AreFed topics all room (declared_of items) read × (got ≡ before ++ read)) → IfSome known (λ all. AreRead a all program got)
      files-read before got none found =
          of-both (λ all. IsProgramRead a.script all program)
          (λ all. (read : List TopicLines) × AreFed a.topics all whole_room (declared_of program.items) read × (got ≡ before ++ read))
          (λ all. AreRead a all program got) known
          (λ all read fed. (
            read,
            subst (AreFed a.topics all whole_room (declared_of program.items)) (sym (fed.2 ∙ ap (λ (first : List TopicLines). first ++ fed.0) none)) fed.1,
          ))
          script-read
          (as-given (λ t all r is. (read : List TopicLines) × AreFed t all r (declared_of is) read × (got ≡ before ++ read)) found)

  -- the schedule is read after the topic files
  module _ (files : List TopicLines) (read : IfSome known (λ all. AreRead a all program files)) where
    pub schedule-due : (old mid new : List (List ℕ)) → IfSome known (λ all. AreDueIn a all old mid) → IsExpected a.schedule mid new →
        IfSome known (λ all. AreDueIn a all old new)
    schedule-due old mid new due joined =
        of-both (λ all. AreRead a all program files) (λ all. AreDueIn a all old mid) (λ all. AreDueIn a all old new) known
        (λ all are first. due-both a all old mid new first (due-schedule a all program files mid new are joined)) read due

    module _ (later : Option Files) (same : later ≡ known) where
      pub schedule-cause : (old mid new : List (List ℕ)) (status : Status) → HasGrown old mid → IfSome later (λ all. IsScheduleFailure a all program mid new status) →
          IfSome known (λ all. RunCause a all old new status)
      schedule-cause old mid new status grown failed =
          of-both (λ all. AreRead a all program files) (λ all. IsScheduleFailure a all program mid new status) (λ all. RunCause a all old new status) known
          (λ all. cause-schedule a all program files old mid new status grown) read
          (as-they-were (λ all. IsScheduleFailure a all program mid new status) known later same failed)
