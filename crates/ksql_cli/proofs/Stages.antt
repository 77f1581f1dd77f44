-- The stages of a run one by one: the names that joined, those that were due, and the causes.
use Rattle.std.proofs.Common.{◌≡◌, ◌∙◌, ap, sym, refl, subst, ℕ, List, [], ◌∷◌, ◌++◌, append_assoc, inl, inr}
use Rattle.std.specs.Prelude.{Option, None, Some, IfSome}
use Rattle.std.specs.List.{AllByRecursion}
use Rattle.std.proofs.lemmas.List.{append-nil}
use Rattle.ksql_nodes.proofs.Lists.{All-append}
use Rattle.ksql_outside.specs.Outside.{JoinedLast, MayJoin}
use Rattle.ksql_program.specs.declared.program.Program.{Program}
use Rattle.topic_files.specs.declared.topic.TopicLines.{TopicLines}
use Rattle.ksql_cli.specs.declared.asked.Asked.{Asked}
use Rattle.ksql_cli.specs.declared.status.Status.{Status}
use Rattle.ksql_cli.specs.declared.status.Status.TheVariants as ended
use Rattle.ksql_cli.specs.Command.{AreRead, Files, IsProgramRead, IsTopicDue, RunCause, whole_room}
use Rattle.ksql_cli.specs.Run.{declared_of}
use Rattle.ksql_cli.specs.Stages.{AreDueIn, IsExpected, IsRunDue, IsScheduleFailure}
use Rattle.ksql_cli.specs.Steps.{AreTopicsDue, HasGrown, IsJoined, IsTopicFailure}

-- ---- what is known of the files

-- what two facts of the files give together
pub of-both : (P Q R : Files → Type 0) (known : Option Files) → ((all : Files) → P all → Q all → R all) → IfSome known P → IfSome known Q → IfSome known R
of-both P Q R None give p q = tt
of-both P Q R (Some all) give p q = give all p q

-- what a fact of the files gives
pub when-known : (P Q : Files → Type 0) (known : Option Files) → ((all : Files) → P all → Q all) → IfSome known P → IfSome known Q
when-known P Q None give p = tt
when-known P Q (Some all) give p = give all p

-- facts about the files as they are later hold of the files as they were
pub as-they-were : (P : Files → Type 0) (known later : Option Files) → later ≡ known → IfSome later P → IfSome known P
as-they-were P known later same p = subst (λ (o : Option Files). IfSome o P) same p

-- ---- the names that joined

pub may-grow : (old new : List (List ℕ)) (name : List ℕ) → MayJoin old new name → HasGrown old new
may-grow old new name (inl same) = ([], same ∙ sym (append-nil old))
may-grow old new name (inr joined) = (name ∷ [], joined)

pub grown-both : (old mid new : List (List ℕ)) → HasGrown old mid → HasGrown mid new → HasGrown old new
grown-both old mid new first then = (first.0 ++ then.0, then.1 ∙ ap (λ (names : List (List ℕ)). names ++ then.0) first.1 ∙ append_assoc old first.0 then.0)

joined-grown : (old mid new : List (List ℕ)) (name : List ℕ) → HasGrown old mid → JoinedLast mid new name → JoinedLast old new name
joined-grown old mid new name first joined = (
  first.0 ++ joined.0,
  joined.1 ∙ ap (λ (names : List (List ℕ)). names ++ (joined.0 ++ name ∷ [])) first.1 ∙ append_assoc old first.0 (joined.0 ++ name ∷ [])
      ∙ ap (λ (names : List (List ℕ)). old ++ names) (sym (append_assoc first.0 joined.0 (name ∷ []))),
)

-- a read fault of a later stage is the last name that joined, from before the stages in front of it
pub later-joined : (old mid new : List (List ℕ)) (status : Status) → HasGrown old mid → IsJoined mid new status → IsJoined old new status
later-joined old mid new (ended.ReadFault name) grown joined = joined-grown old mid new name grown joined
later-joined old mid new ended.Done grown joined = tt
later-joined old mid new ended.Usage grown joined = tt
later-joined old mid new (ended.Script statement code) grown joined = tt
later-joined old mid new (ended.TopicFile topic line why) grown joined = tt
later-joined old mid new (ended.Schedule line why) grown joined = tt
later-joined old mid new ended.WriteFault grown joined = tt
later-joined old mid new ended.OutOfMemory grown joined = tt

-- ---- what was due

pub due-both : (a : Asked) (all : Files) (old mid new : List (List ℕ)) → AreDueIn a all old mid → AreDueIn a all mid new → AreDueIn a all old new
due-both a all old mid new first then = (
  first.0 ++ then.0,
  then.1 ∙ ap (λ (names : List (List ℕ)). names ++ then.0) first.1 ∙ append_assoc old first.0 then.0,
  All-append (IsRunDue a all) first.0 then.0 first.2 then.2,
)

pub due-script : (a : Asked) (all : Files) (old new : List (List ℕ)) → MayJoin old new a.script → AreDueIn a all old new
due-script a all old new (inl same) = ([], same ∙ sym (append-nil old), tt)
due-script a all old new (inr joined) = (a.script ∷ [], joined, (inl refl, tt))

each-due : (a : Asked) (all : Files) (program : Program) → IsProgramRead a.script all program → (names : List (List ℕ)) →
    AllByRecursion (IsTopicDue a.topics all whole_room (declared_of program.items)) names → AllByRecursion (IsRunDue a all) names
each-due a all program read [] due = tt
each-due a all program read (name ∷ names) due = (inr (inl (program, read, due.0)), each-due a all program read names due.1)

pub due-topics : (a : Asked) (all : Files) (program : Program) (old new : List (List ℕ)) → IsProgramRead a.script all program →
    AreTopicsDue a.topics all whole_room (declared_of program.items) old new → AreDueIn a all old new
due-topics a all program old new read due = (due.0, due.1, each-due a all program read due.0 due.2)

pub due-schedule : (a : Asked) (all : Files) (program : Program) (files : List TopicLines) (old new : List (List ℕ)) → AreRead a all program files →
    IsExpected a.schedule old new → AreDueIn a all old new
due-schedule a all program files old new read expected = by a.schedule refl expected
  where
    by : (o : Option (List ℕ)) → a.schedule ≡ o → IsExpected o old new → AreDueIn a all old new
    by None is same = ([], same ∙ sym (append-nil old), tt)
    by (Some name) is (inl same) = ([], same ∙ sym (append-nil old), tt)
    by (Some name) is (inr joined) = (name ∷ [], joined, (inr (inr (program, files, read, is)), tt))

-- ---- the causes

pub cause-topics : (a : Asked) (all : Files) (program : Program) (old mid new : List (List ℕ)) (status : Status) → HasGrown old mid → IsProgramRead a.script all program →
    IsTopicFailure a.topics all whole_room (declared_of program.items) mid new status → RunCause a all old new status
cause-topics a all program old mid new (ended.TopicFile topic line why) grown read bad = (program, read, bad)
cause-topics a all program old mid new (ended.ReadFault name) grown read failed = inr (inl (program, read, failed.0), joined-grown old mid new name grown failed.1)
cause-topics a all program old mid new ended.OutOfMemory grown read failed = tt
cause-topics a all program old mid new ended.Done grown read failed = absurd failed
cause-topics a all program old mid new ended.Usage grown read failed = absurd failed
cause-topics a all program old mid new (ended.Script statement code) grown read failed = absurd failed
cause-topics a all program old mid new (ended.Schedule line why) grown read failed = absurd failed
cause-topics a all program old mid new ended.WriteFault grown read failed = absurd failed

pub cause-schedule : (a : Asked) (all : Files) (program : Program) (files : List TopicLines) (old mid new : List (List ℕ)) (status : Status) → HasGrown old mid →
    AreRead a all program files → IsScheduleFailure a all program mid new status → RunCause a all old new status
cause-schedule a all program files old mid new (ended.Schedule line why) grown read refused = (program, files, read, refused)
cause-schedule a all program files old mid new (ended.ReadFault name) grown read failed =
    inr (inr (program, files, read, failed.0), joined-grown old mid new name grown ([], failed.1))
cause-schedule a all program files old mid new ended.OutOfMemory grown read failed = tt
cause-schedule a all program files old mid new ended.Done grown read failed = absurd failed
cause-schedule a all program files old mid new ended.Usage grown read failed = absurd failed
cause-schedule a all program files old mid new (ended.Script statement code) grown read failed = absurd failed
cause-schedule a all program files old mid new (ended.TopicFile topic line why) grown read failed = absurd failed
cause-schedule a all program files old mid new ended.WriteFault grown read failed = absurd failed
