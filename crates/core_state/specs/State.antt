-- The core without its code: the state of a broker and its tasks, and what a topology has them do.
use Rattle.std.specs.Prelude.{◌≡◌, ℕ, min, Bool, ◌&&◌, ◌==◌, List, [], ◌∷◌, filter, nat_lt, nat_le, Option, Some, Contains}
use Rattle.ksql_types.specs.declared.relation.StoreEntry.{StoreEntry}
use Rattle.ksql_types.specs.declared.relation.TaskName.{TaskName}
use Rattle.ksql_place.specs.declared.change.Change.{Change}
use Rattle.ksql_place.specs.declared.change.SourceRecord.{SourceRecord}
use Rattle.core_state.specs.declared.log.LogEntry.{LogEntry}
use Rattle.core_state.specs.declared.log.Proposal.{Proposal}
use Rattle.core_state.specs.Routes.{Routes}

-- ---- the state

-- a running task with the stores H: its generation, its progress, and its proposal if it waits for a commit
pub record Instance (H : Type 0) : Type 0 where
  pub generation : ℕ
  pub done : ℕ
  pub stores : H
  pub proposal : Option Proposal

-- the state of one task: the last feed that it committed, its newest generation and its changelog; its instance, if it
-- has one; and its proposals that stalled workers still hold
pub record TaskState (H : Type 0) : Type 0 where
  pub done : ℕ
  pub newest : ℕ
  pub logs : List StoreEntry
  pub instance : Option (Instance H)
  pub held : List Proposal

-- the core: the last feed, what each partition of a topic shows, a task's changes that wait for each partition, and the
-- tasks
pub record State (H : Type 0) : Type 0 where
  pub fed : ℕ
  pub shown : ℕ → ℕ → List LogEntry
  pub waiting : TaskName → ℕ → List Change
  pub tasks : TaskName → TaskState H

-- ---- the topology

-- a topology: its tasks, what they read and write, and what they do with entries E and stores H
pub record Topology (E H : Type 0) : Type 1 where
  pub names : List TaskName
  pub inputs : TaskName → List ℕ
  pub routes : Routes
  -- what a task takes of what its inputs show, in the feeds after the first number up to the second
  pub takes : TaskName → (ℕ → List LogEntry) → ℕ → ℕ → List E
  -- what a task gives for further entries, after earlier ones
  pub gives : TaskName → List E → List E → List Change
  -- the stores stand for the entries
  pub Stands : TaskName → H → List E → Type 0
  pub replay : TaskName → List StoreEntry → H
  pub MayLoad : TaskName → StoreEntry → Type 0

abbrev pub IsTask : {E H : Type 0} → Topology E H → TaskName → Type 0
IsTask top t = Contains top.names t

-- ---- feeds

abbrev pub feed_of : Change → ℕ
feed_of x = x.place.stamp.feed

-- the changes up to a feed, and those after it
abbrev pub upto : ℕ → List Change → List Change
upto c xs = filter (λ x. nat_le (feed_of x) c) xs

abbrev pub after : ℕ → List Change → List Change
after c xs = filter (λ x. nat_lt c (feed_of x)) xs

-- whether a record is in a partition of a topic
abbrev pub is_in : ℕ → ℕ → SourceRecord → Bool
is_in topic q r = (r.stamp.topic == topic) && (r.stamp.part == q)

-- the least value of f on the members
abbrev pub least : {A : Type 0} → (A → ℕ) → A → List A → ℕ
least f x [] = f x
least f x (y ∷ ys) = min (f x) (least f y ys)

-- the same, or a given number if there are none
abbrev pub lowest : {A : Type 0} → ℕ → (A → ℕ) → List A → ℕ
lowest n f [] = n
lowest n f (x ∷ xs) = least f x xs

module _ {H : Type 0} where
  abbrev pub done_of : State H → TaskName → ℕ
  done_of s t = (s.tasks t).done

  -- the instance waits with the proposal
  abbrev pub Proposes : TaskState H → Proposal → Type 0
  Proposes w p = (i : Instance H) × (w.instance ≡ Some i) × (i.proposal ≡ Some p)

  -- the feed up to which a topic is closed: the last one of a source, or the least progress of a written topic's
  -- writers
  abbrev pub closed : Routes → State H → ℕ → ℕ
  closed r s topic = lowest s.fed (done_of s) (r.writers topic)

-- the feed up to which all inputs of a task are closed
abbrev pub bound : {E H : Type 0} → Topology E H → State H → TaskName → ℕ
bound top s t = lowest s.fed (closed top.routes s) (top.inputs t)
