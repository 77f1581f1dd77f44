-- Which waiting changes are due, and what a commit does to a partition.
use Rattle.std.specs.Prelude.{◌≡◌, ℕ, ◌+◌, ◌<◌, ◌≤◌, ◌⊎◌, Bool, true, false, List, [], ◌∷◌, ◌++◌, length, map, All, nat_le, if◌then◌else◌, Option, Some, None, slice_get, slice_index_or, slice_set, vec_capacity}
use Rattle.std.specs.Global.{Vec}
use Rattle.std.specs.Ordering.{is_lt}
use Rattle.ksql_place.specs.Ascending.{Rises}
use Rattle.ksql_place.specs.Routing.{change_cmp}
use Rattle.ksql_place.specs.declared.change.Change.{Change}
use Rattle.core_state.specs.Routes.{merged}
use Rattle.core_state.specs.State.{after, feed_of, upto}
use Rattle.topic_log.specs.declared.prepared.Prepared.{Prepared}
use Rattle.topic_log.specs.declared.shelves.PartShelf.{PartShelf}
use Rattle.topic_log.specs.declared.shelves.TaskShelf.{TaskShelf}
use Rattle.topic_log.specs.declared.shelves.TopicShelf.{TopicShelf}
use Rattle.topic_log.specs.Ready.{HasRoom}
use Rattle.topic_log.specs.Shelves.{closed_in, waiting_in}

-- ---- what is due

-- the changes that wait up to a closed feed, of all writers, in the order of their places
abbrev pub due_of : ℕ → List (List Change) → List Change
due_of closed ls = merged (map (upto closed) ls)

-- the writer whose list begins with the next change that is due, without which the others are due; None if none is
abbrev pub IsNext : ℕ → List (List Change) → Option ℕ → Type 0
IsNext closed ls None = due_of closed ls ≡ []
IsNext closed ls (Some writer) =
    (x : Change) × (later : List Change) × (slice_index_or ls writer [] ≡ x ∷ later) × (due_of closed ls ≡ x ∷ due_of closed (slice_set ls writer later))

-- whether a change is of a feed up to this one
abbrev pub is_due : ℕ → Change → Bool
is_due closed x = nat_le (feed_of x) closed

-- the first member, if it passes a test
abbrev pub first_if : {A : Type 0} → (A → Bool) → List A → Option A
first_if p [] = None
first_if p (x ∷ xs) = if p x then Some x else None

-- whether a change exists and comes before another, or there is no other
abbrev pub goes_before : Option Change → Option Change → Bool
goes_before None best = false
goes_before (Some x) None = true
goes_before (Some x) (Some y) = is_lt (change_cmp x y)

-- ---- partitions

-- what waits in a partition, by the partition of the writer's task
abbrev pub waiting_lists : PartShelf → List (List Change)
waiting_lists p = map (λ w. w.items) p.waiting.items

-- all of these lists but this one are empty
abbrev pub IsAlone : List (List Change) → ℕ → Type 0
IsAlone ls i = (k : ℕ) → (k ≡ i) ⊎ (slice_index_or ls k [] ≡ [])

-- only this writer has waiting changes, all of them are due, and no change is shown
pub record IsWholeDue (closed : ℕ) (p : PartShelf) (writer : ℕ) : Type 0 where
  pub within : writer < length p.waiting.items
  pub alone : IsAlone (waiting_lists p) writer
  pub due : All (λ x. feed_of x ≤ closed) (waiting_in writer p)
  pub none : p.said.items ≡ []

-- the same, with what a writer sends
abbrev pub gathered : ℕ → List Change → PartShelf → List (List Change)
gathered writer sent p = slice_set (waiting_lists p) writer (waiting_in writer p ++ sent)

-- a partition has room for what a writer sends, and then its waiting changes ascend
pub record PartFits (writer : ℕ) (sent : List Change) (p : PartShelf) : Type 0 where
  pub writer_in : writer < length p.waiting.items
  pub room : HasRoom writer (length sent) p
  pub ascends : All (Rises change_cmp) (gathered writer sent p)

-- what a writer sent joins what waits, and what is due of it is shown
pub record PartCommits (closed writer : ℕ) (sent : List Change) (old new : PartShelf) : Type 0 where
  pub fed : new.fed ≡ old.fed
  pub said : new.said.items ≡ old.said.items ++ due_of closed (gathered writer sent old)
  pub waiting : waiting_lists new ≡ map (after closed) (gathered writer sent old)

-- each partition has room for what a writer sends there
abbrev pub EachFits : ℕ → List (Vec Change) → List PartShelf → Type 0
EachFits writer sent parts = (q : ℕ) (p : PartShelf) (xs : Vec Change) → slice_get parts q ≡ Some p → slice_get sent q ≡ Some xs → PartFits writer xs.items p

-- what a writer sent to each partition is committed there
abbrev pub EachCommits : ℕ → ℕ → List (Vec Change) → List PartShelf → List PartShelf → Type 0
EachCommits closed writer sent old new = (q : ℕ) (p : PartShelf) (xs : Vec Change) → slice_get old q ≡ Some p → slice_get sent q ≡ Some xs →
    (next : PartShelf) × (slice_get new q ≡ Some next) × PartCommits closed writer xs.items p next

-- ---- topics

-- what a task sent to a partition ascends, is of the feeds of its commit, and has room there
pub record IsSent (made : Prepared) (sent : List Change) (p : PartShelf) : Type 0 where
  pub ascends : Rises change_cmp sent
  pub within : All (λ x. (made.from < feed_of x) × (feed_of x ≤ made.to)) sent
  pub room : HasRoom made.task.part (length sent) p

-- a task begins where its last commit ended, and its changelog has room
pub record TaskFits (made : Prepared) (k : TaskShelf) : Type 0 where
  pub begins : k.done ≡ made.from
  pub room : length k.logs.items + length made.entries.items ≤ vec_capacity k.logs

-- what was prepared fits a topic: the task is one of its writers, and there is room
pub record TopicFits (made : Prepared) (t : TopicShelf) : Type 0 where
  pub rises : made.from < made.to
  pub task : (k : TaskShelf) × (slice_get t.tasks.items made.task.part ≡ Some k) × TaskFits made k
  pub parts : length made.sent.items ≡ length t.parts.items
  pub each : (q : ℕ) (p : PartShelf) (xs : Vec Change) → slice_get t.parts.items q ≡ Some p → slice_get made.sent.items q ≡ Some xs → IsSent made xs.items p

-- a task is done up to what was prepared, and has its changelog entries
pub record TaskCommits (made : Prepared) (old new : TaskShelf) : Type 0 where
  pub done : new.done ≡ made.to
  pub newest : new.newest ≡ old.newest
  pub logs : new.logs.items ≡ old.logs.items ++ made.entries.items

-- what was prepared becomes part of a topic
pub record TopicCommits (fed : ℕ) (made : Prepared) (old new : TopicShelf) : Type 0 where
  pub spec : new.spec ≡ old.spec
  pub task : (k next : TaskShelf) × (slice_get old.tasks.items made.task.part ≡ Some k) × (new.tasks.items ≡ slice_set old.tasks.items made.task.part next) × TaskCommits made k next
  pub parts : length new.parts.items ≡ length old.parts.items
  pub each : EachCommits (closed_in fed new) made.task.part made.sent.items old.parts.items new.parts.items
