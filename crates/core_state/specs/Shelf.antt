-- The broker alone, and the core as a broker, instances and held proposals.
use Rattle.std.specs.Prelude.{◌≡◌, ℕ, ◌+◌, List, [], ◌++◌, map, filter, Option}
use Rattle.ksql_types.specs.declared.relation.StoreEntry.{StoreEntry}
use Rattle.ksql_types.specs.declared.relation.TaskName.{TaskName}
use Rattle.ksql_place.specs.declared.change.Change.{Change}
use Rattle.ksql_place.specs.declared.change.SourceRecord.{SourceRecord}
use Rattle.core_state.specs.declared.log.LogEntry.{LogEntry}
use Rattle.core_state.specs.declared.log.LogEntry.TheVariants.{Fed, Said}
use Rattle.core_state.specs.declared.log.Proposal.{Proposal}
use Rattle.core_state.specs.Routes.{IsWriter, Routes, merged, sent_to}
use Rattle.core_state.specs.State.{Instance, State, after, is_in, lowest, upto}

-- the broker's state: the last feed; what each partition of a topic shows; a task's changes that wait for each
-- partition; and for each task the last feed that it committed, its newest generation and its changelog
pub record Shelf : Type 0 where
  pub fed : ℕ
  pub shown : ℕ → ℕ → List LogEntry
  pub waiting : TaskName → ℕ → List Change
  pub done : TaskName → ℕ
  pub newest : TaskName → ℕ
  pub logs : TaskName → List StoreEntry

pub record Parts (H : Type 0) : Type 0 where
  pub shelf : Shelf
  pub instance : TaskName → Option (Instance H)
  pub held : TaskName → List Proposal

abbrev pub state_of : {H : Type 0} → Parts H → State H
state_of s = record {
  fed = s.shelf.fed;
  shown = s.shelf.shown;
  waiting = s.shelf.waiting;
  tasks = λ t. record { done = s.shelf.done t; newest = s.shelf.newest t; logs = s.shelf.logs t; instance = s.instance t; held = s.held t };
}

-- the feed up to which a topic is closed: the last one of a source, or the least progress of a written topic's writers
abbrev pub shelf_closed : Routes → Shelf → ℕ → ℕ
shelf_closed r b topic = lowest b.fed b.done (r.writers topic)

-- nothing was fed or committed; generations begin at 1
pub record ShelfOpens (r : Routes) (b : Shelf) : Type 0 where
  pub fed : b.fed ≡ 0
  pub shown : (topic q : ℕ) → b.shown topic q ≡ []
  pub waiting : (u : TaskName) → IsWriter r u → (q : ℕ) → b.waiting u q ≡ []
  pub done : (u : TaskName) → IsWriter r u → b.done u ≡ 0
  pub newest : (u : TaskName) → IsWriter r u → b.newest u ≡ 1
  pub logs : (u : TaskName) → IsWriter r u → b.logs u ≡ []

-- nothing changes
pub record ShelfStays (r : Routes) (b next : Shelf) : Type 0 where
  pub fed : next.fed ≡ b.fed
  pub shown : (topic q : ℕ) → next.shown topic q ≡ b.shown topic q
  pub waiting : (u : TaskName) → IsWriter r u → (q : ℕ) → next.waiting u q ≡ b.waiting u q
  pub done : (u : TaskName) → IsWriter r u → next.done u ≡ b.done u
  pub newest : (u : TaskName) → IsWriter r u → next.newest u ≡ b.newest u
  pub logs : (u : TaskName) → IsWriter r u → next.logs u ≡ b.logs u

-- a feed of records becomes visible, and nothing else changes
pub record ShelfFeeds (r : Routes) (records : List SourceRecord) (b next : Shelf) : Type 0 where
  pub fed : next.fed ≡ b.fed + 1
  pub sources : (topic q : ℕ) → r.writers topic ≡ [] → next.shown topic q ≡ b.shown topic q ++ map Fed (filter (is_in topic q) records)
  pub written : (topic q : ℕ) → ¬ (r.writers topic ≡ []) → next.shown topic q ≡ b.shown topic q
  pub waiting : (u : TaskName) → IsWriter r u → (q : ℕ) → next.waiting u q ≡ b.waiting u q
  pub done : (u : TaskName) → IsWriter r u → next.done u ≡ b.done u
  pub newest : (u : TaskName) → IsWriter r u → next.newest u ≡ b.newest u
  pub logs : (u : TaskName) → IsWriter r u → next.logs u ≡ b.logs u

-- A proposal of a task takes effect at once: its progress, its outputs and its changelog entries. Outputs wait until
-- their topic's closed feed reaches them, and are then shown in the order of their places.
pub record ShelfApplies (r : Routes) (t : TaskName) (p : Proposal) (b next : Shelf) : Type 0 where
  pub fed : next.fed ≡ b.fed
  pub done : next.done t ≡ p.to
  pub done_else : (u : TaskName) → IsWriter r u → ¬ (u ≡ t) → next.done u ≡ b.done u
  pub newest : (u : TaskName) → IsWriter r u → next.newest u ≡ b.newest u
  pub logs : next.logs t ≡ b.logs t ++ p.entries
  pub logs_else : (u : TaskName) → IsWriter r u → ¬ (u ≡ t) → next.logs u ≡ b.logs u
  -- the waiting changes of the task with the outputs added, and those of the other writers
  pub gathered : TaskName → ℕ → List Change
  pub own : (q : ℕ) → gathered t q ≡ b.waiting t q ++ sent_to r t q p.outputs
  pub of_others : (u : TaskName) → IsWriter r u → ¬ (u ≡ t) → (q : ℕ) → gathered u q ≡ b.waiting u q
  pub waiting : (u : TaskName) → IsWriter r u → r.output u ≡ r.output t → (q : ℕ) → next.waiting u q ≡ after (shelf_closed r next (r.output t)) (gathered u q)
  pub waiting_else : (u : TaskName) → IsWriter r u → ¬ (r.output u ≡ r.output t) → (q : ℕ) → next.waiting u q ≡ b.waiting u q
  pub shown : (q : ℕ) → next.shown (r.output t) q ≡ b.shown (r.output t) q
      ++ map Said (merged (map (λ u. upto (shelf_closed r next (r.output t)) (gathered u q)) (r.writers (r.output t))))
  pub shown_else : (topic : ℕ) → ¬ (topic ≡ r.output t) → (q : ℕ) → next.shown topic q ≡ b.shown topic q

-- a task's newest generation is raised, and nothing else changes
pub record ShelfRaises (r : Routes) (t : TaskName) (b next : Shelf) : Type 0 where
  pub fed : next.fed ≡ b.fed
  pub shown : (topic q : ℕ) → next.shown topic q ≡ b.shown topic q
  pub waiting : (u : TaskName) → IsWriter r u → (q : ℕ) → next.waiting u q ≡ b.waiting u q
  pub done : (u : TaskName) → IsWriter r u → next.done u ≡ b.done u
  pub logs : (u : TaskName) → IsWriter r u → next.logs u ≡ b.logs u
  pub newest : next.newest t ≡ b.newest t + 1
  pub newest_else : (u : TaskName) → IsWriter r u → ¬ (u ≡ t) → next.newest u ≡ b.newest u

-- the instances and held proposals of all other tasks are unchanged
pub record SameElse (r : Routes) (t : TaskName) {H : Type 0} (s next : Parts H) : Type 0 where
  pub instance : (u : TaskName) → IsWriter r u → ¬ (u ≡ t) → next.instance u ≡ s.instance u
  pub held : (u : TaskName) → IsWriter r u → ¬ (u ≡ t) → next.held u ≡ s.held u
