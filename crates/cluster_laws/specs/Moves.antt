-- Tasks that leave their owners, and tasks that are restored from their changelogs.
use Rattle.std.specs.Prelude.{◌≡◌, ℕ, ◌<◌, ◌==◌, Bool, true, false, IsTrue, if◌then◌else◌, List, [], ◌∷◌, ◌++◌, length, All, Option, Some, None}
use Rattle.ksql_types.specs.declared.relation.TaskName.{TaskName}
use Rattle.core_state.specs.Routes.{IsWriter, Routes}
use Rattle.core_state.specs.Shelf.{Shelf, ShelfRaises}
use Rattle.core_state.specs.declared.journal.JournalEntry.{JournalEntry}
use Rattle.core_state.specs.declared.journal.JournalEntry.TheVariants as entry
use Rattle.op_chain.specs.Chain.{MayLoad, has_operator, maps_after}
use Rattle.topology.specs.declared.topology.Topology.{Topology}
use Rattle.assignor.specs.declared.assignment.Owned.{Owned}
use Rattle.task_core.specs.Core.{inputs_at, nodes_at}
use Rattle.task_core.specs.Tasks.{TaskView}
use Rattle.cluster_laws.specs.declared.seats.Seat.{Seat}

-- the task of a seat, and its owner
abbrev pub owned_of : Seat → Owned
owned_of s = record { task = s.task.name; worker = s.worker }

-- ---- who stays

-- whether a worker is the owner
abbrev pub is_owner : Option Owned → ℕ → Bool
is_owner None worker = false
is_owner (Some o) worker = o.worker == worker

-- for each seat, whether its worker is the owner at its place; false without one
abbrev pub are_at : List Owned → List Seat → List Bool
are_at owners [] = []
are_at [] (s ∷ ss) = false ∷ are_at [] ss
are_at (o ∷ os) (s ∷ ss) = (o.worker == s.worker) ∷ are_at os ss

-- ---- tasks that leave

-- a task leaves its owner with a new generation
abbrev pub Leaves : Routes → TaskName → Shelf → List JournalEntry → Shelf → Type 0
Leaves r u b notes next = ShelfRaises r u b next × (notes ≡ entry.Left u (next.newest u) ∷ [])

-- it leaves, or it stays and nothing happens
abbrev pub LeavesOrStays : Routes → Bool → TaskName → Shelf → List JournalEntry → Shelf → Type 0
LeavesOrStays r true u b notes next = (next ≡ b) × (notes ≡ [])
LeavesOrStays r false u b notes next = Leaves r u b notes next

-- all do so, one after another
abbrev pub AllLeave : Routes → List Bool → List Seat → Shelf → List JournalEntry → Shelf → Type 0
AllLeave r (stays ∷ more) (s ∷ ss) b notes next =
    (mid : Shelf) × (first : List JournalEntry) × (rest : List JournalEntry) × LeavesOrStays r stays s.task.name b first mid × AllLeave r more ss mid rest next × (notes ≡ first ++ rest)
AllLeave r stays seats b notes next = (next ≡ b) × (notes ≡ [])

-- the remaining seats: those of the tasks that stay
abbrev pub kept_of : List Bool → List Seat → List (Option Seat)
kept_of (stays ∷ more) (s ∷ ss) = (if stays then Some s else None) ∷ kept_of more ss
kept_of stays seats = []

-- ---- tasks that are restored

-- a task restored from its changelog: of the newest generation, and done with what it committed
abbrev pub restored_task : Topology → Shelf → TaskName → TaskView
restored_task t b u = record {
  name = u;
  generation = b.newest u;
  done = b.done u;
  inputs = inputs_at t u;
  nodes = nodes_at t u;
  maps = maps_after (nodes_at t u) (b.logs u);
}

-- a task can be restored: the broker has its changelog, and its nodes may load each entry
pub record CanRestore (t : Topology) (r : Routes) (b : Shelf) (o : Owned) : Type 0 where
  pub writer : IsWriter r o.task
  pub sub : o.task.sub < length t.subs
  pub operators : All (λ n. IsTrue (has_operator n)) (nodes_at t o.task)
  pub loadable : All (MayLoad (nodes_at t o.task)) (b.logs o.task)

abbrev pub seat_anew : Topology → Shelf → Owned → Seat
seat_anew t b o = record { worker = o.worker; task = restored_task t b o.task }

abbrev pub note_anew : Shelf → Owned → JournalEntry
note_anew b o = entry.Restored o.task o.worker (b.newest o.task) (b.done o.task)

-- the tasks at their owners: the kept ones, and the others restored
abbrev pub seated : Topology → Shelf → List Owned → List (Option Seat) → List Seat
seated t b [] kept = []
seated t b (o ∷ os) [] = seat_anew t b o ∷ seated t b os []
seated t b (o ∷ os) (Some s ∷ kept) = s ∷ seated t b os kept
seated t b (o ∷ os) (None ∷ kept) = seat_anew t b o ∷ seated t b os kept

abbrev pub seat_notes : Shelf → List Owned → List (Option Seat) → List JournalEntry
seat_notes b [] kept = []
seat_notes b (o ∷ os) [] = note_anew b o ∷ seat_notes b os []
seat_notes b (o ∷ os) (Some s ∷ kept) = seat_notes b os kept
seat_notes b (o ∷ os) (None ∷ kept) = note_anew b o ∷ seat_notes b os kept
