-- Tasks that run: the state of the core that they and a broker stand for, and the owners that they have.
use Rattle.std.specs.Prelude.{◌≡◌, ◌⊎◌, ◌&&◌, ◌==◌, ℕ, Bool, if◌then◌else◌, IsTrue, List, [], ◌∷◌, drop, map, Option, Some, None}
use Rattle.ksql_types.specs.declared.relation.TaskName.{TaskName}
use Rattle.operator.specs.Holding.{Maps}
use Rattle.topology.specs.Tasks.{tasks_of}
use Rattle.topology.specs.declared.topology.Topology.{Topology}
use Rattle.core_state.specs.Shelf.{state_of}
use Rattle.core_state.specs.State.{Instance, State}
use Rattle.topic_log.specs.Shelves.{shelf_of}
use Rattle.topic_log.specs.declared.shelves.Shelves.{Shelves}
use Rattle.task_core.specs.Core.{inputs_at, nodes_at}
use Rattle.task_core.specs.Tasks.{TaskView}
use Rattle.task_core.specs.declared.task.Moved.{Moved}
use Rattle.assignor.specs.Rule.{is_live}
use Rattle.assignor.specs.declared.assignment.Owned.{Owned}
use Rattle.cluster_laws.specs.Moves.{owned_of}
use Rattle.cluster_laws.specs.declared.seats.Seat.{Seat}

-- ---- the state of the core

-- whether a task that runs has this name
abbrev pub is_named : TaskName → Moved → Bool
is_named u m = (m.task.name.sub == u.sub) && (m.task.name.part == u.part)

-- a task that waits with no proposal
abbrev pub idle : TaskView → Moved
idle t = record { task = t; proposal = None }

-- a task that runs, as the core sees it
abbrev pub instance_of : Moved → Instance (List Maps)
instance_of m = record { generation = m.task.generation; done = m.task.done; stores = m.task.maps; proposal = m.proposal }

-- the instance of a task among tasks that run
abbrev pub instance_in : List Moved → TaskName → Option (Instance (List Maps))
instance_in [] u = None
instance_in (m ∷ ms) u = if is_named u m then Some (instance_of m) else instance_in ms u

-- the core of a broker and of tasks that run
abbrev pub core_state_of : Shelves → List Moved → State (List Maps)
core_state_of b running = state_of (record { shelf = shelf_of b; instance = instance_in running; held = λ u. [] })

-- ---- tasks and their owners

-- a task of a topology
pub record IsTaskIn (t : Topology) (task : TaskView) : Type 0 where
  pub nodes : task.nodes ≡ nodes_at t task.name
  pub inputs : task.inputs ≡ inputs_at t task.name

-- all tasks of a topology have owners, in the order of the tasks, or none has
abbrev pub IsOwned : Topology → List Owned → Type 0
IsOwned t owners = (owners ≡ []) ⊎ (map (λ o. o.task) owners ≡ tasks_of t.subs)

-- a task waits with no proposal where its owner is live
abbrev pub IsIdleAt : List ℕ → Seat → Moved → Type 0
IsIdleAt live s m = IsTrue (is_live live s.worker) → m ≡ idle s.task

-- a task that is kept has the owner at its place; after the last owner none is kept
abbrev pub KeepPlaces : List Owned → List (Option Seat) → Type 0
KeepPlaces owners [] = Unit {0}
KeepPlaces owners (None ∷ kept) = KeepPlaces (drop 1 owners) kept
KeepPlaces [] (Some s ∷ kept) = ⊥
KeepPlaces (o ∷ os) (Some s ∷ kept) = (o ≡ owned_of s) × KeepPlaces os kept
