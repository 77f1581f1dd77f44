-- When a task can advance, and what it is then.
use Rattle.std.specs.Prelude.{◌≡◌, ◌==◌, ◌≤◌, IfNone, IfSome, is_none}
use Rattle.core_state.specs.Routes.{Routes}
use Rattle.core_state.specs.Shelf.{Shelf}
use Rattle.op_chain.specs.Chain.{HaveOwnStores}
use Rattle.task_core.specs.Tasks.{CanStore, IsProposedBy, IsSameTask, TaskView, bound_of}
use Rattle.task_core.specs.declared.task.Moved.{Moved}

-- a task can process what a broker shows
pub record CanAdvance (r : Routes) (b : Shelf) (t : TaskView) : Type 0 where
  pub within : t.done ≤ bound_of r b t
  pub stores : HaveOwnStores t.nodes
  pub storable : CanStore r b t

-- a task after it processed what a broker shows: it proposes to commit this, unless it is already done with it
pub record IsAdvanced (r : Routes) (b : Shelf) (t : TaskView) (m : Moved) : Type 0 where
  pub same : IsSameTask t m.task
  pub done : m.task.done ≡ bound_of r b t
  pub none : is_none m.proposal ≡ (bound_of r b t == t.done)
  pub still : IfNone m.proposal (m.task ≡ t)
  pub proposal : IfSome m.proposal (IsProposedBy r b t m.task)
