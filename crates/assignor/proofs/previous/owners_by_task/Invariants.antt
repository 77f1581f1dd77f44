use Rattle.std.proofs.Common.{◌≡◌, take}
use Rattle.std.specs.BTreeMap.{get}
use Rattle.ksql_types.specs.declared.relation.TaskName.{TaskName}
use Rattle.ksql_types.specs.Order.{task_cmp}
use Rattle.assignor.specs.Rule.{owner_of}
use Rattle.assignor.proofs.previous.owners_by_task.Given as goal

abbrev pub invariant-loop-owned : goal.invariant-loop-owned
invariant-loop-owned l = (task : TaskName) → get task_cmp l.owners task ≡ owner_of (take l.owned-index l.previous) task
