use Rattle.std.proofs.Common.{◌≡◌, map, take}
use Rattle.assignor.specs.Rule.{owner_of}
use Rattle.assignor.proofs.previous.owners_of.Given as goal

abbrev pub invariant-loop-task : goal.invariant-loop-task
invariant-loop-task l = l.owners.items ≡ map (owner_of l.previous) (take l.task-index l.tasks)
