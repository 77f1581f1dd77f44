use Rattle.std.proofs.Common.{◌≡◌, ◌++◌}
use Rattle.assignor.specs.Rule.{owned_at}
use Rattle.assignor.proofs.assigning.owned_at.Given as goal

-- the pairs so far, and those to come
abbrev pub invariant-loop-task : goal.invariant-loop-task
invariant-loop-task l = l.owned.items ++ owned_at l.task-iterator.a.rest.now l.task-iterator.b.rest.now ≡ owned_at l.tasks l.places
