use Rattle.std.proofs.Common.{◌≡◌, map, take}
use Rattle.cluster_tests.specs.Runs.{standing_at}
use Rattle.cluster_tests.proofs.standing.standings_of.Given as goal

-- how the tasks so far stand
abbrev pub invariant-loop-task : goal.invariant-loop-task
invariant-loop-task l = l.standings.items ≡ map (standing_at l.broker) (take l.task-index l.tasks)
