use Rattle.std.proofs.Common.{◌≡◌, map, take}
use Rattle.ksql_program.specs.Program.{relations}
use Rattle.cluster_tests.specs.Runs.{closed_at}
use Rattle.cluster_tests.proofs.standing.closed_of.Given as goal

-- the feeds of the relations so far
abbrev pub invariant-loop-item : goal.invariant-loop-item
invariant-loop-item l = l.closed.items ≡ map (closed_at l.broker) (relations (take l.item-index l.items))
