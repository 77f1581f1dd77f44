use Rattle.std.specs.Prelude.{All}
use Rattle.cluster_core.specs.Cluster.{IsBuilt}
use Rattle.schedules.proofs.drawing.draw.Given as goal

-- a cluster can take the steps so far
abbrev pub invariant-loop : goal.invariant-loop
invariant-loop l = All IsBuilt l.steps.items
