use Rattle.std.specs.Prelude.{All}
use Rattle.cluster_core.specs.Cluster.{IsBuilt}
use Rattle.schedules.proofs.drawing.feeds_of.Given as goal

-- a cluster can take the feeds so far
abbrev pub invariant-loop-step : goal.invariant-loop-step
invariant-loop-step l = All IsBuilt l.feeds.items
