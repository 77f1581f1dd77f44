use Rattle.std.proofs.Common.{◌≡◌, ◌++◌, drop}
use Rattle.topology.specs.Topologies.{cuts_of}
use Rattle.topology_build.proofs.building.cuts_of.Given as goal

abbrev pub invariant-loop-stage : goal.invariant-loop-stage
invariant-loop-stage l = l.cuts.items ++ cuts_of (drop l.stage-index l.stages) ≡ cuts_of l.stages
