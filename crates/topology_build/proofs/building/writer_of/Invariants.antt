use Rattle.std.proofs.Common.{◌≡◌, drop}
use Rattle.topology.specs.Topologies.{writer_of}
use Rattle.topology_build.proofs.building.writer_of.Given as goal

abbrev pub invariant-loop-sub : goal.invariant-loop-sub
invariant-loop-sub l = writer_of l.topic l.subs ≡ writer_of l.topic (drop l.sub-index l.subs)
