use Rattle.std.proofs.Common.{◌≡◌, ◌+◌, drop}
use Rattle.topology.specs.Topologies.{place_of}
use Rattle.topology_build.proofs.building.place_of.Given as goal

abbrev pub invariant-loop-index : goal.invariant-loop-index
invariant-loop-index l = place_of l.name l.cuts ≡ l.index + place_of l.name (drop l.index l.cuts)
