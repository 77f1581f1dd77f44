use Rattle.std.proofs.Common.{◌≡◌, map, take}
use Rattle.topology.specs.Topologies.{input_of}
use Rattle.topology_build.proofs.building.Numbering.inputs_of.Given as goal

abbrev pub invariant-loop-link : goal.invariant-loop-link
invariant-loop-link l = l.inputs.items ≡ map (input_of l.self.program.now.items l.self.first l.self.cuts.now) (take l.link-index l.links)
