use Rattle.std.proofs.Common.{◌≡◌, map, take}
use Rattle.ksql_program.specs.Program.{relations}
use Rattle.topology.specs.Topologies.{relation_topic}
use Rattle.topology_build.proofs.building.relation_topics.Given as goal

abbrev pub invariant-loop-item : goal.invariant-loop-item
invariant-loop-item l = l.topics.items ≡ map (relation_topic l.subs) (relations (take l.item-index l.items))
