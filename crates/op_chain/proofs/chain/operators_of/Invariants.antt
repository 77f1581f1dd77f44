use Rattle.std.proofs.Common.{◌≡◌, [], map, take}
use Rattle.operator.specs.Holding.{committed}
use Rattle.op_chain.specs.Chain.{maps_after}
use Rattle.op_chain.proofs.Ops.{held_of, node_of}
use Rattle.op_chain.proofs.chain.operators_of.Given as goal

abbrev pub invariant-loop-node : goal.invariant-loop-node
invariant-loop-node l = record {
  nodes : map node_of l.ops.items ≡ take l.node-index l.nodes;
  held : map held_of l.ops.items ≡ map committed (maps_after (take l.node-index l.nodes) []);
}
