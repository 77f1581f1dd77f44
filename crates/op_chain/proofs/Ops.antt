-- The nodes of operators, and what they hold.
use Rattle.ksql_nodes.specs.declared.node.Node.{Node}
use Rattle.operator.specs.Holding.{Held}
use Rattle.op_chain.specs.declared.op.Op.{Op}
use Rattle.op_chain.specs.contracts.op.OpOperator.TheImpl as op_operator

abbrev pub node_of : Op → Node
node_of = (op_operator.ghosts).node

abbrev pub held_of : Op → Held
held_of = (op_operator.ghosts).held
