-- What gives a change its key.
use Rattle.std.specs.Prelude.{List}
use Rattle.ksql_place.specs.declared.change.Change.{Change}
use Rattle.ksql_nodes.specs.declared.node.Node.{Node}
use Rattle.ksql_nodes.specs.declared.node.Node.TheVariants as nodes
use Rattle.ksql_nodes.specs.Groups.{grouped}
use Rattle.ksql_nodes.specs.Joins.{join_key, rekeyed}
use Rattle.row_ops.specs.declared.rekey_op.Keying.{Keying}
use Rattle.row_ops.specs.declared.rekey_op.Keying.TheVariants.{Join, Group}

abbrev pub node_of : Keying → Node
node_of (Join key) = nodes.Rekey key
node_of (Group keys) = nodes.Group keys

-- what the node of a keying gives for a change
abbrev pub given_by : Keying → Change → List Change
given_by (Join key) c = rekeyed (join_key key c) c
given_by (Group keys) c = grouped keys c
