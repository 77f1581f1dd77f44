-- Which nodes each operator is for.
use Rattle.std.specs.Prelude.{Bool, true, false}
use Rattle.ksql_nodes.specs.declared.node.Node.{Node}
use Rattle.ksql_nodes.specs.declared.node.Node.TheVariants.{JoinStreamTable, JoinTables}

abbrev pub is_stream_join : Node → Bool
is_stream_join (JoinStreamTable kind on left right) = true
is_stream_join node = false

abbrev pub is_table_join : Node → Bool
is_table_join (JoinTables kind left right) = true
is_table_join node = false
