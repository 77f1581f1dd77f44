-- Which nodes each operator is for.
use Rattle.std.specs.Prelude.{Bool, true, false}
use Rattle.ksql_nodes.specs.declared.node.Node.{Node}
use Rattle.ksql_nodes.specs.declared.node.Node.TheVariants.{Rekey, Table, Filter, Group, Having, Select}

abbrev pub is_table : Node → Bool
is_table (Table relation) = true
is_table node = false

abbrev pub is_filter : Node → Bool
is_filter (Filter on) = true
is_filter (Having on) = true
is_filter node = false

abbrev pub is_select : Node → Bool
is_select (Select keys items) = true
is_select node = false

abbrev pub is_rekey : Node → Bool
is_rekey (Rekey key) = true
is_rekey (Group keys) = true
is_rekey node = false
