-- The entries that are lent, and which nodes are run by themselves and which are joins.
use Rattle.std.specs.Prelude.{Bool, true, false, Some}
use Rattle.ksql_nodes.specs.declared.node.Node.{Node}
use Rattle.ksql_nodes.specs.declared.node.Node.TheVariants.{JoinStreamTable, JoinTables, Aggregate}
use Rattle.ksql_nodes.specs.Entries.{Entry}
use Rattle.reference.specs.declared.entries.EntryRef.{EntryRef}

-- a borrowed entry
abbrev pub entry_of : EntryRef → Entry
entry_of e = record { side = e.side; change = e.change.now }

-- whether a node is run here: neither a join nor a window
abbrev pub is_run : Node → Bool
is_run (JoinStreamTable kind on left right) = false
is_run (JoinTables kind left right) = false
is_run (Aggregate over aggs (Some w)) = false
is_run _ = true

-- whether a node is a join
abbrev pub is_join : Node → Bool
is_join (JoinStreamTable kind on left right) = true
is_join (JoinTables kind left right) = true
is_join node = false
