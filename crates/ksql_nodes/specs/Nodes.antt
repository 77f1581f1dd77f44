-- What each node gives for an entry, given all earlier entries.
use Rattle.std.specs.Prelude.{ℕ, List, [], ◌∷◌, Some, None}
use Rattle.ksql_place.specs.Said.{row_in}
use Rattle.ksql_place.specs.declared.change.Change.{Change}
use Rattle.ksql_nodes.specs.declared.node.Node.{Node}
use Rattle.ksql_nodes.specs.declared.node.Node.TheVariants.{Rekey, Table, JoinStreamTable, JoinTables, Filter, Group, Aggregate, Having, Select}
use Rattle.ksql_nodes.specs.Entries.{Entry, of_key, row_after}
use Rattle.ksql_nodes.specs.Rows.{turned, with_body, filtered, selected}
use Rattle.ksql_nodes.specs.Joins.{join_key, rekeyed, join_stream, join_tables}
use Rattle.ksql_nodes.specs.Groups.{grouped}
use Rattle.ksql_nodes.specs.Aggregates.{group_change}
use Rattle.ksql_nodes.specs.Windows.{windowed, with_times, timed}

-- n is the number of lanes, each with a stream time of its own; it matters only to windows
unfoldable pub gives : ℕ → Node → List Entry → Entry → List Change
gives n (Rekey key) before e = rekeyed (join_key key e.change) e.change
gives n (Table relation) before e = with_body e.change (turned (row_after (of_key e.change.key before)) (row_in e.change.body))
gives n (JoinStreamTable kind on left right) before e = join_stream kind on left right before e
gives n (JoinTables kind left right) before e = join_tables kind left right before e
gives n (Filter on) before e = filtered on e.change
gives n (Group keys) before e = grouped keys e.change
gives n (Aggregate over aggs None) before e = group_change over aggs None (of_key e.change.key before) e ∷ []
gives n (Aggregate over aggs (Some w)) before e = windowed over aggs w (with_times n before) (timed n before e)
gives n (Having on) before e = filtered on e.change
gives n (Select keys values) before e = selected keys values e.change
