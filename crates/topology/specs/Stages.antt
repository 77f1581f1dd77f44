-- Where a query is cut (Kafka Streams developer guide, "Architecture": sub-topologies end at repartition topics; ksqlDB
-- manual, "Partition data": an operation whose key the data doesn't have needs a repartition).
use Rattle.std.specs.Prelude.{ℕ, zero, suc, ◌+◌, ◌==◌, ◌&&◌, ◌||◌, not, Bool, true, false, if◌then◌else◌, List, [], ◌∷◌, ◌++◌}
use Rattle.ksql_types.specs.declared.relation.Kind.{Kind}
use Rattle.ksql_types.specs.declared.relation.Kind.TheVariants.{Stream, Table}
use Rattle.ksql_expr.specs.declared.typed.Typed.{Typed}
use Rattle.ksql_expr.specs.declared.typed.TypedNode.TheVariants.{Column}
use Rattle.grouped_expressions.specs.Same.{same_form, same_tree}
use Rattle.ksql_program.specs.declared.program.Item.{Item}
use Rattle.ksql_program.specs.declared.query.From.{From}
use Rattle.ksql_program.specs.declared.query.From.TheVariants.{One, Join}
use Rattle.ksql_program.specs.declared.query.JoinKind.{JoinKind}
use Rattle.ksql_program.specs.declared.query.JoinKind.TheVariants.{Inner, Left, Full}
use Rattle.ksql_program.specs.declared.query.Query.{Query}
use Rattle.ksql_program.specs.declared.query.Shape.{Shape}
use Rattle.ksql_program.specs.declared.query.Shape.TheVariants as shape
use Rattle.ksql_nodes.specs.declared.node.Node.{Node}
use Rattle.ksql_nodes.specs.declared.node.Node.TheVariants as node
use Rattle.ksql_nodes.specs.declared.node.Side.{Side}
use Rattle.query_meaning.specs.Queries.{after_aggregate, filter_of, join_of, key_columns, kind_at, lanes_of, leftmost, side_at}
use Rattle.topology.specs.declared.stage.Stage.{Stage}
use Rattle.topology.specs.declared.stage.Link.{Link}
use Rattle.topology.specs.declared.stage.Link.TheVariants.{Relation, Cut}
use Rattle.topology.specs.declared.stage.CutName.TheVariants as cut

-- ---- keys

-- whether an expression is a column of this number
abbrev pub is_column : ℕ → Typed → Bool
is_column number e = same_form e.node (Column number)

-- whether the expressions are n consecutive columns, starting from this number
abbrev pub are_columns_from : ℕ → ℕ → List Typed → Bool
are_columns_from number zero [] = true
are_columns_from number (suc n) (e ∷ es) = is_column number e && are_columns_from (number + 1) n es
are_columns_from number _ _ = false

-- whether an expression is the key of a join of a stream and a table: the join key, or in an INNER join also the
-- table's key
abbrev pub is_stream_key : JoinKind → Side → Typed → Typed → Bool
is_stream_key Inner left on key = same_tree key on || is_column left.columns key
is_stream_key _ left on key = same_tree key on

-- whether an expression is the key of a join of two tables: the left key, in an INNER join also the right one, and in a
-- FULL join ROWKEY alone, since either side may be absent
abbrev pub is_tables_key : JoinKind → Side → Side → Typed → Bool
is_tables_key Inner left right key = is_column 0 key || is_column left.columns key
is_tables_key Left left right key = is_column 0 key
is_tables_key Full left right key = is_column (left.columns + right.columns) key

-- whether an expression is the key of a join, by the kind of its left side
abbrev pub is_joined_key : Kind → JoinKind → Side → Side → Typed → Typed → Bool
is_joined_key Stream k left right on key = is_stream_key k left on key
is_joined_key _ k left right on key = is_tables_key k left right key

-- whether the expressions are, in order, the key of what a query reads
abbrev pub are_own_key : List Item → From → List Typed → Bool
are_own_key items (One number) keys = are_columns_from 0 (key_columns items number) keys
are_own_key items (Join k left right on) (key ∷ []) = is_joined_key (kind_at items left) k (side_at items left) (side_at items right) on key
are_own_key items (Join k left right on) _ = false

-- whether a stream must be rekeyed for its join: the join key isn't its key column
abbrev pub is_rekeyed : List Item → From → Bool
is_rekeyed items (One number) = false
is_rekeyed items (Join k left right on) = by (kind_at items left)
  where
    by : Kind → Bool
    by Stream = not ((key_columns items left == 1) && is_column 0 on)
    by _ = false

-- ---- stages

-- the topics that the stage of a query's join, or of its one relation, reads
abbrev pub inputs_of : List Item → From → List Link
inputs_of items (One number) = Relation number ∷ []
inputs_of items (Join k left right on) =
    (if is_rekeyed items (Join k left right on) then Cut cut.Left left else Relation left) ∷ Relation right ∷ []

-- the stage that rekeys the left side of what a query reads, if any
abbrev pub rekey_from : List Item → Query → From → List Stage
rekey_from items q (One number) = []
rekey_from items q (Join k left right on) =
    if is_rekeyed items (Join k left right on)
    then record { inputs = Relation left ∷ []; nodes = node.Rekey on ∷ []; partitions = lanes_of items q; output = Cut cut.Left left } ∷ []
    else []

abbrev pub rekey_stages : List Item → Query → List Stage
rekey_stages items q = rekey_from items q q.from

-- the table that a query without a join reads
abbrev pub table_of : List Item → From → List Node
table_of items (One number) = by (kind_at items number)
  where
    by : Kind → List Node
    by Table = node.Table number ∷ []
    by _ = []
table_of items (Join k left right on) = []

-- the nodes up to WHERE
abbrev pub input_nodes : List Item → Query → List Node
input_nodes items q = table_of items q.from ++ (join_of items q.from ++ filter_of q.filter)

-- the aggregate and the nodes after it
abbrev pub aggregate_nodes : List Item → Query → Shape → List Node
aggregate_nodes items q (shape.Plain keys values) = []
aggregate_nodes items q (shape.Group keys window aggs having values) =
    node.Aggregate (kind_at items (leftmost q.from)) aggs window ∷ after_aggregate having values

-- the stages of a query's shape: they are cut before an aggregate whose groups aren't by the own key
abbrev pub shape_stages : List Item → Query → Shape → List Stage
shape_stages items q (shape.Plain keys values) =
    record { inputs = inputs_of items q.from; nodes = input_nodes items q ++ node.Select keys values ∷ []; partitions = lanes_of items q; output = Relation q.out.number } ∷ []
shape_stages items q (shape.Group keys window aggs having values) =
    let grouping = input_nodes items q ++ node.Group keys ∷ [] in
    let rest = aggregate_nodes items q (shape.Group keys window aggs having values) in
    if are_own_key items q.from keys
    then record { inputs = inputs_of items q.from; nodes = grouping ++ rest; partitions = lanes_of items q; output = Relation q.out.number } ∷ []
    else record { inputs = inputs_of items q.from; nodes = grouping; partitions = lanes_of items q; output = Cut cut.Group (leftmost q.from) }
    ∷ record { inputs = Cut cut.Group (leftmost q.from) ∷ []; nodes = rest; partitions = lanes_of items q; output = Relation q.out.number } ∷ []

-- the stages of a query
unfoldable pub stages_of : List Item → Query → List Stage
stages_of items q = rekey_stages items q ++ shape_stages items q q.shape
