-- What a query reads, and its steps.
use Rattle.std.specs.Prelude.{ℕ, ◌==◌, if◌then◌else◌, List, [], ◌∷◌, ◌++◌, length, map, replicate, Option, unwrap_or, option_map, slice_get}
use Rattle.std.specs.Option.{option_to_list}
use Rattle.std.specs.declared.cmp.Ordering.{Ordering}
use Rattle.ksql_types.specs.Columns.{columns}
use Rattle.ksql_types.specs.declared.relation.Kind.{Kind}
use Rattle.ksql_types.specs.declared.relation.Kind.TheVariants as kind
use Rattle.ksql_types.specs.declared.value.Value.{Value}
use Rattle.ksql_types.specs.declared.value.Value.TheVariants.{Null}
use Rattle.ksql_place.specs.Ascending.{ascending}
use Rattle.ksql_place.specs.Order.{between_cmp}
use Rattle.ksql_place.specs.declared.change.Body.{Body}
use Rattle.ksql_place.specs.declared.change.Body.TheVariants.{Said, Turned}
use Rattle.ksql_place.specs.declared.change.Change.{Change}
use Rattle.ksql_expr.specs.declared.typed.Typed.{Typed}
use Rattle.ksql_program.specs.Program.{relation_at}
use Rattle.ksql_program.specs.declared.program.Item.{Item}
use Rattle.ksql_program.specs.declared.query.From.{From}
use Rattle.ksql_program.specs.declared.query.From.TheVariants.{One, Join}
use Rattle.ksql_program.specs.declared.query.JoinKind.{JoinKind}
use Rattle.ksql_program.specs.declared.query.Query.{Query}
use Rattle.ksql_program.specs.declared.query.Shape.{Shape}
use Rattle.ksql_program.specs.declared.query.Shape.TheVariants.{Plain, Group}
use Rattle.ksql_nodes.specs.declared.node.Node.{Node}
use Rattle.ksql_nodes.specs.declared.node.Node.TheVariants as node
use Rattle.ksql_nodes.specs.declared.node.Side.{Side}
use Rattle.ksql_nodes.specs.Entries.{Entry, Step, from_side, through}
use Rattle.ksql_nodes.specs.Nodes.{gives}
use Rattle.ksql_nodes.specs.TableAggregates.{aggregate_of_table}

-- ---- what a query reads

-- the cells of the key columns: NULL if a change has no key
abbrev pub key_cells : ℕ → List Value → List Value
key_cells columns [] = replicate columns Null
key_cells columns (x ∷ xs) = x ∷ xs

-- a change whose rows begin with the cells of its key
abbrev pub with_key_cells : ℕ → Change → Change
with_key_cells columns c = record c { body = by_body c.body }
  where
    by_body : Body → Body
    by_body (Said row) = Said (key_cells columns c.key ++ row)
    by_body (Turned old new) = Turned (option_map (λ row. key_cells columns c.key ++ row) old) (option_map (λ row. key_cells columns c.key ++ row) new)

-- the number of key columns of a relation
abbrev pub key_columns : List Item → ℕ → ℕ
key_columns items number = unwrap_or (option_map (λ r. length r.schema.keys) (relation_at items number)) 0

-- the changes of a relation
abbrev pub changes_at : List (List Change) → ℕ → List Change
changes_at lists number = unwrap_or (slice_get lists number) []

-- the changes of a relation, with whole rows
abbrev pub whole_changes : List Item → List (List Change) → ℕ → List Change
whole_changes items lists number = map (with_key_cells (key_columns items number)) (changes_at lists number)

-- the entries of two relations compare by their places
abbrev pub entry_cmp : ℕ → ℕ → Entry → Entry → Ordering
entry_cmp left right a b = between_cmp a.change.place (relation a) b.change.place (relation b)
  where
    relation : Entry → ℕ
    relation e = if e.side == 0 then left else right

-- what a query reads: the changes of one relation, or those of two in the order of their places
unfoldable pub read_entries : List Item → List (List Change) → From → List Entry
read_entries items lists (One number) = from_side 0 (whole_changes items lists number)
read_entries items lists (Join kind left right on) =
    ascending (entry_cmp left right) (from_side 0 (whole_changes items lists left) ++ from_side 1 (whole_changes items lists right))

-- ---- the steps of a query

-- the leftmost relation that a query reads
abbrev pub leftmost : From → ℕ
leftmost (One number) = number
leftmost (Join kind left right on) = left

abbrev pub kind_at : List Item → ℕ → Kind
kind_at items number = unwrap_or (option_map (λ r. r.kind) (relation_at items number)) kind.Stream

-- the partitions of a relation
abbrev pub partitions_at : List Item → ℕ → ℕ
partitions_at items number = unwrap_or (option_map (λ r. r.partitions) (relation_at items number)) 1

-- the lanes of a query: the partitions of its leftmost relation
abbrev pub lanes_of : List Item → Query → ℕ
lanes_of items q = partitions_at items (leftmost q.from)

-- a side of a join: its relation, and the number of its columns
abbrev pub side_at : List Item → ℕ → Side
side_at items number = record { relation = number; columns = unwrap_or (option_map (λ r. length (columns r)) (relation_at items number)) 0 }

-- the join of two relations, by the kind of the left one: of a stream and a table, or of two tables
abbrev pub join_over : List Item → JoinKind → ℕ → ℕ → Typed → Kind → List Node
join_over items k left right on kind.Stream = node.JoinStreamTable k on (side_at items left) (side_at items right) ∷ []
join_over items k left right on _ = node.JoinTables k (side_at items left) (side_at items right) ∷ []

-- the join, if any
abbrev pub join_of : List Item → From → List Node
join_of items (One number) = []
join_of items (Join k left right on) = join_over items k left right on (kind_at items left)

-- WHERE, if any
abbrev pub filter_of : Option Typed → List Node
filter_of on = map (λ e. node.Filter e) (option_to_list on)

-- HAVING, if any, and the items of a grouped query
abbrev pub after_aggregate : Option Typed → List Typed → List Node
after_aggregate having values = map (λ e. node.Having e) (option_to_list having) ++ node.Select [] values ∷ []

-- the steps of a shape over a relation of a kind, with this many lanes; an aggregate of a table is one step
abbrev pub shape_steps : ℕ → Kind → Shape → List Step
shape_steps n over (Plain keys values) = gives n (node.Select keys values) ∷ []
shape_steps n kind.Stream (Group keys window aggs having values) =
    gives n (node.Group keys) ∷ gives n (node.Aggregate kind.Stream aggs window) ∷ map (gives n) (after_aggregate having values)
shape_steps n _ (Group keys window aggs having values) = aggregate_of_table keys aggs ∷ map (gives n) (after_aggregate having values)

-- the steps of a query: its join, WHERE, and then its shape
unfoldable pub steps_of : List Item → Query → List Step
steps_of items q =
    map (gives (lanes_of items q)) (join_of items q.from ++ filter_of q.filter)
    ++ shape_steps (lanes_of items q) (kind_at items (leftmost q.from)) q.shape

-- the changes of a query's result, given those of the earlier relations
unfoldable pub query_changes : List Item → List (List Change) → Query → List Change
query_changes items lists q = through (steps_of items q) (read_entries items lists q.from)
