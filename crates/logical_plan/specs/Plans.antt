-- The plan of a query, and the meaning of a plan.
use Rattle.std.specs.Prelude.{ℕ, if◌then◌else◌, List, [], ◌++◌, Option, Some, None}
use Rattle.ksql_types.specs.declared.relation.Kind.{Kind}
use Rattle.ksql_types.specs.declared.relation.Kind.TheVariants as kind
use Rattle.ksql_types.specs.declared.relation.Window.{Window}
use Rattle.ksql_place.specs.Ascending.{ascending}
use Rattle.ksql_place.specs.declared.change.Change.{Change}
use Rattle.ksql_expr.specs.declared.typed.Typed.{Typed}
use Rattle.ksql_program.specs.declared.program.Item.{Item}
use Rattle.ksql_program.specs.declared.query.Agg.{Agg}
use Rattle.ksql_program.specs.declared.query.From.{From}
use Rattle.ksql_program.specs.declared.query.From.TheVariants.{One, Join}
use Rattle.ksql_program.specs.declared.query.JoinKind.{JoinKind}
use Rattle.ksql_program.specs.declared.query.Query.{Query}
use Rattle.ksql_program.specs.declared.query.Shape.{Shape}
use Rattle.ksql_program.specs.declared.query.Shape.TheVariants as shape
use Rattle.ksql_nodes.specs.declared.node.Node.{Node}
use Rattle.ksql_nodes.specs.declared.node.Node.TheVariants as node
use Rattle.ksql_nodes.specs.Entries.{from_side, results}
use Rattle.ksql_nodes.specs.Nodes.{gives}
use Rattle.ksql_nodes.specs.TableAggregates.{aggregate_of_table}
use Rattle.query_meaning.specs.Queries.{entry_cmp, kind_at, leftmost, partitions_at, side_at, whole_changes}
use Rattle.topology.specs.Stages.{is_rekeyed}
use Rattle.logical_plan.specs.declared.tree.Plan.{Plan, fold-Plan}
use Rattle.logical_plan.specs.declared.tree.Plan.TheOpen.{Plan-F}
use Rattle.logical_plan.specs.declared.tree.Plan.TheVariants as tree

-- ---- the plan of a query

-- the left side of a join: the relation, rekeyed if needed
abbrev pub left_plan : List Item → JoinKind → ℕ → ℕ → Typed → Plan
left_plan items k left right on = if is_rekeyed items (Join k left right on) then tree.Rekey on (tree.Source left) else tree.Source left

-- the join of two relations, by the kind of the left one: of a stream and a table, or of two tables
abbrev pub join_plan : List Item → JoinKind → ℕ → ℕ → Typed → Kind → Plan
join_plan items k left right on kind.Stream = tree.JoinStreamTable k on (left_plan items k left right on) (tree.Source right)
join_plan items k left right on _ = tree.JoinTables k (tree.Source left) (tree.Source right)

-- what a query reads
abbrev pub read_plan : List Item → From → Plan
read_plan items (One number) = tree.Source number
read_plan items (Join k left right on) = join_plan items k left right on (kind_at items left)

-- a plan with WHERE on top, if any
abbrev pub filter_plan : Option Typed → Plan → Plan
filter_plan None arg = arg
filter_plan (Some on) arg = tree.Filter on arg

-- a plan with HAVING on top, if any
abbrev pub having_plan : Option Typed → Plan → Plan
having_plan None arg = arg
having_plan (Some on) arg = tree.Having on arg

-- a plan with the groups and their aggregates on top, over a relation of a kind
abbrev pub aggregate_plan : Kind → List Typed → List Agg → Option Window → Plan → Plan
aggregate_plan over keys aggs window arg = tree.Aggregate over aggs window (tree.Group keys arg)

-- a plan with the shape of a query on top, over a relation of a kind; the result is the relation `out`
abbrev pub shape_plan : Kind → ℕ → Shape → Plan → Plan
shape_plan over out (shape.Plain keys values) arg = tree.Select keys values out arg
shape_plan over out (shape.Group keys window aggs having values) arg = tree.Select [] values out (having_plan having (aggregate_plan over keys aggs window arg))

-- the plan of a query
unfoldable pub plan_of : List Item → Query → Plan
plan_of items q = shape_plan (kind_at items (leftmost q.from)) q.out.number q.shape (filter_plan q.filter (read_plan items q.from))

-- ---- the meaning of a plan

-- the meaning of a part of a plan: its changes, the leftmost relation that it reads, and the expressions of a grouping
-- whose aggregate is still to come
pub record Meant : Type 0 where
  pub changes : List Change
  pub leftmost : ℕ
  pub groups : List Typed

-- what a node makes of a part
abbrev pub after_node : List Item → Node → Meant → Meant
after_node items x m = record { changes = results (gives (partitions_at items m.leftmost) x) [] (from_side 0 m.changes); leftmost = m.leftmost; groups = [] }

-- what a join makes of two parts
abbrev pub after_join : List Item → Node → Meant → Meant → Meant
after_join items x l r = record {
  changes = results (gives (partitions_at items l.leftmost) x) [] (ascending (entry_cmp l.leftmost r.leftmost) (from_side 0 l.changes ++ from_side 1 r.changes));
  leftmost = l.leftmost;
  groups = [];
}

-- an aggregate over a relation of a kind: for a stream a grouping and then the aggregate, for a table one step
abbrev pub aggregated : ℕ → Kind → List Agg → Option Window → Meant → List Change
aggregated n kind.Stream aggs window m =
    results (gives n (node.Aggregate kind.Stream aggs window)) [] (from_side 0 (results (gives n (node.Group m.groups)) [] (from_side 0 m.changes)))
aggregated n _ aggs window m = results (aggregate_of_table m.groups aggs) [] (from_side 0 m.changes)

-- the meaning of a step of a plan, given the meanings of its parts
abbrev pub meaning_step : List Item → List (List Change) → Plan-F Meant → Meant
meaning_step items lists (Plan-F.Source number) = record { changes = whole_changes items lists number; leftmost = number; groups = [] }
meaning_step items lists (Plan-F.Filter on m) = after_node items (node.Filter on) m
meaning_step items lists (Plan-F.Rekey key m) = after_node items (node.Rekey key) m
meaning_step items lists (Plan-F.JoinStreamTable k on l r) = after_join items (node.JoinStreamTable k on (side_at items l.leftmost) (side_at items r.leftmost)) l r
meaning_step items lists (Plan-F.JoinTables k l r) = after_join items (node.JoinTables k (side_at items l.leftmost) (side_at items r.leftmost)) l r
meaning_step items lists (Plan-F.Group keys m) = record { changes = m.changes; leftmost = m.leftmost; groups = keys }
meaning_step items lists (Plan-F.Aggregate over aggs window m) =
    record { changes = aggregated (partitions_at items m.leftmost) over aggs window m; leftmost = m.leftmost; groups = [] }
meaning_step items lists (Plan-F.Having on m) = after_node items (node.Having on) m
meaning_step items lists (Plan-F.Select keys values out m) = after_node items (node.Select keys values) m

-- the meaning of a plan, given the changes of the relations
unfoldable pub plan_meaning : List Item → List (List Change) → Plan → Meant
plan_meaning items lists = fold-Plan Meant (meaning_step items lists)

-- the changes of a plan's result
abbrev pub plan_changes : List Item → List (List Change) → Plan → List Change
plan_changes items lists p = (plan_meaning items lists p).changes
