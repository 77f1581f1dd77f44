-- Each step of a query keeps the stamps of its entries.
use Rattle.std.proofs.Common.{◌≡◌, ℕ, List, [], ◌∷◌, ◌++◌, map}
use Rattle.std.specs.List.{AllByRecursion}
use Rattle.ksql_types.specs.declared.relation.Kind.{Kind}
use Rattle.ksql_types.specs.declared.relation.Kind.TheVariants as kind
use Rattle.ksql_expr.specs.declared.typed.Typed.{Typed}
use Rattle.ksql_program.specs.declared.program.Item.{Item}
use Rattle.ksql_program.specs.declared.query.Agg.{Agg}
use Rattle.ksql_program.specs.declared.query.Query.{Query}
use Rattle.ksql_program.specs.declared.query.Shape.{Shape}
use Rattle.ksql_program.specs.declared.query.Shape.TheVariants.{Plain, Group}
use Rattle.ksql_nodes.specs.declared.node.Node.{Node}
use Rattle.ksql_nodes.specs.declared.node.Node.TheVariants as node
use Rattle.ksql_nodes.specs.Groups.{grouped}
use Rattle.ksql_nodes.specs.Nodes.{gives}
use Rattle.ksql_nodes.specs.Steps.{KeepsStamp}
use Rattle.ksql_nodes.specs.TableAggregates.{aggregate_of_table, held_change}
use Rattle.ksql_nodes.proofs.Lists.{All-append}
use Rattle.ksql_nodes.proofs.Stamps.{gives-keeps}
use Rattle.query_meaning.specs.Meaning.{steps_of_declared}
use Rattle.query_meaning.specs.Queries.{after_aggregate, filter_of, join_of, kind_at, lanes_of, leftmost, shape_steps, steps_of}
use Rattle.meaning_laws.proofs.Lists.{All-map}

nodes-keep : (n : ℕ) (nodes : List Node) → AllByRecursion KeepsStamp (map (gives n) nodes)
nodes-keep n [] = tt
nodes-keep n (x ∷ xs) = (gives-keeps n x, nodes-keep n xs)

aggregate-keeps : (keys : List Typed) (aggs : List Agg) → KeepsStamp (aggregate_of_table keys aggs)
unfolding gives
aggregate-keeps keys aggs before e =
    All-map (λ c. c.place.stamp ≡ e.change.place.stamp) (held_change keys aggs before e) (grouped keys e.change) (gives-keeps 1 (node.Group keys) before e)

shape-keeps : (n : ℕ) (over : Kind) (shape : Shape) → AllByRecursion KeepsStamp (shape_steps n over shape)
shape-keeps n over (Plain keys values) = (gives-keeps n (node.Select keys values), tt)
shape-keeps n kind.Stream (Group keys window aggs having values) =
    (gives-keeps n (node.Group keys), (gives-keeps n (node.Aggregate kind.Stream aggs window), nodes-keep n (after_aggregate having values)))
shape-keeps n kind.Table (Group keys window aggs having values) = (aggregate-keeps keys aggs, nodes-keep n (after_aggregate having values))
shape-keeps n kind.Windowed (Group keys window aggs having values) = (aggregate-keeps keys aggs, nodes-keep n (after_aggregate having values))

pub steps-keep : (items : List Item) (q : Query) → AllByRecursion KeepsStamp (steps_of items q)
unfolding steps_of
steps-keep items q =
    All-append KeepsStamp (map (gives (lanes_of items q)) (join_of items q.from ++ filter_of q.filter)) (shape_steps (lanes_of items q) (kind_at items (leftmost q.from)) q.shape)
    (nodes-keep (lanes_of items q) (join_of items q.from ++ filter_of q.filter))
    (shape-keeps (lanes_of items q) (kind_at items (leftmost q.from)) q.shape)

pub declared-keeps : (k : Kind) (number : ℕ) → AllByRecursion KeepsStamp (steps_of_declared k number)
declared-keeps kind.Stream number = tt
declared-keeps kind.Table number = (gives-keeps 1 (node.Table number), tt)
declared-keeps kind.Windowed number = tt
