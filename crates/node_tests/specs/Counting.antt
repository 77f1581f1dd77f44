-- Nodes that count rows in windows.
use Rattle.std.specs.Prelude.{◌≡◌, [], ◌∷◌, Some, None}
use Rattle.ksql_types.specs.declared.relation.Kind.TheVariants.{Stream}
use Rattle.ksql_types.specs.declared.relation.Window.{Window}
use Rattle.ksql_expr.specs.declared.typed.AggFun.TheVariants.{CountAll}
use Rattle.ksql_nodes.specs.declared.node.Node.{Node}
use Rattle.ksql_nodes.specs.declared.node.Node.TheVariants.{Aggregate}

-- COUNT of the rows of a stream in windows
abbrev pub CountsRows : Node → Type 0
CountsRows node = (w : Window) × (node ≡ Aggregate Stream (record { fun = CountAll; arg = None } ∷ []) (Some w))
