-- A typed tree as it reads after a grouping.
use Rattle.std.specs.Prelude.{ℕ, suc, if◌then◌else◌, List, [], ◌∷◌, map, Option, Some, None, option_map}
use Rattle.ksql_expr.specs.declared.typed.Typed.{Typed, para-Typed, roll-Typed}
use Rattle.ksql_expr.specs.declared.typed.TypedNode.{TypedNode, para-TypedNode}
use Rattle.ksql_expr.specs.declared.typed.TypedNode.TheVariants as n
use Rattle.ksql_expr.specs.declared.typed.TypedNode.TheOpen.{TypedNode-F, Typed-F, TypedWhen-F}
use Rattle.ksql_expr.specs.declared.typed.TypedWhen.{TypedWhen, para-TypedWhen, roll-TypedWhen}
use Rattle.grouped_expressions.specs.Same.{same_form}

-- the index of the first of these forms that is the same, counted from a number on
abbrev pub place_from : ℕ → List TypedNode → TypedNode → Option ℕ
place_from number [] form = None
place_from number (c ∷ cs) form = if same_form c form then Some number else place_from (suc number) cs form

abbrev pub place_among : List TypedNode → TypedNode → Option ℕ
place_among columns form = place_from 0 columns form

-- the column at a place, or else another form
abbrev pub column_or : TypedNode → Option ℕ → TypedNode
column_or other (Some number) = n.Column number
column_or other None = other

-- a part, before it was rewritten
abbrev pub old : {A : Type 0} → A × A → A
old part = part.0

abbrev pub new : {A : Type 0} → A × A → A
new part = part.1

module _ (columns : List TypedNode) where
  -- the column with this form, or else the form with its rewritten parts
  abbrev pub placed_or : TypedNode → TypedNode → TypedNode
  placed_or form rebuilt = column_or rebuilt (place_among columns form)

  -- a rewritten form, given its parts and their rewritten ones
  abbrev pub node_step : TypedNode-F (TypedNode × TypedNode) (Typed × Typed) (TypedWhen × TypedWhen) → TypedNode
  node_step (TypedNode-F.Literal x) = placed_or (n.Literal x) (n.Literal x)
  node_step (TypedNode-F.Column i) = placed_or (n.Column i) (n.Column i)
  node_step TypedNode-F.RowTime = placed_or n.RowTime n.RowTime
  node_step (TypedNode-F.Sign minus x) = placed_or (n.Sign minus (old x)) (n.Sign minus (new x))
  node_step (TypedNode-F.Binary op x y) = placed_or (n.Binary op (old x) (old y)) (n.Binary op (new x) (new y))
  node_step (TypedNode-F.Not x) = placed_or (n.Not (old x)) (n.Not (new x))
  node_step (TypedNode-F.IsNull negated x) = placed_or (n.IsNull negated (old x)) (n.IsNull negated (new x))
  node_step (TypedNode-F.Between negated x low high) =
      placed_or (n.Between negated (old x) (old low) (old high)) (n.Between negated (new x) (new low) (new high))
  node_step (TypedNode-F.OneOf negated x choices) = placed_or (n.OneOf negated (old x) (map old choices)) (n.OneOf negated (new x) (map new choices))
  node_step (TypedNode-F.Like negated x pattern) = placed_or (n.Like negated (old x) pattern) (n.Like negated (new x) pattern)
  node_step (TypedNode-F.Cast x to) = placed_or (n.Cast (old x) to) (n.Cast (new x) to)
  node_step (TypedNode-F.Case operand whens otherwise) =
      placed_or (n.Case (option_map old operand) (map old whens) (option_map old otherwise)) (n.Case (option_map new operand) (map new whens) (option_map new otherwise))
  node_step (TypedNode-F.Call fun args) = placed_or (n.Call fun (map old args)) (n.Call fun (map new args))
  node_step (TypedNode-F.Aggregate fun arg) = placed_or (n.Aggregate fun (option_map old arg)) (n.Aggregate fun (option_map new arg))

  abbrev pub tree_step : Typed-F (TypedNode × TypedNode) (Typed × Typed) (TypedWhen × TypedWhen) → Typed
  tree_step x = roll-Typed (record { ty = x.ty; node = new x.node })

  abbrev pub when_step : TypedWhen-F (TypedNode × TypedNode) (Typed × Typed) (TypedWhen × TypedWhen) → TypedWhen
  when_step w = roll-TypedWhen (record { cond = new w.cond; result = new w.result })

  -- a tree over the rows after a grouping, whose columns have these forms: each largest part that is one of these forms
  -- becomes the first such column, and all types stay
  unfoldable pub after : Typed → Typed
  after = para-Typed TypedNode Typed TypedWhen node_step tree_step when_step

  unfoldable pub node_after : TypedNode → TypedNode
  node_after = para-TypedNode TypedNode Typed TypedWhen node_step tree_step when_step

  unfoldable pub when_after : TypedWhen → TypedWhen
  when_after = para-TypedWhen TypedNode Typed TypedWhen node_step tree_step when_step
