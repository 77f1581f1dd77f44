-- What a tree becomes after a grouping, form by form.
use Rattle.std.proofs.Common.{◌≡◌, ℕ, List, [], ◌∷◌, map, Bool, Option, Some, None, Result, IfOk, refl, subst, ap, sym, ◌∙◌}
use Rattle.std.specs.Prelude.{option_map}
use Rattle.ksql_types.specs.declared.operator.BinaryOp.{BinaryOp}
use Rattle.ksql_types.specs.declared.value.SqlType.{SqlType}
use Rattle.ksql_types.specs.declared.value.Value.{Value}
use Rattle.ksql_expr.specs.declared.typed.AggFun.{AggFun}
use Rattle.ksql_expr.specs.declared.typed.Fun.{Fun}
use Rattle.ksql_expr.specs.declared.typed.Typed.{Typed, para-roll-Typed}
use Rattle.ksql_expr.specs.declared.typed.TypedNode.{TypedNode, map-TypedNode, out-TypedNode, para-roll-TypedNode, roll-TypedNode, roll-out-TypedNode}
use Rattle.ksql_expr.specs.declared.typed.TypedNode.TheVariants as n
use Rattle.ksql_expr.specs.declared.typed.TypedNode.TheOpen.{TypedNode-F}
use Rattle.ksql_expr.specs.declared.typed.TypedWhen.{TypedWhen, para-roll-TypedWhen, roll-TypedWhen}
use Rattle.ksql_expr.specs.Typing.{of}
use Rattle.grouped_expressions.specs.Grouped.{after, node_after, when_after, node_step, tree_step, when_step, place_among, placed_or, column_or, old, new}

-- what equal parts give
pub moved : {A E : Type 0} (r : Result A E) (a b : A) → b ≡ a → IfOk r (λ x. x ≡ a) → IfOk r (λ x. x ≡ b)
moved r a b h = subst (λ z. IfOk r (λ x. x ≡ z)) (sym h)

module _ (columns : List TypedNode) where
  -- a form whose parts are paired with their rewritten ones
  abbrev beside : TypedNode-F TypedNode Typed TypedWhen → TypedNode-F (TypedNode × TypedNode) (Typed × Typed) (TypedWhen × TypedWhen)
  beside d =
      map-TypedNode TypedNode Typed TypedWhen (TypedNode × TypedNode) (Typed × Typed) (TypedWhen × TypedWhen)
      (λ y. (y, node_after columns y)) (λ y. (y, after columns y)) (λ y. (y, when_after columns y)) d

  -- ---- trees

  pub after-tree : (x : Typed) → after columns x ≡ of x.ty (node_after columns x.node)
  unfolding after node_after
  after-tree x = para-roll-Typed TypedNode Typed TypedWhen (node_step columns) (tree_step columns) (when_step columns) (record { ty = x.ty; node = x.node })

  pub after-when : (w : TypedWhen) → when_after columns w ≡ roll-TypedWhen (record { cond = after columns w.cond; result = after columns w.result })
  unfolding after when_after
  after-when w = para-roll-TypedWhen TypedNode Typed TypedWhen (node_step columns) (tree_step columns) (when_step columns) (record { cond = w.cond; result = w.result })

  -- ---- forms

  at-roll : (d : TypedNode-F TypedNode Typed TypedWhen) → node_after columns (roll-TypedNode d) ≡ node_step columns (beside d)
  unfolding after node_after when_after
  at-roll d = para-roll-TypedNode TypedNode Typed TypedWhen (node_step columns) (tree_step columns) (when_step columns) d

  -- a form with a list of parts
  listed : {A : Type 0} (f : A → A) (g h : List A → TypedNode) (xs : List A)
      → placed_or columns (g (map old (map (λ y. (y, f y)) xs))) (h (map new (map (λ y. (y, f y)) xs))) ≡ placed_or columns (g xs) (h (map f xs))
  listed f g h [] = refl
  listed f g h (x ∷ xs) = listed f (λ ys. g (x ∷ ys)) (λ ys. h (f x ∷ ys)) xs

  at-Case : (x : Option Typed) (ws : List TypedWhen) (z : Option Typed)
      → node_step columns (beside (TypedNode-F.Case x ws z))
      ≡ placed_or columns (n.Case x ws z) (n.Case (option_map (after columns) x) (map (when_after columns) ws) (option_map (after columns) z))
  at-Case None ws None = listed (when_after columns) (λ ys. n.Case None ys None) (λ ys. n.Case None ys None) ws
  at-Case None ws (Some z) = listed (when_after columns) (λ ys. n.Case None ys (Some z)) (λ ys. n.Case None ys (Some (after columns z))) ws
  at-Case (Some x) ws None = listed (when_after columns) (λ ys. n.Case (Some x) ys None) (λ ys. n.Case (Some (after columns x)) ys None) ws
  at-Case (Some x) ws (Some z) =
      listed (when_after columns) (λ ys. n.Case (Some x) ys (Some z)) (λ ys. n.Case (Some (after columns x)) ys (Some (after columns z))) ws

  -- a form, its rewritten form if it is no column, and that its step says so
  abbrev stepped : (d : TypedNode-F TypedNode Typed TypedWhen)
      → (form : TypedNode) × (rebuilt : TypedNode) × (roll-TypedNode d ≡ form) × (node_step columns (beside d) ≡ placed_or columns form rebuilt)
  stepped (TypedNode-F.Literal x) = (n.Literal x, n.Literal x, n.rolls-Literal x, refl)
  stepped (TypedNode-F.Column i) = (n.Column i, n.Column i, n.rolls-Column i, refl)
  stepped TypedNode-F.RowTime = (n.RowTime, n.RowTime, n.rolls-RowTime, refl)
  stepped (TypedNode-F.Sign m x) = (n.Sign m x, n.Sign m (after columns x), n.rolls-Sign m x, refl)
  stepped (TypedNode-F.Binary o x y) = (n.Binary o x y, n.Binary o (after columns x) (after columns y), n.rolls-Binary o x y, refl)
  stepped (TypedNode-F.Not x) = (n.Not x, n.Not (after columns x), n.rolls-Not x, refl)
  stepped (TypedNode-F.IsNull m x) = (n.IsNull m x, n.IsNull m (after columns x), n.rolls-IsNull m x, refl)
  stepped (TypedNode-F.Between m x y z) =
      (n.Between m x y z, n.Between m (after columns x) (after columns y) (after columns z), n.rolls-Between m x y z, refl)
  stepped (TypedNode-F.OneOf m x xs) =
      (n.OneOf m x xs, n.OneOf m (after columns x) (map (after columns) xs), n.rolls-OneOf m x xs, listed (after columns) (n.OneOf m x) (n.OneOf m (after columns x)) xs)
  stepped (TypedNode-F.Like m x pattern) = (n.Like m x pattern, n.Like m (after columns x) pattern, n.rolls-Like m x pattern, refl)
  stepped (TypedNode-F.Cast x to) = (n.Cast x to, n.Cast (after columns x) to, n.rolls-Cast x to, refl)
  stepped (TypedNode-F.Case x ws z) =
      (n.Case x ws z, n.Case (option_map (after columns) x) (map (when_after columns) ws) (option_map (after columns) z), n.rolls-Case x ws z, at-Case x ws z)
  stepped (TypedNode-F.Call f xs) = (n.Call f xs, n.Call f (map (after columns) xs), n.rolls-Call f xs, listed (after columns) (n.Call f) (n.Call f) xs)
  stepped (TypedNode-F.Aggregate f None) = (n.Aggregate f None, n.Aggregate f None, n.rolls-Aggregate f None, refl)
  stepped (TypedNode-F.Aggregate f (Some x)) = (n.Aggregate f (Some x), n.Aggregate f (Some (after columns x)), n.rolls-Aggregate f (Some x), refl)

  placed : (form : TypedNode) (d : TypedNode-F TypedNode Typed TypedWhen) (o : Option ℕ) → form ≡ (stepped d).0 → place_among columns form ≡ o
      → node_after columns form ≡ column_or (stepped d).1 o
  placed form d o is at =
      ap (node_after columns) (is ∙ sym (stepped d).2) ∙ at-roll d ∙ (stepped d).3 ∙ ap (column_or (stepped d).1) (ap (place_among columns) (sym is) ∙ at)

  -- a form that is a column
  pub after-column : (form : TypedNode) (number : ℕ) → place_among columns form ≡ Some number → node_after columns form ≡ n.Column number
  after-column form number = placed form (out-TypedNode form) (Some number) (sym (roll-out-TypedNode form) ∙ (stepped (out-TypedNode form)).2)

  -- a form that is none of the columns
  pub after-Literal : (form : TypedNode) (x : Value) → form ≡ n.Literal x → place_among columns form ≡ None → node_after columns form ≡ n.Literal x
  after-Literal form x = placed form (TypedNode-F.Literal x) None

  pub after-Column : (form : TypedNode) (i : ℕ) → form ≡ n.Column i → place_among columns form ≡ None → node_after columns form ≡ n.Column i
  after-Column form i = placed form (TypedNode-F.Column i) None

  pub after-RowTime : (form : TypedNode) → form ≡ n.RowTime → place_among columns form ≡ None → node_after columns form ≡ n.RowTime
  after-RowTime form = placed form TypedNode-F.RowTime None

  pub after-Sign : (form : TypedNode) (m : Bool) (x : Typed) → form ≡ n.Sign m x → place_among columns form ≡ None → node_after columns form ≡ n.Sign m (after columns x)
  after-Sign form m x = placed form (TypedNode-F.Sign m x) None

  pub after-Binary : (form : TypedNode) (o : BinaryOp) (x y : Typed) → form ≡ n.Binary o x y → place_among columns form ≡ None
      → node_after columns form ≡ n.Binary o (after columns x) (after columns y)
  after-Binary form o x y = placed form (TypedNode-F.Binary o x y) None

  pub after-Not : (form : TypedNode) (x : Typed) → form ≡ n.Not x → place_among columns form ≡ None → node_after columns form ≡ n.Not (after columns x)
  after-Not form x = placed form (TypedNode-F.Not x) None

  pub after-IsNull : (form : TypedNode) (m : Bool) (x : Typed) → form ≡ n.IsNull m x → place_among columns form ≡ None
      → node_after columns form ≡ n.IsNull m (after columns x)
  after-IsNull form m x = placed form (TypedNode-F.IsNull m x) None

  pub after-Between : (form : TypedNode) (m : Bool) (x y z : Typed) → form ≡ n.Between m x y z → place_among columns form ≡ None
      → node_after columns form ≡ n.Between m (after columns x) (after columns y) (after columns z)
  after-Between form m x y z = placed form (TypedNode-F.Between m x y z) None

  pub after-OneOf : (form : TypedNode) (m : Bool) (x : Typed) (xs : List Typed) → form ≡ n.OneOf m x xs → place_among columns form ≡ None
      → node_after columns form ≡ n.OneOf m (after columns x) (map (after columns) xs)
  after-OneOf form m x xs = placed form (TypedNode-F.OneOf m x xs) None

  pub after-Like : (form : TypedNode) (m : Bool) (x : Typed) (pattern : List ℕ) → form ≡ n.Like m x pattern → place_among columns form ≡ None
      → node_after columns form ≡ n.Like m (after columns x) pattern
  after-Like form m x pattern = placed form (TypedNode-F.Like m x pattern) None

  pub after-Cast : (form : TypedNode) (x : Typed) (to : SqlType) → form ≡ n.Cast x to → place_among columns form ≡ None
      → node_after columns form ≡ n.Cast (after columns x) to
  after-Cast form x to = placed form (TypedNode-F.Cast x to) None

  pub after-Case : (form : TypedNode) (x : Option Typed) (ws : List TypedWhen) (z : Option Typed) → form ≡ n.Case x ws z → place_among columns form ≡ None
      → node_after columns form ≡ n.Case (option_map (after columns) x) (map (when_after columns) ws) (option_map (after columns) z)
  after-Case form x ws z = placed form (TypedNode-F.Case x ws z) None

  pub after-Call : (form : TypedNode) (f : Fun) (xs : List Typed) → form ≡ n.Call f xs → place_among columns form ≡ None
      → node_after columns form ≡ n.Call f (map (after columns) xs)
  after-Call form f xs = placed form (TypedNode-F.Call f xs) None

  pub after-Aggregate : (form : TypedNode) (f : AggFun) (x : Option Typed) → form ≡ n.Aggregate f x → place_among columns form ≡ None
      → node_after columns form ≡ n.Aggregate f (option_map (after columns) x)
  after-Aggregate form f None = placed form (TypedNode-F.Aggregate f None) None
  after-Aggregate form f (Some x) = placed form (TypedNode-F.Aggregate f (Some x)) None

pub ruleset after_forms = (after-tree, after-when, after-column, after-Literal, after-Column, after-RowTime, after-Sign, after-Binary, after-Not, after-IsNull, after-Between, after-OneOf, after-Like, after-Cast, after-Case, after-Call, after-Aggregate)
