-- Whether a test holds of one of the forms in a typed tree, form by form.
use Rattle.std.proofs.Common.{◌≡◌, ℕ, Bool, ◌||◌, List, map, Option, Some, None, ap, sym, ◌∙◌}
use Rattle.std.specs.Prelude.{option_map}
use Rattle.std.specs.List.{list_any}
use Rattle.ksql_types.specs.declared.operator.BinaryOp.{BinaryOp}
use Rattle.ksql_types.specs.declared.value.SqlType.{SqlType}
use Rattle.ksql_types.specs.declared.value.Value.{Value}
use Rattle.ksql_expr.specs.declared.typed.AggFun.{AggFun}
use Rattle.ksql_expr.specs.declared.typed.Fun.{Fun}
use Rattle.ksql_expr.specs.declared.typed.Typed.{Typed, fold-roll-Typed}
use Rattle.ksql_expr.specs.declared.typed.TypedWhen.{TypedWhen, fold-TypedWhen, fold-roll-TypedWhen}
use Rattle.ksql_expr.specs.declared.typed.TypedNode.{TypedNode, fold-TypedNode, fold-roll-TypedNode}
use Rattle.ksql_expr.specs.declared.typed.TypedNode.TheVariants as n
use Rattle.ksql_expr.specs.declared.typed.TypedNode.TheOpen.{TypedNode-F}
use Rattle.ksql_expr.specs.Aggregates.{holds, node_holds, perhaps}
use Rattle.ksql_expr.specs.Typing.{of}

module _ (leaf : TypedNode-F Bool Bool Bool → Bool) where
  abbrev of_node : TypedNode → Bool
  of_node = fold-TypedNode Bool Bool Bool (node_holds leaf) (λ e. e.node) (λ w. w.cond || w.result)

  abbrev pub when_holds : TypedWhen → Bool
  when_holds = fold-TypedWhen Bool Bool Bool (node_holds leaf) (λ e. e.node) (λ w. w.cond || w.result)

  -- the forms in each of some trees, and in an optional one
  abbrev pub each_holds : List Typed → Bool
  each_holds xs = list_any (λ c. c) (map (holds leaf) xs)

  abbrev pub whens_hold : List TypedWhen → Bool
  whens_hold ws = list_any (λ c. c) (map when_holds ws)

  abbrev pub part_holds : Option Typed → Bool
  part_holds x = perhaps (option_map (holds leaf) x)

  at_node : (t : Option SqlType) (form : TypedNode) → holds leaf (of t form) ≡ of_node form
  at_node t form = fold-roll-Typed Bool Bool Bool (node_holds leaf) (λ e. e.node) (λ w. w.cond || w.result) (record { ty = t; node = form })

  pub holds-when : (w : TypedWhen) → when_holds w ≡ (holds leaf w.cond || holds leaf w.result)
  holds-when w = fold-roll-TypedWhen Bool Bool Bool (node_holds leaf) (λ e. e.node) (λ w. w.cond || w.result) (record { cond = w.cond; result = w.result })

  pub holds-Literal : (t : Option SqlType) (x : Value) → holds leaf (of t (n.Literal x)) ≡ (leaf (TypedNode-F.Literal x))
  holds-Literal t x =
      at_node t (n.Literal x) ∙ ap of_node (sym (n.rolls-Literal x))
      ∙ fold-roll-TypedNode Bool Bool Bool (node_holds leaf) (λ e. e.node) (λ w. w.cond || w.result) (TypedNode-F.Literal x)

  pub holds-Column : (t : Option SqlType) (i : ℕ) → holds leaf (of t (n.Column i)) ≡ (leaf (TypedNode-F.Column i))
  holds-Column t i =
      at_node t (n.Column i) ∙ ap of_node (sym (n.rolls-Column i))
      ∙ fold-roll-TypedNode Bool Bool Bool (node_holds leaf) (λ e. e.node) (λ w. w.cond || w.result) (TypedNode-F.Column i)

  pub holds-RowTime : (t : Option SqlType) → holds leaf (of t n.RowTime) ≡ (leaf TypedNode-F.RowTime)
  holds-RowTime t =
      at_node t n.RowTime ∙ ap of_node (sym n.rolls-RowTime)
      ∙ fold-roll-TypedNode Bool Bool Bool (node_holds leaf) (λ e. e.node) (λ w. w.cond || w.result) TypedNode-F.RowTime

  pub holds-Sign : (t : Option SqlType) (m : Bool) (a : Typed) → holds leaf (of t (n.Sign m a)) ≡ (holds leaf a)
  holds-Sign t m a =
      at_node t (n.Sign m a) ∙ ap of_node (sym (n.rolls-Sign m a))
      ∙ fold-roll-TypedNode Bool Bool Bool (node_holds leaf) (λ e. e.node) (λ w. w.cond || w.result) (TypedNode-F.Sign m a)

  pub holds-Binary : (t : Option SqlType) (o : BinaryOp) (a : Typed) (b : Typed) → holds leaf (of t (n.Binary o a b)) ≡ (holds leaf a || holds leaf b)
  holds-Binary t o a b =
      at_node t (n.Binary o a b) ∙ ap of_node (sym (n.rolls-Binary o a b))
      ∙ fold-roll-TypedNode Bool Bool Bool (node_holds leaf) (λ e. e.node) (λ w. w.cond || w.result) (TypedNode-F.Binary o a b)

  pub holds-Not : (t : Option SqlType) (a : Typed) → holds leaf (of t (n.Not a)) ≡ (holds leaf a)
  holds-Not t a =
      at_node t (n.Not a) ∙ ap of_node (sym (n.rolls-Not a))
      ∙ fold-roll-TypedNode Bool Bool Bool (node_holds leaf) (λ e. e.node) (λ w. w.cond || w.result) (TypedNode-F.Not a)

  pub holds-IsNull : (t : Option SqlType) (m : Bool) (a : Typed) → holds leaf (of t (n.IsNull m a)) ≡ (holds leaf a)
  holds-IsNull t m a =
      at_node t (n.IsNull m a) ∙ ap of_node (sym (n.rolls-IsNull m a))
      ∙ fold-roll-TypedNode Bool Bool Bool (node_holds leaf) (λ e. e.node) (λ w. w.cond || w.result) (TypedNode-F.IsNull m a)

  pub holds-Between : (t : Option SqlType) (m : Bool) (a : Typed) (b : Typed) (c : Typed) → holds leaf (of t (n.Between m a b c)) ≡ (holds leaf a || holds leaf b || holds leaf c)
  holds-Between t m a b c =
      at_node t (n.Between m a b c) ∙ ap of_node (sym (n.rolls-Between m a b c))
      ∙ fold-roll-TypedNode Bool Bool Bool (node_holds leaf) (λ e. e.node) (λ w. w.cond || w.result) (TypedNode-F.Between m a b c)

  pub holds-OneOf : (t : Option SqlType) (m : Bool) (a : Typed) (xs : List Typed) → holds leaf (of t (n.OneOf m a xs)) ≡ (holds leaf a || each_holds xs)
  holds-OneOf t m a xs =
      at_node t (n.OneOf m a xs) ∙ ap of_node (sym (n.rolls-OneOf m a xs))
      ∙ fold-roll-TypedNode Bool Bool Bool (node_holds leaf) (λ e. e.node) (λ w. w.cond || w.result) (TypedNode-F.OneOf m a xs)

  pub holds-Like : (t : Option SqlType) (m : Bool) (a : Typed) (pattern : List ℕ)
      → holds leaf (of t (n.Like m a pattern)) ≡ (leaf (TypedNode-F.Like m (holds leaf a) pattern) || holds leaf a)
  holds-Like t m a pattern =
      at_node t (n.Like m a pattern) ∙ ap of_node (sym (n.rolls-Like m a pattern))
      ∙ fold-roll-TypedNode Bool Bool Bool (node_holds leaf) (λ e. e.node) (λ w. w.cond || w.result) (TypedNode-F.Like m a pattern)

  pub holds-Cast : (t : Option SqlType) (a : Typed) (to : SqlType) → holds leaf (of t (n.Cast a to)) ≡ (holds leaf a)
  holds-Cast t a to =
      at_node t (n.Cast a to) ∙ ap of_node (sym (n.rolls-Cast a to))
      ∙ fold-roll-TypedNode Bool Bool Bool (node_holds leaf) (λ e. e.node) (λ w. w.cond || w.result) (TypedNode-F.Cast a to)

  pub holds-Call : (t : Option SqlType) (f : Fun) (xs : List Typed) → holds leaf (of t (n.Call f xs)) ≡ (each_holds xs)
  holds-Call t f xs =
      at_node t (n.Call f xs) ∙ ap of_node (sym (n.rolls-Call f xs))
      ∙ fold-roll-TypedNode Bool Bool Bool (node_holds leaf) (λ e. e.node) (λ w. w.cond || w.result) (TypedNode-F.Call f xs)

  pub holds-CountAll : (t : Option SqlType) (f : AggFun) → holds leaf (of t (n.Aggregate f None)) ≡ leaf (TypedNode-F.Aggregate f None)
  holds-CountAll t f =
      at_node t (n.Aggregate f None) ∙ ap of_node (sym (n.rolls-Aggregate f None))
      ∙ fold-roll-TypedNode Bool Bool Bool (node_holds leaf) (λ e. e.node) (λ w. w.cond || w.result) (TypedNode-F.Aggregate f None)

  pub holds-Aggregate : (t : Option SqlType) (f : AggFun) (x : Typed) → holds leaf (of t (n.Aggregate f (Some x))) ≡ leaf (TypedNode-F.Aggregate f (Some (holds leaf x)))
  holds-Aggregate t f x =
      at_node t (n.Aggregate f (Some x)) ∙ ap of_node (sym (n.rolls-Aggregate f (Some x)))
      ∙ fold-roll-TypedNode Bool Bool Bool (node_holds leaf) (λ e. e.node) (λ w. w.cond || w.result) (TypedNode-F.Aggregate f (Some x))

  pub holds-Case : (t : Option SqlType) (x : Option Typed) (ws : List TypedWhen) (z : Option Typed)
      → holds leaf (of t (n.Case x ws z)) ≡ (part_holds x || whens_hold ws || part_holds z)
  holds-Case t None ws None =
      at_node t (n.Case None ws None) ∙ ap of_node (sym (n.rolls-Case None ws None))
      ∙ fold-roll-TypedNode Bool Bool Bool (node_holds leaf) (λ e. e.node) (λ w. w.cond || w.result) (TypedNode-F.Case None ws None)
  holds-Case t None ws (Some z) =
      at_node t (n.Case None ws (Some z)) ∙ ap of_node (sym (n.rolls-Case None ws (Some z)))
      ∙ fold-roll-TypedNode Bool Bool Bool (node_holds leaf) (λ e. e.node) (λ w. w.cond || w.result) (TypedNode-F.Case None ws (Some z))
  holds-Case t (Some x) ws None =
      at_node t (n.Case (Some x) ws None) ∙ ap of_node (sym (n.rolls-Case (Some x) ws None))
      ∙ fold-roll-TypedNode Bool Bool Bool (node_holds leaf) (λ e. e.node) (λ w. w.cond || w.result) (TypedNode-F.Case (Some x) ws None)
  holds-Case t (Some x) ws (Some z) =
      at_node t (n.Case (Some x) ws (Some z)) ∙ ap of_node (sym (n.rolls-Case (Some x) ws (Some z)))
      ∙ fold-roll-TypedNode Bool Bool Bool (node_holds leaf) (λ e. e.node) (λ w. w.cond || w.result) (TypedNode-F.Case (Some x) ws (Some z))
