-- The value of an expression, form by form.
use Rattle.std.proofs.Common.{◌≡◌, ◌∙◌, ap, ap₂, sym, refl, ℕ, Bool, List, [], ◌∷◌, Option, Some, None, ◌<◌, ◌^◌, ◌%◌, arith}
use Rattle.std.specs.Prelude.{pos, map, not, ◌&&◌, option_map}
use Rattle.std.specs.List.{list_any}
use Rattle.std.specs.Int.{w64, cast_signed, int_wrap}
use Rattle.std.specs.Ordering.{is_eq, is_ge, is_le}
use Rattle.ksql_types.specs.Key.{is_null}
use Rattle.ksql_types.specs.declared.operator.BinaryOp.{BinaryOp}
use Rattle.ksql_types.specs.declared.value.SqlType.{SqlType}
use Rattle.ksql_types.specs.declared.value.Value.{Value}
use Rattle.ksql_types.specs.declared.value.Value.TheVariants.{Null, Big}
use Rattle.ksql_types.specs.declared.value.Value.TheVariants as value
use Rattle.ksql_expr.specs.declared.typed.Fun.{Fun}
use Rattle.ksql_expr.specs.declared.typed.Fun.TheVariants.{Abs, Len, Concat, Substring, Trim, Ucase, Lcase, Coalesce, IfNull, NullIf}
use Rattle.ksql_expr.specs.declared.typed.AggFun.{AggFun}
use Rattle.ksql_expr.specs.declared.typed.Typed.{Typed, fold-Typed, fold-roll-Typed}
use Rattle.ksql_expr.specs.declared.typed.TypedWhen.{TypedWhen, fold-TypedWhen, fold-roll-TypedWhen}
use Rattle.ksql_expr.specs.declared.typed.TypedNode.{TypedNode, fold-TypedNode, fold-roll-TypedNode, map-TypedNode, roll-TypedNode}
use Rattle.ksql_expr.specs.declared.typed.TypedNode.TheVariants as n
use Rattle.ksql_expr.specs.declared.typed.TypedNode.TheOpen.{TypedNode-F}
use Rattle.ksql_eval.specs.Operand.{whens_of}
use Rattle.ksql_expr.specs.Value.{value_of, node_value, cell, signed, applied, is_true_value, with_not, compare_so, is_value_like, cast, fun_value, of_few, chosen, widened}

abbrev of_node : List Value → ℕ → TypedNode → Option SqlType → Value
of_node row time = fold-TypedNode (Option SqlType → Value) Value (Value × Value) (node_value row time) (λ e. e.node e.ty) (λ w. (w.cond, w.result))

abbrev of_typed : List Value → ℕ → Typed → Value
of_typed row time = fold-Typed (Option SqlType → Value) Value (Value × Value) (node_value row time) (λ e. e.node e.ty) (λ w. (w.cond, w.result))

abbrev of_when : List Value → ℕ → TypedWhen → Value × Value
of_when row time = fold-TypedWhen (Option SqlType → Value) Value (Value × Value) (node_value row time) (λ e. e.node e.ty) (λ w. (w.cond, w.result))

-- a form with the values of its parts
abbrev valued : List Value → ℕ → TypedNode-F TypedNode Typed TypedWhen → TypedNode-F (Option SqlType → Value) Value (Value × Value)
valued row time = map-TypedNode TypedNode Typed TypedWhen (Option SqlType → Value) Value (Value × Value) (of_node row time) (of_typed row time) (of_when row time)

of_form : (row : List Value) (time : ℕ) (typed : Typed) (form : TypedNode-F TypedNode Typed TypedWhen) (node : TypedNode)
    → roll-TypedNode form ≡ node → typed.node ≡ node → node_value row time (valued row time form) typed.ty ≡ value_of row time typed
unfolding value_of
of_form row time typed form node rolls is =
    let whole = fold-roll-Typed (Option SqlType → Value) Value (Value × Value) (node_value row time) (λ e. e.node e.ty) (λ w. (w.cond, w.result)) (record { ty = typed.ty; node = typed.node }) in
    let folds = fold-roll-TypedNode (Option SqlType → Value) Value (Value × Value) (node_value row time) (λ e. e.node e.ty) (λ w. (w.cond, w.result)) form in
    sym (whole ∙ ap (λ v. of_node row time v typed.ty) (is ∙ sym rolls) ∙ ap (λ made. made typed.ty) folds)

module _ (row : List Value) (time : ℕ) (typed : Typed) where
  pub value_of-Literal : (x : Value) → typed.node ≡ n.Literal x → x ≡ value_of row time typed
  unfolding value_of
  value_of-Literal x = of_form row time typed (TypedNode-F.Literal x) (n.Literal x) (n.rolls-Literal x)

  pub value_of-Column : (column : ℕ) → typed.node ≡ n.Column column → cell row column ≡ value_of row time typed
  unfolding value_of
  value_of-Column column = of_form row time typed (TypedNode-F.Column column) (n.Column column) (n.rolls-Column column)

  pub value_of-RowTime : typed.node ≡ n.RowTime → Big (int_wrap w64 (pos time)) ≡ value_of row time typed
  unfolding value_of
  value_of-RowTime = of_form row time typed TypedNode-F.RowTime n.RowTime n.rolls-RowTime

  pub value_of-Sign : (minus : Bool) (arg : Typed) → typed.node ≡ n.Sign minus arg → signed typed.ty minus (value_of row time arg) ≡ value_of row time typed
  unfolding value_of
  value_of-Sign minus arg = of_form row time typed (TypedNode-F.Sign minus arg) (n.Sign minus arg) (n.rolls-Sign minus arg)

  pub value_of-Binary : (o : BinaryOp) (left : Typed) (right : Typed) → typed.node ≡ n.Binary o left right → applied typed.ty o (value_of row time left) (value_of row time right) ≡ value_of row time typed
  unfolding value_of
  value_of-Binary o left right = of_form row time typed (TypedNode-F.Binary o left right) (n.Binary o left right) (n.rolls-Binary o left right)

  pub value_of-Not : (arg : Typed) → typed.node ≡ n.Not arg → value.Bool (not (is_true_value (value_of row time arg))) ≡ value_of row time typed
  unfolding value_of
  value_of-Not arg = of_form row time typed (TypedNode-F.Not arg) (n.Not arg) (n.rolls-Not arg)

  pub value_of-IsNull : (negated : Bool) (arg : Typed) → typed.node ≡ n.IsNull negated arg → with_not negated (is_null (value_of row time arg)) ≡ value_of row time typed
  unfolding value_of
  value_of-IsNull negated arg = of_form row time typed (TypedNode-F.IsNull negated arg) (n.IsNull negated arg) (n.rolls-IsNull negated arg)

  pub value_of-Between : (negated : Bool) (arg : Typed) (low : Typed) (high : Typed) → typed.node ≡ n.Between negated arg low high → with_not negated (compare_so is_ge (value_of row time arg) (value_of row time low) && compare_so is_le (value_of row time arg) (value_of row time high)) ≡ value_of row time typed
  unfolding value_of
  value_of-Between negated arg low high = of_form row time typed (TypedNode-F.Between negated arg low high) (n.Between negated arg low high) (n.rolls-Between negated arg low high)

  pub value_of-OneOf : (negated : Bool) (arg : Typed) (choices : List Typed) → typed.node ≡ n.OneOf negated arg choices → with_not negated (list_any (compare_so is_eq (value_of row time arg)) (map (value_of row time) choices)) ≡ value_of row time typed
  unfolding value_of
  value_of-OneOf negated arg choices = of_form row time typed (TypedNode-F.OneOf negated arg choices) (n.OneOf negated arg choices) (n.rolls-OneOf negated arg choices)

  pub value_of-Like : (negated : Bool) (arg : Typed) (pattern : List ℕ) → typed.node ≡ n.Like negated arg pattern → with_not negated (is_value_like pattern (value_of row time arg)) ≡ value_of row time typed
  unfolding value_of
  value_of-Like negated arg pattern = of_form row time typed (TypedNode-F.Like negated arg pattern) (n.Like negated arg pattern) (n.rolls-Like negated arg pattern)

  pub value_of-Cast : (arg : Typed) (to : SqlType) → typed.node ≡ n.Cast arg to → cast to (value_of row time arg) ≡ value_of row time typed
  unfolding value_of
  value_of-Cast arg to = of_form row time typed (TypedNode-F.Cast arg to) (n.Cast arg to) (n.rolls-Cast arg to)

  pub value_of-Call : (fun : Fun) (args : List Typed) → typed.node ≡ n.Call fun args → fun_value typed.ty fun (map (value_of row time) args) ≡ value_of row time typed
  unfolding value_of
  value_of-Call fun args = of_form row time typed (TypedNode-F.Call fun args) (n.Call fun args) (n.rolls-Call fun args)

  pub value_of-Aggregate : (fun : AggFun) (arg : Option Typed) → typed.node ≡ n.Aggregate fun arg → Null ≡ value_of row time typed
  unfolding value_of
  value_of-Aggregate fun arg = of_form row time typed (TypedNode-F.Aggregate fun arg) (n.Aggregate fun arg) (n.rolls-Aggregate fun arg)

when_value : (row : List Value) (time : ℕ) (w : TypedWhen) → of_when row time w ≡ (value_of row time w.cond, value_of row time w.result)
unfolding value_of
when_value row time w = fold-roll-TypedWhen (Option SqlType → Value) Value (Value × Value) (node_value row time) (λ e. e.node e.ty) (λ x. (x.cond, x.result)) (record { cond = w.cond; result = w.result })

when_values : (row : List Value) (time : ℕ) (ws : List TypedWhen) → whens_of row time ws ≡ map (of_when row time) ws
when_values row time [] = refl
when_values row time (w ∷ ws) = ap₂ (λ v vs. v ∷ vs) (sym (when_value row time w)) (when_values row time ws)

module _ (row : List Value) (time : ℕ) (typed : Typed) where
  pub value_of-Case : (arg : Option Typed) (ws : List TypedWhen) (otherwise : Option Typed) → typed.node ≡ n.Case arg ws otherwise
      → widened typed.ty (chosen (option_map (value_of row time) arg) (whens_of row time ws) (option_map (value_of row time) otherwise)) ≡ value_of row time typed
  unfolding value_of
  value_of-Case None ws None is = ap (λ vs. widened typed.ty (chosen None vs None)) (when_values row time ws) ∙ of_form row time typed (TypedNode-F.Case None ws None) (n.Case None ws None) (n.rolls-Case None ws None) is
  value_of-Case None ws (Some o) is = ap (λ vs. widened typed.ty (chosen None vs (Some (value_of row time o)))) (when_values row time ws) ∙ of_form row time typed (TypedNode-F.Case None ws (Some o)) (n.Case None ws (Some o)) (n.rolls-Case None ws (Some o)) is
  value_of-Case (Some a) ws None is = ap (λ vs. widened typed.ty (chosen (Some (value_of row time a)) vs None)) (when_values row time ws) ∙ of_form row time typed (TypedNode-F.Case (Some a) ws None) (n.Case (Some a) ws None) (n.rolls-Case (Some a) ws None) is
  value_of-Case (Some a) ws (Some o) is = ap (λ vs. widened typed.ty (chosen (Some (value_of row time a)) vs (Some (value_of row time o)))) (when_values row time ws) ∙ of_form row time typed (TypedNode-F.Case (Some a) ws (Some o)) (n.Case (Some a) ws (Some o)) (n.rolls-Case (Some a) ws (Some o)) is

pub few_is_fun : (t : Option SqlType) (f : Fun) (xs : List Value) → (f ≡ Concat → ⊥) → (f ≡ Coalesce → ⊥) → (f ≡ IfNull → ⊥) → of_few t f xs ≡ fun_value t f xs
few_is_fun t Abs xs a b c = refl
few_is_fun t Len xs a b c = refl
few_is_fun t Concat xs a b c = absurd (a refl)
few_is_fun t Substring xs a b c = refl
few_is_fun t Trim xs a b c = refl
few_is_fun t Ucase xs a b c = refl
few_is_fun t Lcase xs a b c = refl
few_is_fun t Coalesce xs a b c = absurd (b refl)
few_is_fun t IfNull xs a b c = absurd (c refl)
few_is_fun t NullIf xs a b c = refl

-- a time is below 2 ^ 64
pub time_as_number : (time : ℕ) → time < 2 ^ 64 → cast_signed w64 time ≡ int_wrap w64 (pos time)
unfolding int_wrap
time_as_number time below = let same : time % 2 ^ 64 ≡ time = omega arith in ap (cast_signed w64) (sym same)
