-- An expression without the row's time is worth the same at any two times: by induction, form by form.
use Rattle.std.proofs.Common.{◌≡◌, ◌∙◌, ap, ap₂, sym, subst, refl, ℕ, Bool, true, false, List, [], ◌∷◌, map, Option, Some, None}
use Rattle.std.specs.Prelude.{◌||◌, not, ◌&&◌}
use Rattle.std.specs.List.{list_any}
use Rattle.std.specs.Ordering.{is_eq, is_ge, is_le}
use Rattle.ksql_types.specs.Key.{is_null}
use Rattle.ksql_types.specs.declared.value.SqlType.{SqlType}
use Rattle.ksql_types.specs.declared.value.Value.{Value}
use Rattle.ksql_types.specs.declared.value.Value.TheVariants as value
use Rattle.ksql_expr.specs.declared.typed.Typed.{Typed, fold-Typed, roll-Typed, fold-roll-Typed, ind-Typed}
use Rattle.ksql_expr.specs.declared.typed.TypedWhen.{TypedWhen, fold-TypedWhen, roll-TypedWhen, fold-roll-TypedWhen}
use Rattle.ksql_expr.specs.declared.typed.TypedNode.{TypedNode, fold-TypedNode, roll-TypedNode, map-TypedNode, fold-roll-TypedNode}
use Rattle.ksql_expr.specs.declared.typed.TypedNode.TheOpen.{TypedNode-F}
use Rattle.ksql_expr.specs.Aggregates.{node_holds, is_row_time, holds_row_time, IsTimeless}
use Rattle.ksql_expr.specs.Value.{value_of, node_value, signed, applied, is_true_value, with_not, compare_so, is_value_like, cast, fun_value, chosen, widened}

neither : (x y : Bool) → (x || y) ≡ false → (x ≡ false) × (y ≡ false)
neither true y h = cc
neither false y h = (refl, h)

-- whether a part holds the row's time
abbrev node_holds_time : TypedNode → Bool
node_holds_time = fold-TypedNode Bool Bool Bool (node_holds is_row_time) (λ e. e.node) (λ w. w.cond || w.result)

abbrev typed_holds_time : Typed → Bool
typed_holds_time = fold-Typed Bool Bool Bool (node_holds is_row_time) (λ e. e.node) (λ w. w.cond || w.result)

abbrev when_holds_time : TypedWhen → Bool
when_holds_time = fold-TypedWhen Bool Bool Bool (node_holds is_row_time) (λ e. e.node) (λ w. w.cond || w.result)

module _ (row : List Value) (a b : ℕ) where
  -- what a part is worth at a time
  abbrev of_node : ℕ → TypedNode → Option SqlType → Value
  of_node time = fold-TypedNode (Option SqlType → Value) Value (Value × Value) (node_value row time) (λ e. e.node e.ty) (λ w. (w.cond, w.result))

  abbrev of_typed : ℕ → Typed → Value
  of_typed time = fold-Typed (Option SqlType → Value) Value (Value × Value) (node_value row time) (λ e. e.node e.ty) (λ w. (w.cond, w.result))

  abbrev of_when : ℕ → TypedWhen → Value × Value
  of_when time = fold-TypedWhen (Option SqlType → Value) Value (Value × Value) (node_value row time) (λ e. e.node e.ty) (λ w. (w.cond, w.result))

  -- a part without the row's time is worth the same
  abbrev SameNode : TypedNode → Type 0
  SameNode n = (t : Option SqlType) → node_holds_time n ≡ false → of_node a n t ≡ of_node b n t

  abbrev SameTyped : Typed → Type 0
  SameTyped e = typed_holds_time e ≡ false → of_typed a e ≡ of_typed b e

  abbrev SameWhen : TypedWhen → Type 0
  SameWhen w = when_holds_time w ≡ false → of_when a w ≡ of_when b w

  abbrev NodePart : Type 0
  NodePart = (n : TypedNode) × SameNode n

  abbrev TypedPart : Type 0
  TypedPart = (e : Typed) × SameTyped e

  abbrev WhenPart : Type 0
  WhenPart = (w : TypedWhen) × SameWhen w

  each : (es : List TypedPart) → list_any (λ c. c) (map typed_holds_time (map (λ e. e.0) es)) ≡ false
      → map (of_typed a) (map (λ e. e.0) es) ≡ map (of_typed b) (map (λ e. e.0) es)
  each [] h = refl
  each (e ∷ es) h =
      let k = neither (typed_holds_time e.0) (list_any (λ c. c) (map typed_holds_time (map (λ (x : TypedPart). x.0) es))) h in
      ap₂ (λ v vs. v ∷ vs) (e.1 k.0) (each es k.1)

  each_when : (ws : List WhenPart) → list_any (λ c. c) (map when_holds_time (map (λ w. w.0) ws)) ≡ false
      → map (of_when a) (map (λ w. w.0) ws) ≡ map (of_when b) (map (λ w. w.0) ws)
  each_when [] h = refl
  each_when (w ∷ ws) h =
      let k = neither (when_holds_time w.0) (list_any (λ c. c) (map when_holds_time (map (λ (x : WhenPart). x.0) ws))) h in
      ap₂ (λ v vs. v ∷ vs) (w.1 k.0) (each_when ws k.1)

  abbrev opened : TypedNode-F NodePart TypedPart WhenPart → TypedNode-F TypedNode Typed TypedWhen
  opened y = map-TypedNode NodePart TypedPart WhenPart TypedNode Typed TypedWhen (λ n. n.0) (λ e. e.0) (λ w. w.0) y

  form : (y : TypedNode-F NodePart TypedPart WhenPart) (t : Option SqlType)
      → node_holds is_row_time (map-TypedNode TypedNode Typed TypedWhen Bool Bool Bool node_holds_time typed_holds_time when_holds_time (opened y)) ≡ false
      → node_value row a (map-TypedNode TypedNode Typed TypedWhen (Option SqlType → Value) Value (Value × Value) (of_node a) (of_typed a) (of_when a) (opened y)) t
      ≡ node_value row b (map-TypedNode TypedNode Typed TypedWhen (Option SqlType → Value) Value (Value × Value) (of_node b) (of_typed b) (of_when b) (opened y)) t
  form (TypedNode-F.Literal x) t h = refl
  form (TypedNode-F.Column i) t h = refl
  form TypedNode-F.RowTime t h = cc
  form (TypedNode-F.Sign minus x) t h = ap (signed t minus) (x.1 h)
  form (TypedNode-F.Binary o x y) t h =
      let k = neither (typed_holds_time x.0) (typed_holds_time y.0) h in
      ap₂ (applied t o) (x.1 k.0) (y.1 k.1)
  form (TypedNode-F.Not x) t h = ap (λ v. value.Bool (not (is_true_value v))) (x.1 h)
  form (TypedNode-F.IsNull negated x) t h = ap (λ v. with_not negated (is_null v)) (x.1 h)
  form (TypedNode-F.Between negated x low high) t h =
      let k = neither (typed_holds_time x.0 || typed_holds_time low.0) (typed_holds_time high.0) h in
      let l = neither (typed_holds_time x.0) (typed_holds_time low.0) k.0 in
      ap₂ (λ (p : Value × Value) z. with_not negated (compare_so is_ge p.0 p.1 && compare_so is_le p.0 z))
      (ap₂ (λ u v. (u, v)) (x.1 l.0) (low.1 l.1)) (high.1 k.1)
  form (TypedNode-F.OneOf negated x choices) t h =
      let k = neither (typed_holds_time x.0) (list_any (λ c. c) (map typed_holds_time (map (λ (e : TypedPart). e.0) choices))) h in
      ap₂ (λ v vs. with_not negated (list_any (compare_so is_eq v) vs)) (x.1 k.0) (each choices k.1)
  form (TypedNode-F.Like negated x pattern) t h = ap (λ v. with_not negated (is_value_like pattern v)) (x.1 h)
  form (TypedNode-F.Cast x to) t h = ap (cast to) (x.1 h)
  form (TypedNode-F.Case None ws None) t h =
      let k = neither (list_any (λ c. c) (map when_holds_time (map (λ (w : WhenPart). w.0) ws))) false h in
      ap (λ vs. widened t (chosen None vs None)) (each_when ws k.0)
  form (TypedNode-F.Case None ws (Some z)) t h =
      let k = neither (list_any (λ c. c) (map when_holds_time (map (λ (w : WhenPart). w.0) ws))) (typed_holds_time z.0) h in
      ap₂ (λ vs v. widened t (chosen None vs (Some v))) (each_when ws k.0) (z.1 k.1)
  form (TypedNode-F.Case (Some x) ws None) t h =
      let k = neither (typed_holds_time x.0 || list_any (λ c. c) (map when_holds_time (map (λ (w : WhenPart). w.0) ws))) false h in
      let l = neither (typed_holds_time x.0) (list_any (λ c. c) (map when_holds_time (map (λ (w : WhenPart). w.0) ws))) k.0 in
      ap₂ (λ u vs. widened t (chosen (Some u) vs None)) (x.1 l.0) (each_when ws l.1)
  form (TypedNode-F.Case (Some x) ws (Some z)) t h =
      let k = neither (typed_holds_time x.0 || list_any (λ c. c) (map when_holds_time (map (λ (w : WhenPart). w.0) ws))) (typed_holds_time z.0) h in
      let l = neither (typed_holds_time x.0) (list_any (λ c. c) (map when_holds_time (map (λ (w : WhenPart). w.0) ws))) k.0 in
      ap₂ (λ (p : Value × List (Value × Value)) v. widened t (chosen (Some p.0) p.1 (Some v)))
      (ap₂ (λ u vs. (u, vs)) (x.1 l.0) (each_when ws l.1)) (z.1 k.1)
  form (TypedNode-F.Call fun args) t h = ap (fun_value t fun) (each args h)
  form (TypedNode-F.Aggregate fun arg) t h = refl

  node : (y : TypedNode-F NodePart TypedPart WhenPart) → SameNode (roll-TypedNode (opened y))
  node y t h =
      ap (λ made. made t) (fold-roll-TypedNode (Option SqlType → Value) Value (Value × Value) (node_value row a) (λ e. e.node e.ty) (λ w. (w.cond, w.result)) (opened y))
      ∙ form y t (sym (fold-roll-TypedNode Bool Bool Bool (node_holds is_row_time) (λ e. e.node) (λ w. w.cond || w.result) (opened y)) ∙ h)
      ∙ sym (ap (λ made. made t) (fold-roll-TypedNode (Option SqlType → Value) Value (Value × Value) (node_value row b) (λ e. e.node e.ty) (λ w. (w.cond, w.result)) (opened y)))

  typed : (t : Option SqlType) (n : TypedNode) → SameNode n → SameTyped (roll-Typed (record { ty = t; node = n }))
  typed t n same h =
      fold-roll-Typed (Option SqlType → Value) Value (Value × Value) (node_value row a) (λ e. e.node e.ty) (λ w. (w.cond, w.result)) (record { ty = t; node = n })
      ∙ same t (sym (fold-roll-Typed Bool Bool Bool (node_holds is_row_time) (λ e. e.node) (λ w. w.cond || w.result) (record { ty = t; node = n })) ∙ h)
      ∙ sym (fold-roll-Typed (Option SqlType → Value) Value (Value × Value) (node_value row b) (λ e. e.node e.ty) (λ w. (w.cond, w.result)) (record { ty = t; node = n }))

  when : (c r : Typed) → SameTyped c → SameTyped r → SameWhen (roll-TypedWhen (record { cond = c; result = r }))
  when c r first second h =
      let k = neither (typed_holds_time c) (typed_holds_time r)
      (sym (fold-roll-TypedWhen Bool Bool Bool (node_holds is_row_time) (λ e. e.node) (λ w. w.cond || w.result) (record { cond = c; result = r })) ∙ h) in
      fold-roll-TypedWhen (Option SqlType → Value) Value (Value × Value) (node_value row a) (λ e. e.node e.ty) (λ w. (w.cond, w.result)) (record { cond = c; result = r })
      ∙ ap₂ (λ u v. (u, v)) (first k.0) (second k.1)
      ∙ sym (fold-roll-TypedWhen (Option SqlType → Value) Value (Value × Value) (node_value row b) (λ e. e.node e.ty) (λ w. (w.cond, w.result)) (record { cond = c; result = r }))

  whole : (e : Typed) → SameTyped e
  whole = ind-Typed SameNode SameTyped SameWhen
      (λ x y is. subst (λ z. SameNode (roll-TypedNode z)) is (node y))
      (λ x y is. subst (λ z. SameTyped (roll-Typed z)) is (typed y.ty y.node.0 y.node.1))
      (λ x y is. subst (λ z. SameWhen (roll-TypedWhen z)) is (when y.cond.0 y.result.0 y.cond.1 y.result.1))

pub timeless_value : (e : Typed) (row : List Value) (a b : ℕ) → IsTimeless e → value_of row a e ≡ value_of row b e
unfolding value_of holds_row_time
timeless_value e row a b h = whole row a b e h
