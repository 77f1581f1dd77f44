-- The value of an expression on a row depends on the cells of its columns: by induction on its typing, form by form.
use Rattle.std.proofs.Common.{◌≡◌, ◌∙◌, ap, ap₂, refl, sym, ℕ, zero, suc, List, [], ◌∷◌, ◌++◌, length, map}
use Rattle.std.specs.Prelude.{◌&&◌, not, Option, Some, None, slice_get}
use Rattle.std.specs.List.{list_any, AllZip}
use Rattle.std.specs.Ordering.{is_eq, is_ge, is_le}
use Rattle.std.proofs.lemmas.Option.{none-some}
use Rattle.ksql_types.specs.Key.{is_null}
use Rattle.ksql_types.specs.declared.value.SqlType.{SqlType}
use Rattle.ksql_types.specs.declared.value.Value.{Value}
use Rattle.ksql_types.specs.declared.value.Value.TheVariants as value
use Rattle.ksql_expr.specs.declared.typed.Typed.{Typed}
use Rattle.ksql_expr.specs.declared.typed.TypedWhen.{TypedWhen, fold-roll-TypedWhen}
use Rattle.ksql_expr.specs.declared.typed.TypedNode.{TypedNode, roll-TypedNode}
use Rattle.ksql_expr.specs.declared.typed.TypedNode.TheVariants as n
use Rattle.ksql_expr.specs.declared.typed.TypedNode.TheOpen.{TypedNode-F}
use Rattle.ksql_expr.specs.Typing.{of, Part, one, perhaps, each, whens, HasTypes, IsTyped}
use Rattle.ksql_expr.specs.Typing as t
use Rattle.meaning_laws.proofs.TypedValues.{of_form, of_when, with_values}
use Rattle.ksql_expr.specs.Value.{value_of, node_value, applied, cast, cell, chosen, compare_so, fun_value, is_true_value, is_value_like, signed, widened, with_not}

-- ---- the values of parts

of_both : (row : List Value) (time : ℕ) (w : TypedWhen) → of_when row time w ≡ (value_of row time w.cond, value_of row time w.result)
unfolding value_of
of_both row time w =
    fold-roll-TypedWhen (Option SqlType → Value) Value (Value × Value) (node_value row time) (λ e. e.node e.ty) (λ x. (x.cond, x.result)) (record { cond = w.cond; result = w.result })

-- ---- two rows

module _ (a b : List Value) (time : ℕ) where
  -- a part is worth the same on both
  abbrev Same : Part → Type 0
  Same (one e) = value_of a time e ≡ value_of b time e
  Same (perhaps None) = Unit {0}
  Same (perhaps (Some e)) = value_of a time e ≡ value_of b time e
  Same (each es) = map (value_of a time) es ≡ map (value_of b time) es
  Same (whens ws) = map (of_when a time) ws ≡ map (of_when b time) ws

  form-same : (t : Option SqlType) (form : TypedNode-F TypedNode Typed TypedWhen) (node : TypedNode) → roll-TypedNode form ≡ node →
      node_value a time (with_values a time form) t ≡ node_value b time (with_values b time form) t → Same (one (of t node))
  form-same t form node rolls same = sym (of_form a time t form node rolls) ∙ same ∙ of_form b time t form node rolls

  case-same : (operand otherwise : Option Typed) (ws : List TypedWhen) (t : Option SqlType) → Same (perhaps operand) → Same (whens ws) → Same (perhaps otherwise) →
      Same (one (of t (n.Case operand ws otherwise)))
  unfolding value_of
  case-same None None ws t x h y = form-same t (TypedNode-F.Case None ws None) (n.Case None ws None) (n.rolls-Case None ws None) (ap (λ vs. widened t (chosen None vs None)) h)
  case-same None (Some o) ws t x h y =
      form-same t (TypedNode-F.Case None ws (Some o)) (n.Case None ws (Some o)) (n.rolls-Case None ws (Some o)) (ap₂ (λ vs v. widened t (chosen None vs (Some v))) h y)
  case-same (Some e) None ws t x h y =
      form-same t (TypedNode-F.Case (Some e) ws None) (n.Case (Some e) ws None) (n.rolls-Case (Some e) ws None) (ap₂ (λ u vs. widened t (chosen (Some u) vs None)) x h)
  case-same (Some e) (Some o) ws t x h y =
      form-same t (TypedNode-F.Case (Some e) ws (Some o)) (n.Case (Some e) ws (Some o)) (n.rolls-Case (Some e) ws (Some o))
      (ap₂ (λ (p : Value × List (Value × Value)) v. widened t (chosen (Some p.0) p.1 (Some v))) (ap₂ (λ u vs. (u, vs)) x h) y)

  -- both have the same cells of these columns
  abbrev SameCells : List (Option SqlType) → Type 0
  SameCells cs = (i : ℕ) (t : Option SqlType) → slice_get cs i ≡ Some t → cell a i ≡ cell b i

  part-same : {cs : List (Option SqlType)} {part : Part} → SameCells cs → HasTypes cs part → Same part
  unfolding value_of
  part-same same (t.literal {x = x}) = form-same _ (TypedNode-F.Literal x) (n.Literal x) (n.rolls-Literal x) refl
  part-same same (t.column {i = i} {t = ty} is) = form-same ty (TypedNode-F.Column i) (n.Column i) (n.rolls-Column i) (same i ty is)
  part-same same t.row_time = form-same _ TypedNode-F.RowTime n.RowTime n.rolls-RowTime refl
  part-same same (t.sign {minus = minus} {a = x} {t = ty} h _) =
      form-same (Some ty) (TypedNode-F.Sign minus x) (n.Sign minus x) (n.rolls-Sign minus x) (ap (signed (Some ty) minus) (part-same same h))
  part-same same (t.binary {o = o} {a = x} {b = y} {t = ty} h k _) =
      form-same (Some ty) (TypedNode-F.Binary o x y) (n.Binary o x y) (n.rolls-Binary o x y) (ap₂ (applied (Some ty) o) (part-same same h) (part-same same k))
  part-same same (t.not {a = x} h _) = form-same _ (TypedNode-F.Not x) (n.Not x) (n.rolls-Not x) (ap (λ v. value.Bool (not (is_true_value v))) (part-same same h))
  part-same same (t.is_null {negated = negated} {a = x} h) =
      form-same _ (TypedNode-F.IsNull negated x) (n.IsNull negated x) (n.rolls-IsNull negated x) (ap (λ v. with_not negated (is_null v)) (part-same same h))
  part-same same (t.between {negated = negated} {a = x} {low = low} {high = high} h k l _) =
      form-same _ (TypedNode-F.Between negated x low high) (n.Between negated x low high) (n.rolls-Between negated x low high)
      (ap₂ (λ (p : Value × Value) z. with_not negated (compare_so is_ge p.0 p.1 && compare_so is_le p.0 z)) (ap₂ (λ u v. (u, v)) (part-same same h) (part-same same k)) (part-same same l))
  part-same same (t.one_of {negated = negated} {a = x} {es = es} h k _) =
      form-same _ (TypedNode-F.OneOf negated x es) (n.OneOf negated x es) (n.rolls-OneOf negated x es)
      (ap₂ (λ v vs. with_not negated (list_any (compare_so is_eq v) vs)) (part-same same h) (part-same same k))
  part-same same (t.like {negated = negated} {a = x} {pattern = pattern} h _) =
      form-same _ (TypedNode-F.Like negated x pattern) (n.Like negated x pattern) (n.rolls-Like negated x pattern) (ap (λ v. with_not negated (is_value_like pattern v)) (part-same same h))
  part-same same (t.cast {a = x} {to = to} h _) = form-same _ (TypedNode-F.Cast x to) (n.Cast x to) (n.rolls-Cast x to) (ap (cast to) (part-same same h))
  part-same same (t.case {operand = operand} {otherwise = otherwise} {ws = ws} {t = ty} h k l _) =
      case-same operand otherwise ws ty (part-same same h) (part-same same k) (part-same same l)
  part-same same (t.call {f = f} {es = es} {t = ty} h _) = form-same ty (TypedNode-F.Call f es) (n.Call f es) (n.rolls-Call f es) (ap (fun_value ty f) (part-same same h))
  part-same same (t.aggregate {f = f} {a = None} {t = ty} h _) = form-same ty (TypedNode-F.Aggregate f None) (n.Aggregate f None) (n.rolls-Aggregate f None) refl
  part-same same (t.aggregate {f = f} {a = Some x} {t = ty} h _) = form-same ty (TypedNode-F.Aggregate f (Some x)) (n.Aggregate f (Some x)) (n.rolls-Aggregate f (Some x)) refl
  part-same same t.left_out = tt
  part-same same (t.there h) = part-same same h
  part-same same t.none = refl
  part-same same (t.more h k) = ap₂ (λ v vs. v ∷ vs) (part-same same h) (part-same same k)
  part-same same t.no_when = refl
  part-same same (t.more_whens {w = w} h k l) =
      ap₂ (λ v vs. v ∷ vs) (of_both a time w ∙ ap₂ (λ u v. (u, v)) (part-same same h) (part-same same k) ∙ sym (of_both b time w)) (part-same same l)

-- ---- a row that goes on

cells-front : (H : Option SqlType → Value → Type 0) (cs : List (Option SqlType)) (row rest : List Value) → AllZip H cs row → SameCells (row ++ rest) row 0 cs
cells-front H [] row rest zip i t is = absurd (none-some t is)
cells-front H (c ∷ cs) [] rest zip i t is = absurd zip
cells-front H (c ∷ cs) (v ∷ row) rest zip zero t is = refl
cells-front H (c ∷ cs) (v ∷ row) rest zip (suc i) t is = cells-front H cs row rest zip.1 i t is

-- an expression looks at no cell after its columns
pub value-front : (H : Option SqlType → Value → Type 0) (cs : List (Option SqlType)) (row rest : List Value) (time : ℕ) → AllZip H cs row → (e : Typed) → IsTyped cs e →
    value_of (row ++ rest) time e ≡ value_of row time e
value-front H cs row rest time zip e typed = part-same (row ++ rest) row time (cells-front H cs row rest zip) typed

-- ---- a column

cell-at : (before : List Value) (v : Value) (rest : List Value) → cell (before ++ v ∷ rest) (length before) ≡ v
cell-at [] v rest = refl
cell-at (u ∷ before) v rest = cell-at before v rest

-- an expression that is a column is worth the cell there
pub value-at : (before : List Value) (v : Value) (rest : List Value) (time : ℕ) (e : Typed) → e.node ≡ n.Column (length before) → value_of (before ++ v ∷ rest) time e ≡ v
value-at before v rest time e is =
    ap (λ node. value_of (before ++ v ∷ rest) time (of e.ty node)) is
    ∙ sym (of_form (before ++ v ∷ rest) time e.ty (TypedNode-F.Column (length before)) (n.Column (length before)) (n.rolls-Column (length before))) ∙ cell-at before v rest
