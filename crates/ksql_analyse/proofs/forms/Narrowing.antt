-- A typed tree has its types over other columns too, if it contains no aggregate and none of its columns differs.
use Rattle.std.proofs.Common.{◌≡◌, ℕ, zero, suc, ◌<◌, arith, Bool, false, not, List, [], ◌∷◌, ◌++◌, length, Option, Some, None, nat_lt, refl, sym, ◌∙◌}
use Rattle.std.specs.Prelude.{slice_get}
use Rattle.std.proofs.lemmas.Bool.{ltb-true}
use Rattle.ksql_types.specs.declared.value.SqlType.{SqlType}
use Rattle.ksql_types.specs.declared.value.SqlType.TheVariants as sql
use Rattle.ksql_expr.specs.declared.typed.Typed.{Typed}
use Rattle.ksql_expr.specs.Aggregates.{holds, is_aggregate}
use Rattle.ksql_expr.specs.Typing as w
use Rattle.ksql_expr.specs.Typing.{HasTypes, Part, one, perhaps, each, whens}
use Rattle.ksql_analyse.proofs.forms.Holding as hold
use Rattle.ksql_analyse.proofs.forms.Holding.{each_holds, whens_hold, part_holds}
use Rattle.ksql_analyse.proofs.forms.Bearing.{reach}
use Rattle.ksql_analyse.proofs.lists.Distinct.{or-false}
use Rattle.ksql_analyse.proofs.accepted.Refusals.{not-not, or-three}

module _ (far : ℕ → Bool) (ds : List (Option SqlType)) where
  -- it holds neither an aggregate nor a column that is too far
  abbrev pub Free : Part → Type 0
  Free (one x) = (holds is_aggregate x ≡ false) × (holds (reach far) x ≡ false)
  Free (perhaps x) = (part_holds is_aggregate x ≡ false) × (part_holds (reach far) x ≡ false)
  Free (each xs) = (each_holds is_aggregate xs ≡ false) × (each_holds (reach far) xs ≡ false)
  Free (whens ws) = (whens_hold is_aggregate ws ≡ false) × (whens_hold (reach far) ws ≡ false)

  -- the columns that aren't too far have the same types
  abbrev pub Agree : List (Option SqlType) → Type 0
  Agree cs = (i : ℕ) → far i ≡ false → slice_get ds i ≡ slice_get cs i

  pub narrowed : {cs : List (Option SqlType)} {p : Part} → Agree cs → HasTypes cs p → Free p → HasTypes ds p
  narrowed s (w.literal {x = x}) h = w.literal
  narrowed s (w.column {i = i} {t = t} e) h = w.column (s i (sym (hold.holds-Column (reach far) t i) ∙ h.1) ∙ e)
  narrowed s w.row_time h = w.row_time
  narrowed s (w.sign {minus = minus} {a = a} {t = t} k e) h =
      w.sign (narrowed s k (sym (hold.holds-Sign is_aggregate (Some t) minus a) ∙ h.0, sym (hold.holds-Sign (reach far) (Some t) minus a) ∙ h.1)) e
  narrowed s (w.binary {o = o} {a = a} {b = b} {t = t} k l e) h =
      let x = or-false (holds is_aggregate a) (holds is_aggregate b) (sym (hold.holds-Binary is_aggregate (Some t) o a b) ∙ h.0) in
      let y = or-false (holds (reach far) a) (holds (reach far) b) (sym (hold.holds-Binary (reach far) (Some t) o a b) ∙ h.1) in
      w.binary (narrowed s k (x.0, y.0)) (narrowed s l (x.1, y.1)) e
  narrowed s (w.not {a = a} k e) h =
      w.not (narrowed s k (sym (hold.holds-Not is_aggregate (Some sql.Bool) a) ∙ h.0, sym (hold.holds-Not (reach far) (Some sql.Bool) a) ∙ h.1)) e
  narrowed s (w.is_null {negated = m} {a = a} k) h =
      w.is_null (narrowed s k (sym (hold.holds-IsNull is_aggregate (Some sql.Bool) m a) ∙ h.0, sym (hold.holds-IsNull (reach far) (Some sql.Bool) m a) ∙ h.1))
  narrowed s (w.between {negated = m} {a = a} {low = b} {high = c} k l j e) h =
      let x = or-three (holds is_aggregate a) (holds is_aggregate b) (holds is_aggregate c) (sym (hold.holds-Between is_aggregate (Some sql.Bool) m a b c) ∙ h.0) in
      let y = or-three (holds (reach far) a) (holds (reach far) b) (holds (reach far) c) (sym (hold.holds-Between (reach far) (Some sql.Bool) m a b c) ∙ h.1) in
      w.between (narrowed s k (x.0, y.0)) (narrowed s l (x.1, y.1)) (narrowed s j (x.2, y.2)) e
  narrowed s (w.one_of {negated = m} {a = a} {es = xs} k l e) h =
      let x = or-false (holds is_aggregate a) (each_holds is_aggregate xs) (sym (hold.holds-OneOf is_aggregate (Some sql.Bool) m a xs) ∙ h.0) in
      let y = or-false (holds (reach far) a) (each_holds (reach far) xs) (sym (hold.holds-OneOf (reach far) (Some sql.Bool) m a xs) ∙ h.1) in
      w.one_of (narrowed s k (x.0, y.0)) (narrowed s l (x.1, y.1)) e
  narrowed s (w.like {negated = m} {a = a} {pattern = p} k e) h =
      w.like (narrowed s k (sym (hold.holds-Like is_aggregate (Some sql.Bool) m a p) ∙ h.0, sym (hold.holds-Like (reach far) (Some sql.Bool) m a p) ∙ h.1)) e
  narrowed s (w.cast {a = a} {to = to} k e) h =
      w.cast (narrowed s k (sym (hold.holds-Cast is_aggregate (Some to) a to) ∙ h.0, sym (hold.holds-Cast (reach far) (Some to) a to) ∙ h.1)) e
  narrowed s (w.case {operand = a} {otherwise = b} {ws = ws} {t = t} k l j e) h =
      let x = or-three (part_holds is_aggregate a) (whens_hold is_aggregate ws) (part_holds is_aggregate b) (sym (hold.holds-Case is_aggregate t a ws b) ∙ h.0) in
      let y = or-three (part_holds (reach far) a) (whens_hold (reach far) ws) (part_holds (reach far) b) (sym (hold.holds-Case (reach far) t a ws b) ∙ h.1) in
      w.case (narrowed s k (x.0, y.0)) (narrowed s l (x.1, y.1)) (narrowed s j (x.2, y.2)) e
  narrowed s (w.call {f = f} {es = xs} {t = t} k e) h =
      w.call (narrowed s k (sym (hold.holds-Call is_aggregate t f xs) ∙ h.0, sym (hold.holds-Call (reach far) t f xs) ∙ h.1)) e
  narrowed s (w.aggregate {f = f} {a = None} {t = t} k e) h = absurd (cc (hold.holds-CountAll is_aggregate t f, h.0))
  narrowed s (w.aggregate {f = f} {a = Some a} {t = t} k e) h = absurd (cc (hold.holds-Aggregate is_aggregate t f a, h.0))
  narrowed s w.left_out h = w.left_out
  narrowed s (w.there k) h = w.there (narrowed s k h)
  narrowed s w.none h = w.none
  narrowed s (w.more {a = a} {es = xs} k l) h =
      let x = or-false (holds is_aggregate a) (each_holds is_aggregate xs) h.0 in
      let y = or-false (holds (reach far) a) (each_holds (reach far) xs) h.1 in
      w.more (narrowed s k (x.0, y.0)) (narrowed s l (x.1, y.1))
  narrowed s w.no_when h = w.no_when
  narrowed s (w.more_whens {w = v} {ws = ws} k l j) h =
      let x = or-false (hold.when_holds is_aggregate v) (whens_hold is_aggregate ws) h.0 in
      let y = or-false (hold.when_holds (reach far) v) (whens_hold (reach far) ws) h.1 in
      let x2 = or-false (holds is_aggregate v.cond) (holds is_aggregate v.result) (sym (hold.holds-when is_aggregate v) ∙ x.0) in
      let y2 = or-false (holds (reach far) v.cond) (holds (reach far) v.result) (sym (hold.holds-when (reach far) v) ∙ y.0) in
      w.more_whens (narrowed s k (x2.0, y2.0)) (narrowed s l (x2.1, y2.1)) (narrowed s j (x.1, y.1))

-- ---- the columns in front

abbrev pub is_past : ℕ → ℕ → Bool
is_past count i = not (nat_lt i count)

front-get : {A : Type 0} (xs ys : List A) (i : ℕ) → i < length xs → slice_get xs i ≡ slice_get (xs ++ ys) i
front-get [] ys i h = absurd (omega arith)
front-get (x ∷ xs) ys zero h = refl
front-get (x ∷ xs) ys (suc i) h = front-get xs ys i (omega arith)

-- over the columns in front alone
pub narrowed-front : (ds rest : List (Option SqlType)) (x : Typed) → HasTypes (ds ++ rest) (one x) → holds is_aggregate x ≡ false
    → holds (reach (is_past (length ds))) x ≡ false → HasTypes ds (one x)
narrowed-front ds rest x k h l =
    narrowed (is_past (length ds)) ds (λ i near. front-get ds rest i (ltb-true i (length ds) (not-not (nat_lt i (length ds)) near))) k (h, l)
