-- Induction over expressions: one step for each form.
use Rattle.std.proofs.Common.{ℕ, Bool, List, [], ◌∷◌, map, Option, Some, None, sym, subst}
use Rattle.std.specs.List.{AllByRecursion as Each}
use Rattle.ksql_types.specs.declared.operator.BinaryOp.{BinaryOp}
use Rattle.ksql_types.specs.declared.value.SqlType.{SqlType}
use Rattle.expression_trees.specs.declared.tree.Expr.{Expr, ind-Expr, map-Expr, roll-Expr}
use Rattle.expression_trees.specs.declared.tree.Expr.TheVariants as e
use Rattle.expression_trees.specs.declared.tree.Expr.TheVariants.{rolls-Digits, rolls-Text, rolls-Truth, rolls-Null, rolls-Name, rolls-Sign, rolls-Binary, rolls-Not, rolls-IsNull, rolls-Between, rolls-OneOf, rolls-Like, rolls-Cast, rolls-Case, rolls-Call}
use Rattle.expression_trees.specs.declared.tree.Expr.TheOpen.{Expr-F}
use Rattle.expression_trees.specs.declared.tree.WhenText.{WhenText, roll-WhenText}

-- a part that may be left out
abbrev pub IfThere : {A : Type 0} → (A → Type 0) → Option A → Type 0
IfThere P None = Unit {0}
IfThere P (Some x) = P x

-- the condition and the result of a WHEN
abbrev pub InWhen : (Expr → Type 0) → WhenText → Type 0
InWhen P w = P w.cond × P w.result

-- a property of a form, given that it holds of its parts
pub record Steps (P : Expr → Type 0) : Type 0 where
  pub digits : (number : ℕ) → P (e.Digits number)
  pub text : (content : List ℕ) → P (e.Text content)
  pub truth : (b : Bool) → P (e.Truth b)
  pub null : P e.Null
  pub name : (q : Option (List ℕ)) (found : List ℕ) → P (e.Name q found)
  pub sign : (minus : Bool) (a : Expr) → P a → P (e.Sign minus a)
  pub binary : (o : BinaryOp) (a b : Expr) → P a → P b → P (e.Binary o a b)
  pub not : (a : Expr) → P a → P (e.Not a)
  pub is_null : (n : Bool) (a : Expr) → P a → P (e.IsNull n a)
  pub between : (n : Bool) (a b c : Expr) → P a → P b → P c → P (e.Between n a b c)
  pub one_of : (n : Bool) (a : Expr) (es : List Expr) → P a → Each P es → P (e.OneOf n a es)
  pub like : (n : Bool) (a : Expr) (pattern : List ℕ) → P a → P (e.Like n a pattern)
  pub cast : (a : Expr) (to : SqlType) → P a → P (e.Cast a to)
  pub case : (x : Option Expr) (ws : List WhenText) (z : Option Expr) → IfThere P x → Each (InWhen P) ws → IfThere P z → P (e.Case x ws z)
  pub call : (f : List ℕ) (star : Bool) (args : List Expr) → Each P args → P (e.Call f star args)

module _ (P : Expr → Type 0) (steps : Steps P) where
  -- a part, and that it holds of it
  abbrev Part : Type 0
  Part = (a : Expr) × P a

  abbrev WhenPart : Type 0
  WhenPart = (w : WhenText) × InWhen P w

  each : (es : List Part) → Each P (map (λ a. a.0) es)
  each [] = tt
  each (a ∷ es) = (a.1, each es)

  each_when : (ws : List WhenPart) → Each (InWhen P) (map (λ w. w.0) ws)
  each_when [] = tt
  each_when (w ∷ ws) = (w.1, each_when ws)

  form : (y : Expr-F Part WhenPart) → P (roll-Expr (map-Expr Part WhenPart Expr WhenText (λ a. a.0) (λ w. w.0) y))
  form (Expr-F.Digits number) = subst P (sym (rolls-Digits number)) (steps.digits number)
  form (Expr-F.Text content) = subst P (sym (rolls-Text content)) (steps.text content)
  form (Expr-F.Truth b) = subst P (sym (rolls-Truth b)) (steps.truth b)
  form Expr-F.Null = subst P (sym rolls-Null) steps.null
  form (Expr-F.Name q found) = subst P (sym (rolls-Name q found)) (steps.name q found)
  form (Expr-F.Sign minus a) = subst P (sym (rolls-Sign minus a.0)) (steps.sign minus a.0 a.1)
  form (Expr-F.Binary o a b) = subst P (sym (rolls-Binary o a.0 b.0)) (steps.binary o a.0 b.0 a.1 b.1)
  form (Expr-F.Not a) = subst P (sym (rolls-Not a.0)) (steps.not a.0 a.1)
  form (Expr-F.IsNull n a) = subst P (sym (rolls-IsNull n a.0)) (steps.is_null n a.0 a.1)
  form (Expr-F.Between n a b c) = subst P (sym (rolls-Between n a.0 b.0 c.0)) (steps.between n a.0 b.0 c.0 a.1 b.1 c.1)
  form (Expr-F.OneOf n a es) =
      let all = map (λ (x : Part). x.0) es in
      subst P (sym (rolls-OneOf n a.0 all)) (steps.one_of n a.0 all a.1 (each es))
  form (Expr-F.Like n a pattern) = subst P (sym (rolls-Like n a.0 pattern)) (steps.like n a.0 pattern a.1)
  form (Expr-F.Cast a to) = subst P (sym (rolls-Cast a.0 to)) (steps.cast a.0 to a.1)
  form (Expr-F.Case None ws None) =
      let all = map (λ (w : WhenPart). w.0) ws in
      subst P (sym (rolls-Case None all None)) (steps.case None all None tt (each_when ws) tt)
  form (Expr-F.Case None ws (Some z)) =
      let all = map (λ (w : WhenPart). w.0) ws in
      subst P (sym (rolls-Case None all (Some z.0))) (steps.case None all (Some z.0) tt (each_when ws) z.1)
  form (Expr-F.Case (Some x) ws None) =
      let all = map (λ (w : WhenPart). w.0) ws in
      subst P (sym (rolls-Case (Some x.0) all None)) (steps.case (Some x.0) all None x.1 (each_when ws) tt)
  form (Expr-F.Case (Some x) ws (Some z)) =
      let all = map (λ (w : WhenPart). w.0) ws in
      subst P (sym (rolls-Case (Some x.0) all (Some z.0))) (steps.case (Some x.0) all (Some z.0) x.1 (each_when ws) z.1)
  form (Expr-F.Call f star args) =
      let all = map (λ (x : Part). x.0) args in
      subst P (sym (rolls-Call f star all)) (steps.call f star all (each args))

  pub induction : (a : Expr) → P a
  induction = ind-Expr P (InWhen P)
      (λ x y is. subst (λ z. P (roll-Expr z)) is (form y))
      (λ x y is. subst (λ z. InWhen P (roll-WhenText z)) is (y.cond.1, y.result.1))
