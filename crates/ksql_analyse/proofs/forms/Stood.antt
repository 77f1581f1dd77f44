-- What stands for an expression, by the form of the expression.
use Rattle.std.proofs.Common.{◌≡◌, ℕ, Bool, true, false, List, [], ◌∷◌, Option, Some, None, refl, ap, sym, ◌∙◌, subst, inl, inr}
use Rattle.std.specs.Prelude.{◌⊎◌}
use Rattle.ksql_types.specs.declared.value.SqlType.{SqlType}
use Rattle.ksql_types.specs.declared.value.Value.TheVariants as value
use Rattle.expression_trees.specs.declared.tree.Expr.{Expr, out-Expr}
use Rattle.expression_trees.specs.declared.tree.Expr.TheVariants as e
use Rattle.expression_trees.specs.declared.tree.Expr.TheOpen.{Expr-F}
use Rattle.expression_trees.specs.declared.tree.WhenText.{WhenText}
use Rattle.ksql_expr.specs.declared.typed.AggFun.{AggFun}
use Rattle.ksql_expr.specs.declared.typed.AggFun.TheVariants.{CountAll, Count}
use Rattle.ksql_expr.specs.declared.typed.Fun.{Fun}
use Rattle.ksql_expr.specs.declared.typed.Typed.{Typed}
use Rattle.ksql_expr.specs.declared.typed.TypedNode.{TypedNode}
use Rattle.ksql_expr.specs.declared.typed.TypedNode.TheVariants as n
use Rattle.ksql_expr.specs.declared.typed.TypedWhen.{TypedWhen}
use Rattle.ksql_expr.specs.Typing.{of}
use Rattle.ksql_scopes.specs.declared.scope.Scope.{Scope}
use Rattle.ksql_scopes.specs.Functions.{function_of, aggregate_of, is_unknown}
use Rattle.ksql_scopes.specs.Scope.{meanings, inside}
use Rattle.ksql_typing.specs.Standing as st
use Rattle.ksql_typing.specs.Standing.{Stands, digits_value, one, perhaps, each, whens}

-- a tree of this form
abbrev pub IsOf : Typed → TypedNode → Type 0
IsOf x form = (t : Option SqlType) × (x ≡ of t form)

-- a call: of a function of values, of COUNT of `*`, of an aggregate of one argument, or of an unknown function
pub record IsFunCall (s : Scope) (f : List ℕ) (star : Bool) (es : List Expr) (x : Typed) : Type 0 where
  pub found : Fun
  pub args : List Typed
  pub named : function_of f ≡ Some found
  pub plain : star ≡ false
  pub stand : Stands s (each es args)
  pub is : IsOf x (n.Call found args)

pub record IsCountAll (f : List ℕ) (star : Bool) (es : List Expr) (x : Typed) : Type 0 where
  pub named : aggregate_of f ≡ Some Count
  pub starred : star ≡ true
  pub bare : es ≡ []
  pub is : IsOf x (n.Aggregate CountAll None)

pub record IsAggregateCall (s : Scope) (f : List ℕ) (star : Bool) (es : List Expr) (x : Typed) : Type 0 where
  pub found : AggFun
  pub arg : Expr
  pub tree : Typed
  pub named : aggregate_of f ≡ Some found
  pub plain : star ≡ false
  pub alone : es ≡ arg ∷ []
  pub stands : Stands (inside s) (one arg tree)
  pub is : IsOf x (n.Aggregate found (Some tree))

abbrev pub Stood : Scope → Expr-F Expr WhenText → Typed → Type 0
Stood s (Expr-F.Digits number) x = IsOf x (n.Literal (digits_value number))
Stood s (Expr-F.Text content) x = IsOf x (n.Literal (value.Txt content))
Stood s (Expr-F.Truth b) x = IsOf x (n.Literal (value.Bool b))
Stood s Expr-F.Null x = IsOf x (n.Literal value.Null)
Stood s (Expr-F.Name q name) x = (form : TypedNode) × (t : SqlType) × (meanings s q name ≡ (form, t) ∷ []) × (x ≡ of (Some t) form)
Stood s (Expr-F.Sign minus a) x = (y : Typed) × Stands s (one a y) × IsOf x (n.Sign minus y)
Stood s (Expr-F.Binary o a b) x = (y z : Typed) × Stands s (one a y) × Stands s (one b z) × IsOf x (n.Binary o y z)
Stood s (Expr-F.Not a) x = (y : Typed) × Stands s (one a y) × IsOf x (n.Not y)
Stood s (Expr-F.IsNull m a) x = (y : Typed) × Stands s (one a y) × IsOf x (n.IsNull m y)
Stood s (Expr-F.Between m a b c) x =
    (y z w : Typed) × Stands s (one a y) × Stands s (one b z) × Stands s (one c w) × IsOf x (n.Between m y z w)
Stood s (Expr-F.OneOf m a es) x = (y : Typed) × (ys : List Typed) × Stands s (one a y) × Stands s (each es ys) × IsOf x (n.OneOf m y ys)
Stood s (Expr-F.Like m a pattern) x = (y : Typed) × Stands s (one a y) × IsOf x (n.Like m y pattern)
Stood s (Expr-F.Cast a to) x = (y : Typed) × Stands s (one a y) × IsOf x (n.Cast y to)
Stood s (Expr-F.Case a ws b) x =
    (y z : Option Typed) × (ys : List TypedWhen) × Stands s (perhaps a y) × Stands s (whens ws ys) × Stands s (perhaps b z) × IsOf x (n.Case y ys z)
Stood s (Expr-F.Call f star es) x = IsFunCall s f star es x ⊎ IsCountAll f star es x ⊎ IsAggregateCall s f star es x ⊎ (is_unknown f ≡ true)

stood-out : {s : Scope} {a : Expr} {x : Typed} → Stands s (one a x) → Stood s (out-Expr a) x
stood-out {s} {x = x} (st.digits {number = number}) = subst (λ z. Stood s z x) (sym (e.outs-Digits number)) (x.ty, refl)
stood-out {s} {x = x} (st.text {content = content}) = subst (λ z. Stood s z x) (sym (e.outs-Text content)) (x.ty, refl)
stood-out {s} {x = x} (st.truth {b = b}) = subst (λ z. Stood s z x) (sym (e.outs-Truth b)) (x.ty, refl)
stood-out {s} {x = x} st.null = subst (λ z. Stood s z x) (sym e.outs-Null) (x.ty, refl)
stood-out {s} {x = x} (st.name {q = q} {found = found} {form = form} {t = t} k) = subst (λ z. Stood s z x) (sym (e.outs-Name q found)) (form, t, k, refl)
stood-out {s} {x = x} (st.sign {minus = minus} {a = a} {x = y} k r) = subst (λ z. Stood s z x) (sym (e.outs-Sign minus a)) (y, k, (x.ty, refl))
stood-out {s} {x = x} (st.binary {o = o} {a = a} {b = b} {x = y} {y = z} k l r) =
    subst (λ z. Stood s z x) (sym (e.outs-Binary o a b)) (y, z, k, l, (x.ty, refl))
stood-out {s} {x = x} (st.not {a = a} {x = y} k r) = subst (λ z. Stood s z x) (sym (e.outs-Not a)) (y, k, (x.ty, refl))
stood-out {s} {x = x} (st.is_null {negated = m} {a = a} {x = y} k) = subst (λ z. Stood s z x) (sym (e.outs-IsNull m a)) (y, k, (x.ty, refl))
stood-out {s} {x = x} (st.between {negated = m} {a = a} {low = b} {high = c} {x = y} {y = z} {z = w} k l j r) =
    subst (λ z. Stood s z x) (sym (e.outs-Between m a b c)) (y, z, w, k, l, j, (x.ty, refl))
stood-out {s} {x = x} (st.one_of {negated = m} {a = a} {es = es} {x = y} {xs = ys} k l r) =
    subst (λ z. Stood s z x) (sym (e.outs-OneOf m a es)) (y, ys, k, l, (x.ty, refl))
stood-out {s} {x = x} (st.like {negated = m} {a = a} {pattern = pattern} {x = y} k r) =
    subst (λ z. Stood s z x) (sym (e.outs-Like m a pattern)) (y, k, (x.ty, refl))
stood-out {s} {x = x} (st.cast {a = a} {to = to} {x = y} k r) = subst (λ z. Stood s z x) (sym (e.outs-Cast a to)) (y, k, (x.ty, refl))
stood-out {s} {x = x} (st.case {operand = a} {otherwise = b} {ws = ws} {x = y} {z = z} {ys = ys} k l j r) =
    subst (λ z. Stood s z x) (sym (e.outs-Case a ws b)) (y, z, ys, k, l, j, (x.ty, refl))
stood-out {s} {x = x} (st.call {f = f} {args = es} {found = found} {xs = xs} g k r) =
    subst (λ z. Stood s z x) (sym (e.outs-Call f false es)) (inl (record { found = found; args = xs; named = g; plain = refl; stand = k; is = (x.ty, refl) }))
stood-out {s} {x = x} (st.count_all {f = f} g) =
    subst (λ z. Stood s z x) (sym (e.outs-Call f true [])) (inr (inl (record { named = g; starred = refl; bare = refl; is = (x.ty, refl) })))
stood-out {s} {x = x} (st.aggregate {f = f} {a = a} {found = found} {x = y} g k r) =
    subst (λ z. Stood s z x) (sym (e.outs-Call f false (a ∷ [])))
    (inr (inr (inl (record { found = found; arg = a; tree = y; named = g; plain = refl; alone = refl; stands = k; is = (x.ty, refl) }))))
stood-out {s} {x = x} (st.unknown {f = f} {star = star} {args = es} g k) = subst (λ z. Stood s z x) (sym (e.outs-Call f star es)) (inr (inr (inr g)))

-- of an expression that is of a form
pub stood : (s : Scope) (a : Expr) (x : Typed) (form : Expr-F Expr WhenText) → out-Expr a ≡ form → Stands s (one a x) → Stood s form x
stood s a x form h k = subst (λ z. Stood s z x) h (stood-out k)

-- what stands for a name
pub stood-name : (s : Scope) (a : Expr) (x : Typed) (q : Option (List ℕ)) (name : List ℕ) → a ≡ e.Name q name → Stands s (one a x) → Stood s (Expr-F.Name q name) x
stood-name s a x q name h k = stood s a x (Expr-F.Name q name) (ap out-Expr h ∙ e.outs-Name q name) k
