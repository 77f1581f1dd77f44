-- No name is both that of a function of values and that of an aggregate function.
use Rattle.std.proofs.Common.{◌≡◌, ℕ, Bool, true, false, not, ◌||◌, if◌then◌else◌, List, [], ◌∷◌, Option, Some, None, is_some, refl, ap, ◌∙◌, subst}
use Rattle.std.specs.Str.{bytes_eq}
use Rattle.std.proofs.lemmas.Slice.Eq.{bytes_eq-Decides}
use Rattle.expression_trees.specs.Words.{beside}
use Rattle.ksql_expr.specs.declared.typed.AggFun.{AggFun}
use Rattle.ksql_expr.specs.declared.typed.Fun.{Fun}
use Rattle.ksql_scopes.specs.Functions.{functions, function_of, aggregate_of, is_aggregate, is_unknown}

abbrev HoldsOf : {A : Type 0} → (List ℕ → Type 0) → List (List ℕ × A) → Type 0
HoldsOf P [] = Unit {0}
HoldsOf P (r ∷ rs) = P r.0 × HoldsOf P rs

pick : {A X : Type 0} (b : Bool) (r g : A) (rest : Option A) → (b ≡ true → X) → (rest ≡ Some g → X) → (if b then Some r else rest) ≡ Some g → X
pick true r g rest here behind e = here refl
pick false r g rest here behind e = behind e

of-row : {A : Type 0} (P : List ℕ → Type 0) (f : List ℕ) (g : A) (rs : List (List ℕ × A)) → HoldsOf P rs → beside rs f ≡ Some g → P f
of-row P f g [] h e = absurd (cc (e))
of-row P f g (r ∷ rs) h e = pick (bytes_eq r.0 f) r.1 g (beside rs f) (λ k. subst P ((bytes_eq-Decides r.0 f).0 k) h.0) (of-row P f g rs h.1) e

pub no-aggregate : (f : List ℕ) (g : Fun) → function_of f ≡ Some g → aggregate_of f ≡ None
unfolding function_of aggregate_of
no-aggregate f g h = of-row (λ n. aggregate_of n ≡ None) f g functions (refl, (refl, (refl, (refl, (refl, (refl, (refl, (refl, (refl, (refl, tt)))))))))) h

pub is-aggregate : (f : List ℕ) (g : AggFun) → aggregate_of f ≡ Some g → is_aggregate f ≡ true
is-aggregate f g h = ap is_some h

none-some : {A : Type 0} (o : Option A) → is_some o ≡ false → o ≡ None
none-some None h = refl
none-some (Some a) h = absurd (cc (h))

neither : (a b : Bool) → not (a || b) ≡ true → (a ≡ false) × (b ≡ false)
neither true b h = absurd (cc (h))
neither false true h = absurd (cc (h))
neither false false h = (refl, refl)

pub unknown-none : (f : List ℕ) → is_unknown f ≡ true → (function_of f ≡ None) × (aggregate_of f ≡ None)
unknown-none f h =
    let r = neither (is_some (function_of f)) (is_some (aggregate_of f)) h in
    (none-some (function_of f) r.0, none-some (aggregate_of f) r.1)

pub known-function : (f : List ℕ) (g : Fun) → function_of f ≡ Some g → is_unknown f ≡ false
known-function f g h = ap (λ o. not (is_some o || is_some (aggregate_of f))) h

or-true : (b : Bool) → (b || true) ≡ true
or-true true = refl
or-true false = refl

pub known-aggregate : (f : List ℕ) (g : AggFun) → aggregate_of f ≡ Some g → is_unknown f ≡ false
known-aggregate f g h = ap (λ o. not (is_some (function_of f) || is_some o)) h ∙ ap not (or-true (is_some (function_of f)))
