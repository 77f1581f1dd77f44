-- The findings about an expression of a form, and about expressions one by one.
use Rattle.std.proofs.Common.{◌≡◌, ℕ, ◌+◌, ◌<◌, Bool, true, false, ◌&&◌, List, [], ◌∷◌, ◌++◌, map, length, take, get_or, Result, IfOk, refl, ap, sym, ◌∙◌, subst}
use Rattle.std.specs.List.{list_all}
use Rattle.std.proofs.Math.Seq.{take-suc}
use Rattle.std.proofs.Math.Numerals.{suc-eq-add-one}
use Rattle.std.proofs.lemmas.Bool.{false≢true}
use Rattle.std.proofs.lemmas.List.{map-append}
use Rattle.std.proofs.lemmas.List.Folds.{list_all_at}
use Rattle.expression_trees.specs.declared.tree.Expr.{Expr}
use Rattle.expression_trees.specs.declared.tree.WhenText.{WhenText}
use Rattle.ksql_scopes.specs.declared.scope.Scope.{Scope}
use Rattle.ksql_scopes.specs.Uses.{is_small, are_whens_small}
use Rattle.std.proofs.lemmas.Bool.{and_parts}
use Rattle.ksql_typing.specs.declared.judged.Judged.{Judged}
use Rattle.ksql_typing.specs.Judged.{judged}

pub of_form : (x y : Expr) (s : Scope) {v : Judged} → x ≡ y → judged y s ≡ v → v ≡ judged x s
of_form x y s k l = sym (ap (λ a. judged a s) k ∙ l)

-- what was answered is also another value that it equals
pub moved : {A E : Type 0} (r : Result A E) {v w : A} → v ≡ w → IfOk r (λ x. x ≡ v) → IfOk r (λ x. x ≡ w)
moved r e h = subst (λ z. IfOk r (λ x. x ≡ z)) e h

-- the values of the first items, and that of one more
pub one_more : {A B : Type 0} (f : A → B) (xs : List A) (i : ℕ) (x : A) → i < length xs → x ≡ get_or xs i x → map f (take i xs) ++ f x ∷ [] ≡ map f (take (i + 1) xs)
one_more f xs i x below is =
    sym (ap (λ n. map f (take n xs)) (sym (suc-eq-add-one i)) ∙ ap (map f) (take-suc xs i x below)
    ∙ map-append f (take i xs) (get_or xs i x ∷ []) ∙ ap (λ y. map f (take i xs) ++ f y ∷ []) (sym is))

-- what holds of each item holds of one
all_at : {A : Type 0} (p : A → Bool) (xs : List A) (i : ℕ) (x : A) → list_all p xs ≡ true → i < length xs → x ≡ get_or xs i x → p x ≡ true
all_at p xs i x h below is = decide (p x) refl
  where
    decide : (b : Bool) → p x ≡ b → p x ≡ true
    decide true k = k
    decide false k = absurd (false≢true (sym (list_all_at p xs i x below (sym (ap p is) ∙ k)) ∙ h))

pub small_when_at : (ws : List WhenText) (i : ℕ) (w : WhenText) → are_whens_small ws ≡ true → i < length ws → w ≡ get_or ws i w
    → (is_small w.cond ≡ true) × (is_small w.result ≡ true)
small_when_at ws i w h below is = and_parts (is_small w.cond) (is_small w.result) (all_at (λ v. is_small v.cond && is_small v.result) ws i w h below is)
