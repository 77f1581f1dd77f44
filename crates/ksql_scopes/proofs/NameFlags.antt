-- The names and the calls in the parts of an expression.
use Rattle.std.proofs.Common.{◌≡◌, ℕ, Bool, true, false, ◌||◌, if◌then◌else◌, List, [], ◌∷◌, ◌++◌, map, length, refl, ap₂, sym, ◌∙◌}
use Rattle.std.specs.List.{list_any}
use Rattle.std.proofs.lemmas.List.Folds.{list_any-append}
use Rattle.ksql_scopes.specs.declared.scope.Scope.{Scope}
use Rattle.ksql_scopes.specs.Scope.{meanings, inside}
use Rattle.ksql_scopes.specs.Uses.{Use, meanings_of, in_aggregate}

-- none passes
pub none-either : {X : Type 0} (q : X → Bool) (xs ys : List X) → list_any q xs ≡ false → list_any q ys ≡ false → list_any q (xs ++ ys) ≡ false
none-either q xs ys h k = list_any-append q xs ys ∙ ap₂ (λ a b. a || b) h k

or-false : (a b : Bool) → (a || b) ≡ false → (a ≡ false) × (b ≡ false)
or-false true b h = absurd (cc (h))
or-false false b h = (refl, h)

pub none-of : {X : Type 0} (q : X → Bool) (xs ys : List X) → list_any q (xs ++ ys) ≡ false → (list_any q xs ≡ false) × (list_any q ys ≡ false)
none-of q xs ys h = or-false (list_any q xs) (list_any q ys) (sym (list_any-append q xs ys) ∙ h)

-- a test on how many things a name stands for
abbrev pub counted : (ℕ → Bool) → Scope → Use → Bool
counted p s u = p (length (meanings_of s u))

-- inside an aggregate it is the inner scope that counts
pub counted-inside : (p : ℕ → Bool) (s : Scope) (us : List Use)
    → list_any (counted p s) (map in_aggregate us) ≡ list_any (counted p (inside s)) us
counted-inside p s [] = refl
counted-inside p s (u ∷ us) = ap₂ (λ a b. a || b) (at u.within) (counted-inside p s us)
  where
    at : (w : Bool) → counted p s (in_aggregate u) ≡ p (length (meanings (if w then inside (inside s) else inside s) u.qualifier u.name))
    at true = refl
    at false = refl
