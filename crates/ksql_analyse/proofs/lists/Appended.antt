-- The member at an index of two appended lists.
use Rattle.std.proofs.Common.{◌≡◌, ℕ, suc, zero, ◌+◌, arith, List, [], ◌∷◌, ◌++◌, length, Some, ap, ◌∙◌}
use Rattle.std.specs.Prelude.{slice_get}

pub front-at : {A : Type 0} (xs ys : List A) (j : ℕ) (x : A) → slice_get xs j ≡ Some x → slice_get (xs ++ ys) j ≡ Some x
front-at [] ys j x h = absurd (cc (h))
front-at (y ∷ xs) ys zero x h = h
front-at (y ∷ xs) ys (suc j) x h = front-at xs ys j x h

pub behind-at : {A : Type 0} (xs ys : List A) (j : ℕ) → slice_get (xs ++ ys) (length xs + j) ≡ slice_get ys j
behind-at [] ys j = let z : 0 + j ≡ j = omega arith in ap (slice_get ys) z
behind-at (x ∷ xs) ys j = let z : suc (length xs) + j ≡ suc (length xs + j) = omega arith in ap (slice_get (x ∷ (xs ++ ys))) z ∙ behind-at xs ys j
