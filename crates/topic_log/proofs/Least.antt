-- The least of a list, taken from its front.
use Rattle.std.proofs.Common.{◌≡◌, ◌∙◌, ap, refl, ℕ, List, [], ◌∷◌, arith, Some}
use Rattle.std.specs.Prelude.{min, slice_get}
use Rattle.std.proofs.lemmas.Option.{same_Some}
use Rattle.core_state.specs.State.{least, lowest}

module _ {A : Type 0} (f : A → ℕ) where
  -- the least of a number and of what f says of the members
  abbrev pub least_from : ℕ → List A → ℕ
  least_from n [] = n
  least_from n (x ∷ xs) = least_from (min n (f x)) xs

  min-least_from : (m n : ℕ) (xs : List A) → min m (least_from n xs) ≡ least_from (min m n) xs
  min-least_from m n [] = refl
  min-least_from m n (x ∷ xs) =
      let joined : min m (min n (f x)) ≡ min (min m n) (f x) = omega arith in
      min-least_from m (min n (f x)) xs ∙ ap (λ (k : ℕ). least_from k xs) joined

  least-from_front : (x : A) (xs : List A) → least f x xs ≡ least_from (f x) xs
  least-from_front x [] = refl
  least-from_front x (y ∷ xs) = ap (min (f x)) (least-from_front y xs) ∙ min-least_from (f x) (f y) xs

  -- the least that is said of members, where the first is known
  pub lowest-from_front : (n : ℕ) (xs : List A) (x : A) → slice_get xs 0 ≡ Some x → lowest n f xs ≡ least_from (f x) xs
  lowest-from_front n [] x at = cc
  lowest-from_front n (y ∷ xs) x at =
      let once : f y ≡ min (f y) (f y) = omega arith in
      least-from_front y xs ∙ ap (λ (k : ℕ). least_from k xs) once ∙ ap (λ (z : A). least_from (f z) (y ∷ xs)) (same_Some y x at)
