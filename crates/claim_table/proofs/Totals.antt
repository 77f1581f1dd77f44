-- Totals over the views of all claims.
use Rattle.std.proofs.Common.{◌≡◌, ◌≢◌, ℕ, zero, suc, ◌+◌, ◌≤◌, List, [], ◌∷◌, ◌++◌, set, sym, refl, ap, arith}
use mathlib.Core.Option.{some, some-injective, some-ne-none}
use lib.ListN.{get_elem?}
use Rattle.claim_table.specs.Sums.{total}

module _ {A : Type 0} where
  pub total_set : (f : A → ℕ) (l : List A) (k : ℕ) (v w : A) → get_elem? l k ≡ some v → total f (set l k w) + f v ≡ total f l + f w
  total_set f [] k v w e = absurd (some-ne-none v (sym e))
  total_set f (x ∷ xs) zero v w e = let q : f x ≡ f v = ap f (some-injective x v e) in omega arith
  total_set f (x ∷ xs) (suc k) v w e = let r = total_set f xs k v w e in omega arith

  pub total_snoc : (f : A → ℕ) (l : List A) (w : A) → total f (l ++ w ∷ []) ≡ total f l + f w
  total_snoc f [] w = omega arith
  total_snoc f (x ∷ xs) w = let r = total_snoc f xs w in omega arith

  pub total_at : (f : A → ℕ) (l : List A) (k : ℕ) (v : A) → get_elem? l k ≡ some v → f v ≤ total f l
  total_at f [] k v e = absurd (some-ne-none v (sym e))
  total_at f (x ∷ xs) zero v e = let q : f x ≡ f v = ap f (some-injective x v e) in omega arith
  total_at f (x ∷ xs) (suc k) v e = let r = total_at f xs k v e in omega arith

  pub total_two : (f : A → ℕ) (l : List A) (j k : ℕ) (v w : A) → j ≢ k → get_elem? l j ≡ some v → get_elem? l k ≡ some w → f v + f w ≤ total f l
  total_two f [] j k v w n a b = absurd (some-ne-none v (sym a))
  total_two f (x ∷ xs) zero zero v w n a b = absurd (n refl)
  total_two f (x ∷ xs) zero (suc k) v w n a b = let q : f x ≡ f v = ap f (some-injective x v a) in let r = total_at f xs k w b in omega arith
  total_two f (x ∷ xs) (suc j) zero v w n a b = let q : f x ≡ f w = ap f (some-injective x w b) in let r = total_at f xs j v a in omega arith
  total_two f (x ∷ xs) (suc j) (suc k) v w n a b = let r = total_two f xs j k v w (λ e. n (ap suc e)) a b in omega arith

  -- where f is at most g at each, so is its total
  pub total_le : (f g : A → ℕ) (l : List A) → ((k : ℕ) (v : A) → get_elem? l k ≡ some v → f v ≤ g v) → total f l ≤ total g l
  total_le f g [] h = omega arith
  total_le f g (x ∷ xs) h = let r = total_le f g xs (λ k v e. h (suc k) v e) in let q = h 0 x refl in omega arith

  total_none : (f : A → ℕ) (l : List A) → ((j : ℕ) (w : A) → get_elem? l j ≡ some w → f w ≡ 0) → total f l ≡ 0
  total_none f [] h = refl
  total_none f (x ∷ xs) h = let r = total_none f xs (λ j w b. h (suc j) w b) in let q = h 0 x refl in omega arith

  -- if f is 0 at all members but one, its total is its value there
  pub total_alone : (f : A → ℕ) (l : List A) (k : ℕ) (v : A) → get_elem? l k ≡ some v → ((j : ℕ) (w : A) → j ≢ k → get_elem? l j ≡ some w → f w ≡ 0) → total f l ≡ f v
  total_alone f [] k v e h = absurd (some-ne-none v (sym e))
  total_alone f (x ∷ xs) zero v e h = let q : f x ≡ f v = ap f (some-injective x v e) in let r = total_none f xs (λ j w b. h (suc j) w (λ z. omega arith) b) in omega arith
  total_alone f (x ∷ xs) (suc k) v e h = let r = total_alone f xs k v e (λ j w n b. h (suc j) w (λ z. n (omega arith)) b) in let q = h 0 x (λ z. omega arith) refl in omega arith
