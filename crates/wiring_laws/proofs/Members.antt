-- Members of lists, by their places.
use Rattle.std.proofs.Common.{◌≡◌, ap, refl, sym, subst, ℕ, zero, suc, ◌<◌, List, [], ◌∷◌, ◌++◌, length, map, inl, inr, arith}
use Rattle.std.proofs.lemmas.List.Elements.{Contains-append_cases, Contains-append_left, Contains-append_right}
use Rattle.std.proofs.lemmas.Option.{none-some, same_Some}
use Rattle.std.specs.Prelude.{◌⊎◌, Contains, Some, flat_map, slice_get}
use Rattle.std.specs.List.{AllByRecursion}
use Rattle.core_state.proofs.Lists.{Contains-here, Contains-next}
use Rattle.core_state.proofs.Staging.{Contains-cases}

pub no-member : {A : Type 0} (x : A) → Contains [] x → ⊥
no-member x among = omega (arith, among.1)

pub member-map : {A B : Type 0} (f : A → B) (xs : List A) (y : B) → Contains (map f xs) y → (x : A) × Contains xs x × (f x ≡ y)
member-map f [] y among = absurd (no-member y among)
member-map {A} f (x ∷ xs) y among = by (Contains-cases (f x) (map f xs) y among) (member-map f xs y)
  where
    by : (f x ≡ y) ⊎ Contains (map f xs) y → (Contains (map f xs) y → (z : A) × Contains xs z × (f z ≡ y)) → (z : A) × Contains (x ∷ xs) z × (f z ≡ y)
    by (inl same) rest = (x, Contains-here x xs, same)
    by (inr later) rest = let found = rest later in (found.0, Contains-next x found.0 xs found.1, found.2)

pub map-member : {A B : Type 0} (f : A → B) (xs : List A) (x : A) → Contains xs x → Contains (map f xs) (f x)
map-member f [] x among = absurd (no-member x among)
map-member f (y ∷ xs) x among = by (Contains-cases y xs x among) (map-member f xs x)
  where
    by : (y ≡ x) ⊎ Contains xs x → (Contains xs x → Contains (map f xs) (f x)) → Contains (f y ∷ map f xs) (f x)
    by (inl same) rest = subst (λ z. Contains (f y ∷ map f xs) (f z)) same (Contains-here (f y) (map f xs))
    by (inr later) rest = Contains-next (f y) (f x) (map f xs) (rest later)

pub member-flat : {A B : Type 0} (f : A → List B) (xs : List A) (y : B) → Contains (flat_map f xs) y → (x : A) × Contains xs x × Contains (f x) y
member-flat f [] y among = absurd (no-member y among)
member-flat {A} f (x ∷ xs) y among = by (Contains-append_cases (f x) (flat_map f xs) y among) (member-flat f xs y)
  where
    by : Contains (f x) y ⊎ Contains (flat_map f xs) y → (Contains (flat_map f xs) y → (z : A) × Contains xs z × Contains (f z) y) → (z : A) × Contains (x ∷ xs) z × Contains (f z) y
    by (inl here) rest = (x, Contains-here x xs, here)
    by (inr later) rest = let found = rest later in (found.0, Contains-next x found.0 xs found.1, found.2)

pub flat-member : {A B : Type 0} (f : A → List B) (xs : List A) (x : A) (y : B) → Contains xs x → Contains (f x) y → Contains (flat_map f xs) y
flat-member f [] x y among has = absurd (no-member x among)
flat-member f (z ∷ xs) x y among has = by (Contains-cases z xs x among) (λ later. flat-member f xs x y later has)
  where
    by : (z ≡ x) ⊎ Contains xs x → (Contains xs x → Contains (flat_map f xs) y) → Contains (f z ++ flat_map f xs) y
    by (inl same) rest = Contains-append_left (f z) (flat_map f xs) y (subst (λ a. Contains (f a) y) (sym same) has)
    by (inr later) rest = Contains-append_right (f z) (flat_map f xs) y (rest later)

-- ---- places

pub member-at : {A : Type 0} (xs : List A) (x : A) → Contains xs x → (k : ℕ) × (slice_get xs k ≡ Some x)
member-at [] x among = absurd (no-member x among)
member-at (y ∷ xs) x among = by (Contains-cases y xs x among) (member-at xs x)
  where
    by : (y ≡ x) ⊎ Contains xs x → (Contains xs x → (k : ℕ) × (slice_get xs k ≡ Some x)) → (k : ℕ) × (slice_get (y ∷ xs) k ≡ Some x)
    by (inl same) rest = (0, ap Some same)
    by (inr later) rest = let found = rest later in (suc found.0, found.1)

pub at-member : {A : Type 0} (xs : List A) (k : ℕ) (x : A) → slice_get xs k ≡ Some x → Contains xs x
at-member [] k x is = absurd (none-some x is)
at-member (y ∷ xs) zero x is = subst (Contains (y ∷ xs)) (same_Some y x is) (Contains-here y xs)
at-member (y ∷ xs) (suc k) x is = Contains-next y x xs (at-member xs k x is)

pub some-at : {A : Type 0} (xs : List A) (k : ℕ) → k < length xs → (x : A) × (slice_get xs k ≡ Some x)
some-at [] k low = absurd (omega (arith, low))
some-at (y ∷ xs) zero low = (y, refl)
some-at (y ∷ xs) (suc k) low = some-at xs k (omega (arith, low))

pub all-by_place : {A : Type 0} (P : A → Type 0) (xs : List A) → ((k : ℕ) (x : A) → slice_get xs k ≡ Some x → P x) → AllByRecursion P xs
all-by_place P [] each = tt
all-by_place P (x ∷ xs) each = (each 0 x refl, all-by_place P xs (λ k y is. each (suc k) y is))
