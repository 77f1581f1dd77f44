-- The members of each number, one number after another and then in order, are the whole list.
use Rattle.std.proofs.Common.{◌≡◌, ◌∙◌, ap, ap₂, refl, sym, subst, ℕ, zero, suc, ◌+◌, ◌<◌, List, [], ◌∷◌, ◌++◌, length, map, Bool, true, false, cond, arith}
use Rattle.std.proofs.lemmas.Bool.Decides.{nat_tests}
use Rattle.std.specs.Prelude.{◌==◌, ◌&&◌, Some, filter, flat_map, nat_lt, slice_get}
use Rattle.std.specs.List.{AllByRecursion, range_with_len}
use Rattle.std.specs.declared.cmp.Ordering.{Ordering}
use Rattle.std.specs.Cmp.{IsTotalOrder}
use Rattle.ksql_place.specs.Ascending.{ascending}
use Rattle.meaning_laws.proofs.Lists.{Pairwise}
use Rattle.lane_laws.proofs.Gathering.{IsBelow, gathered}
use Rattle.core_state.proofs.Wiring.{flat_map-members}

-- ---- lists

flat-one : {A : Type 0} (xs : List A) → flat_map (λ x. x ∷ []) xs ≡ xs
flat-one [] = refl
flat-one {A} (x ∷ xs) = ap (λ (rest : List A). x ∷ rest) (flat-one xs)

pub filter-members : {A : Type 0} (p q : A → Bool) (xs : List A) → AllByRecursion (λ x. p x ≡ q x) xs → filter p xs ≡ filter q xs
filter-members p q [] same = refl
filter-members {A} p q (x ∷ xs) same = ap₂ (λ (b : Bool) (rest : List A). cond b (x ∷ rest) rest) same.0 (filter-members p q xs same.1)

pub map-each : {A B : Type 0} (f g : A → B) (xs : List A) → AllByRecursion (λ x. f x ≡ g x) xs → map f xs ≡ map g xs
map-each f g [] same = refl
map-each {A} {B} f g (x ∷ xs) same = ap₂ (λ (y : B) (rest : List B). y ∷ rest) same.0 (map-each f g xs same.1)

pub map-again : {A B C : Type 0} (f : B → C) (g : A → B) (xs : List A) → map f (map g xs) ≡ map (λ x. f (g x)) xs
map-again f g [] = refl
map-again {A} {B} {C} f g (x ∷ xs) = ap (λ (rest : List C). f (g x) ∷ rest) (map-again f g xs)

-- a filter of what another one keeps
pub filter-both : {A : Type 0} (p q : A → Bool) (xs : List A) → filter (λ x. p x && q x) xs ≡ filter q (filter p xs)
filter-both p q [] = refl
filter-both {A} p q (x ∷ xs) = by (p x) (filter-both p q xs)
  where
    by : (b : Bool) → filter (λ y. p y && q y) xs ≡ filter q (filter p xs) →
        cond (b && q x) (x ∷ filter (λ y. p y && q y) xs) (filter (λ y. p y && q y) xs) ≡ filter q (cond b (x ∷ filter p xs) (filter p xs))
    by true rest = ap (λ (ys : List A). cond (q x) (x ∷ ys) ys) rest
    by false rest = rest

-- what the members make is what their places make
pub flat-numbered : {A B : Type 0} (f : A → List B) (g : ℕ → List B) (first : ℕ) (xs : List A) → ((k : ℕ) (x : A) → slice_get xs k ≡ Some x → f x ≡ g (first + k)) →
    flat_map f xs ≡ flat_map g (range_with_len first (length xs))
flat-numbered f g first [] same = refl
flat-numbered {A} {B} f g first (x ∷ xs) same =
    ap₂ (λ (ys zs : List B). ys ++ zs) (same 0 x refl ∙ ap g (omega arith))
    (flat-numbered f g (first + 1) xs (λ k y at. same (suc k) y at ∙ ap g (omega arith)))

-- ---- numbers below a bound

-- a number that isn't above the greatest, and 0 in place of one that is
abbrev bounded : ℕ → ℕ → ℕ
bounded greatest k = cond (nat_lt k (suc greatest)) k 0

bounded-below : (greatest k : ℕ) → bounded greatest k < suc greatest
bounded-below greatest k = by (nat_lt k (suc greatest)) refl
  where
    by : (b : Bool) → nat_lt k (suc greatest) ≡ b → cond b k 0 < suc greatest
    by true is = grind (arith, nat_tests)
    by false is = omega arith

bounded-same : (greatest k : ℕ) → k < suc greatest → bounded greatest k ≡ k
bounded-same greatest k low = by (nat_lt k (suc greatest)) refl
  where
    by : (b : Bool) → nat_lt k (suc greatest) ≡ b → cond b k 0 ≡ k
    by true is = refl
    by false is = absurd (grind (arith, nat_tests))

-- ---- together

-- members that rise, each of a number below n: those of each number, one number after another and then in order, are
-- all of them
pub together : {A : Type 0} {cmp : A → A → Ordering} → IsTotalOrder cmp → (at : A → ℕ) (n : ℕ) (xs : List A) → AllByRecursion (λ x. at x < n) xs → Pairwise (IsBelow cmp) xs →
    ascending cmp (flat_map (λ k. filter (λ x. at x == k) xs) (range_with_len 0 n)) ≡ xs
together total at zero [] low rise = refl
together total at zero (x ∷ xs) low rise = let none = low.0 in absurd (omega (arith, none))
together {A} {cmp} total at (suc n) xs low rise =
    ap (ascending cmp) (flat_map-members (λ k. filter (λ x. at x == k) xs) (λ k. flat_map (λ x. x ∷ []) (filter (λ x. bounded n (at x) == k) xs)) (range_with_len 0 (suc n)) (λ k among. of-one k))
    ∙ gathered (λ x. bounded n (at x)) (λ x. x ∷ []) total (suc n) (λ x. bounded-below n (at x)) xs (subst (Pairwise (IsBelow cmp)) (sym (flat-one xs)) rise)
    ∙ flat-one xs
  where
    same : (k : ℕ) (ys : List A) → AllByRecursion (λ x. at x < suc n) ys → AllByRecursion (λ x. (at x == k) ≡ (bounded n (at x) == k)) ys
    same k [] below = tt
    same k (y ∷ ys) below = (ap (λ m. m == k) (sym (bounded-same n (at y) below.0)), same k ys below.1)

    of-one : (k : ℕ) → filter (λ x. at x == k) xs ≡ flat_map (λ x. x ∷ []) (filter (λ x. bounded n (at x) == k) xs)
    of-one k =
        filter-members (λ x. at x == k) (λ x. bounded n (at x) == k) xs (same k xs low)
        ∙ sym (flat-one (filter (λ x. bounded n (at x) == k) xs))
