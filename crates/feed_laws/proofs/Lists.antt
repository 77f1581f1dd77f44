-- Properties of each member of a list, and of any two of them.
use Rattle.std.proofs.Common.{suc, List, [], ◌∷◌, ◌++◌, true, false, map, arith}
use Rattle.std.specs.Prelude.{if◌then◌else◌}
use Rattle.std.specs.List.{AllByRecursion, AllPairs, flat_map}
use Rattle.std.specs.Ordering.{is_gt}
use Rattle.std.specs.declared.cmp.Ordering.{Ordering}
use Rattle.std.proofs.lemmas.List.Elements.{All-from_recursion, recursion_from_All}
use Rattle.std.proofs.lemmas.List.Kept.{AllPairs-cons}
use Rattle.ksql_place.specs.Ascending.{ascending, placed}

-- ---- each member

module _ {A : Type 0} where
  pub each-weaker : (P Q : A → Type 0) → ((a : A) → P a → Q a) → (xs : List A) → AllByRecursion P xs → AllByRecursion Q xs
  each-weaker P Q to [] each = tt
  each-weaker P Q to (a ∷ xs) each = (to a each.0, each-weaker P Q to xs each.1)

  each-append : (P : A → Type 0) (us vs : List A) → AllByRecursion P us → AllByRecursion P vs → AllByRecursion P (us ++ vs)
  each-append P [] vs on-us on-vs = on-vs
  each-append P (u ∷ us) vs on-us on-vs = (on-us.0, each-append P us vs on-us.1 on-vs)

  pub each-flat_map : {B : Type 0} (P : A → Type 0) (Q : B → Type 0) (f : B → List A) → ((b : B) → Q b → AllByRecursion P (f b)) →
      (bs : List B) → AllByRecursion Q bs → AllByRecursion P (flat_map f bs)
  each-flat_map P Q f to [] each = tt
  each-flat_map P Q f to (b ∷ bs) each = each-append P (f b) (flat_map f bs) (to b each.0) (each-flat_map P Q f to bs each.1)

-- ---- any two members

-- any two members are related, the earlier one first
abbrev pub Pairwise : {A : Type 0} → (A → A → Type 0) → List A → Type 0
Pairwise R [] = Unit {0}
Pairwise R (a ∷ bs) = AllByRecursion (R a) bs × Pairwise R bs

module _ {A : Type 0} where
  pub AllPairs-from_pairwise : (R : A → A → Type 0) (xs : List A) → Pairwise R xs → AllPairs R xs
  AllPairs-from_pairwise R [] related = λ i j d less below. absurd (omega arith)
  AllPairs-from_pairwise R (a ∷ xs) related = AllPairs-cons R a xs (All-from_recursion (R a) xs related.0) (AllPairs-from_pairwise R xs related.1)

  pub pairwise-from_AllPairs : (R : A → A → Type 0) (xs : List A) → AllPairs R xs → Pairwise R xs
  pairwise-from_AllPairs R [] related = tt
  pairwise-from_AllPairs R (a ∷ xs) related = (
    recursion_from_All (R a) xs (λ k d below. related 0 (suc k) d (omega arith) (omega (arith, below))),
    pairwise-from_AllPairs R xs (λ i j d less below. related (suc i) (suc j) d (omega (arith, less)) (omega (arith, below))),
  )

  pub pairwise-weaker : (R S : A → A → Type 0) → ((a b : A) → R a b → S a b) → (xs : List A) → Pairwise R xs → Pairwise S xs
  pairwise-weaker R S to [] related = tt
  pairwise-weaker R S to (a ∷ xs) related = (each-weaker (R a) (S a) (to a) xs related.0, pairwise-weaker R S to xs related.1)

  pub pairwise-append : (R : A → A → Type 0) (us vs : List A) → Pairwise R us → Pairwise R vs → AllByRecursion (λ u. AllByRecursion (R u) vs) us → Pairwise R (us ++ vs)
  pairwise-append R [] vs on-us on-vs across = on-vs
  pairwise-append R (u ∷ us) vs on-us on-vs across = (each-append (R u) us vs on-us.0 across.0, pairwise-append R us vs on-us.1 on-vs across.1)

  each-map : {B : Type 0} (P : B → Type 0) (f : A → B) (xs : List A) → AllByRecursion (λ a. P (f a)) xs → AllByRecursion P (map f xs)
  each-map P f [] each = tt
  each-map P f (a ∷ xs) each = (each.0, each-map P f xs each.1)

  pub pairwise-map : {B : Type 0} (R : B → B → Type 0) (f : A → B) (xs : List A) → Pairwise (λ a b. R (f a) (f b)) xs → Pairwise R (map f xs)
  pairwise-map R f [] related = tt
  pairwise-map R f (a ∷ xs) related = (each-map (R (f a)) f xs related.0, pairwise-map R f xs related.1)

  -- ---- in order

  module _ (cmp : A → A → Ordering) where
    each-placed : (P : A → Type 0) (a : A) (bs : List A) → P a → AllByRecursion P bs → AllByRecursion P (placed cmp a bs)
    each-placed P a [] is each = (is, tt)
    each-placed P a (b ∷ bs) is each =
        elim (is_gt (cmp a b)) as (λ up. AllByRecursion P (if up then b ∷ placed cmp a bs else a ∷ b ∷ bs))
        [ true ↦ (each.0, each-placed P a bs is each.1) | false ↦ (is, each) ]

    pub each-ascending : (P : A → Type 0) (xs : List A) → AllByRecursion P xs → AllByRecursion P (ascending cmp xs)
    each-ascending P [] each = tt
    each-ascending P (a ∷ xs) each = each-placed P a (ascending cmp xs) each.0 (each-ascending P xs each.1)

    module _ (R : A → A → Type 0) (turned : (a b : A) → R a b → R b a) where
      pairwise-placed : (a : A) (bs : List A) → AllByRecursion (R a) bs → Pairwise R bs → Pairwise R (placed cmp a bs)
      pairwise-placed a [] first rest = (tt, tt)
      pairwise-placed a (b ∷ bs) first rest =
          elim (is_gt (cmp a b)) as (λ up. Pairwise R (if up then b ∷ placed cmp a bs else a ∷ b ∷ bs))
          [ true ↦ (each-placed (R b) a bs (turned a b first.0) rest.0, pairwise-placed a bs first.1 rest.1) | false ↦ (first, rest) ]

      pub pairwise-ascending : (xs : List A) → Pairwise R xs → Pairwise R (ascending cmp xs)
      pairwise-ascending [] related = tt
      pairwise-ascending (a ∷ xs) related = pairwise-placed a (ascending cmp xs) (each-ascending (R a) xs related.0) (pairwise-ascending xs related.1)
