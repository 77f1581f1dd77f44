-- Places that rise, and of which under one stamp no path is a prefix of another, stand before one another by paths
-- that fork.
use Rattle.std.proofs.Common.{◌≡◌, ap, refl, subst, ℕ, ◌<◌, List, [], ◌∷◌, ◌++◌, inl, inr, arith}
use Rattle.std.specs.Prelude.{◌⊎◌}
use Rattle.std.specs.Cmp.Lexicographic.{slice_cmp}
use Rattle.std.specs.Ordering.{nat_cmp, ordering_then}
use Rattle.std.specs.declared.cmp.Ordering.{Ordering}
use Rattle.std.specs.declared.cmp.Ordering.TheVariants.{Less, Equal, Greater}
use Rattle.std.proofs.lemmas.Bool.Decides.{nat_tests}
use Rattle.ksql_place.specs.Order.{place_cmp, stamp_cmp}
use Rattle.ksql_place.specs.declared.change.Change.{Change}
use Rattle.ksql_place.specs.declared.stamp.Place.{Place}
use Rattle.ksql_place.proofs.Orders.{stamp_cmp-equal}
use Rattle.meaning_laws.specs.Places.{ArePlaced, IsProperPrefix}
use Rattle.meaning_laws.proofs.Forks.{Forks, IsBefore, Rise}
use Rattle.meaning_laws.proofs.Lists.{Pairwise-both, Pairwise-from_all, Pairwise-weaker}

less-forks : (xs ys : List ℕ) → slice_cmp nat_cmp xs ys ≡ Less → (IsProperPrefix xs ys → ⊥) → Forks xs ys
less-forks [] [] is apart = cc
less-forks [] (y ∷ ys) is apart = apart (y, ys, refl)
less-forks (x ∷ xs) [] is apart = cc
less-forks (x ∷ xs) (y ∷ ys) is apart = by (nat_cmp x y) refl is (less-forks xs ys)
  where
    by : (o : Ordering) → nat_cmp x y ≡ o → ordering_then o (slice_cmp nat_cmp xs ys) ≡ Less → (slice_cmp nat_cmp xs ys ≡ Less → (IsProperPrefix xs ys → ⊥) → Forks xs ys) →
        (x < y) ⊎ ((x ≡ y) × Forks xs ys)
    by Less test less rest = inl (grind (arith, nat_tests))
    by Equal test less rest =
        let same : x ≡ y = grind (arith, nat_tests) in
        inr (same, rest less (λ longer. apart (longer.0, longer.1, subst (λ z. z ∷ ys ≡ x ∷ (xs ++ longer.0 ∷ longer.1)) same (ap (λ rest. x ∷ rest) longer.2))))
    by Greater test less rest = cc

pub less-before : (a b : Place) → place_cmp a b ≡ Less → (a.stamp ≡ b.stamp → (IsProperPrefix a.path b.path → ⊥) × (IsProperPrefix b.path a.path → ⊥)) → IsBefore a b
less-before a b is forked = by (stamp_cmp a.stamp b.stamp) refl is
  where
    by : (o : Ordering) → stamp_cmp a.stamp b.stamp ≡ o → ordering_then o (slice_cmp nat_cmp a.path b.path) ≡ Less → IsBefore a b
    by Less test less = inl test
    by Equal test less = let same = stamp_cmp-equal a.stamp b.stamp test in inr (same, less-forks a.path b.path less (forked same).0)
    by Greater test less = cc

pub placed-rise : (changes : List Change) → ArePlaced changes → Rise changes
placed-rise changes placed =
    Pairwise-weaker
    (λ c d. (place_cmp c.place d.place ≡ Less) × (c.place.stamp ≡ d.place.stamp → (IsProperPrefix c.place.path d.place.path → ⊥) × (IsProperPrefix d.place.path c.place.path → ⊥)))
    (λ c d. IsBefore c.place d.place) (λ c d h. less-before c.place d.place h.0 h.1) changes
    (Pairwise-both (λ c d. place_cmp c.place d.place ≡ Less) (λ c d. c.place.stamp ≡ d.place.stamp → (IsProperPrefix c.place.path d.place.path → ⊥) × (IsProperPrefix d.place.path c.place.path → ⊥)) changes
    (Pairwise-from_all (λ c d. place_cmp c.place d.place ≡ Less) changes placed.0)
    (Pairwise-from_all (λ c d. c.place.stamp ≡ d.place.stamp → (IsProperPrefix c.place.path d.place.path → ⊥) × (IsProperPrefix d.place.path c.place.path → ⊥)) changes placed.1))
