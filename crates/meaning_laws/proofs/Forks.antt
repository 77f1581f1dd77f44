-- Places that rise, whose paths fork under one stamp.
use Rattle.std.proofs.Common.{◌≡◌, ◌∙◌, ap, ap₂, refl, sym, subst, ℕ, ◌<◌, List, [], ◌∷◌, ◌++◌, inl, inr, arith}
use Rattle.std.specs.Prelude.{◌⊎◌}
use Rattle.std.specs.Cmp.Lexicographic.{slice_cmp}
use Rattle.std.specs.Ordering.{nat_cmp, ordering_then}
use Rattle.std.specs.declared.cmp.Ordering.TheVariants.{Less, Equal}
use Rattle.std.proofs.lemmas.Bool.Decides.{nat_tests}
use Rattle.std.proofs.lemmas.Cmp.{nat_cmp_total, tied_itself}
use Rattle.ksql_place.specs.Order.{place_cmp, stamp_cmp}
use Rattle.ksql_place.specs.declared.change.Change.{Change}
use Rattle.ksql_place.specs.declared.stamp.Place.{Place}
use Rattle.ksql_place.specs.declared.stamp.Stamp.{Stamp}
use Rattle.ksql_place.proofs.Orders.{stamp_total}
use Rattle.meaning_laws.specs.Places.{ArePlaced, IsProperPrefix}
use Rattle.meaning_laws.proofs.Lists.{Pairwise, Pairwise-weaker, all-from_pairwise}

-- both paths have first numbers that differ, and the first path's is less
abbrev pub Forks : List ℕ → List ℕ → Type 0
Forks (x ∷ xs) (y ∷ ys) = (x < y) ⊎ ((x ≡ y) × Forks xs ys)
Forks _ _ = ⊥

-- a place is before another, and under one stamp no path is a prefix of the other
abbrev pub IsBefore : Place → Place → Type 0
IsBefore a b = (stamp_cmp a.stamp b.stamp ≡ Less) ⊎ ((a.stamp ≡ b.stamp) × Forks a.path b.path)

pub forks-more : (xs ys us vs : List ℕ) → Forks xs ys → Forks (xs ++ us) (ys ++ vs)
forks-more [] ys us vs h = absurd h
forks-more (x ∷ xs) [] us vs h = absurd h
forks-more (x ∷ xs) (y ∷ ys) us vs (inl h) = inl h
forks-more (x ∷ xs) (y ∷ ys) us vs (inr h) = inr (h.0, forks-more xs ys us vs h.1)

pub forks-after : (ps xs ys : List ℕ) → Forks xs ys → Forks (ps ++ xs) (ps ++ ys)
forks-after [] xs ys h = h
forks-after (p ∷ ps) xs ys h = inr (refl, forks-after ps xs ys h)

-- each place is before all later ones
abbrev pub Rise : List Change → Type 0
Rise changes = Pairwise (λ c d. IsBefore c.place d.place) changes

-- ---- what they say of places

not-longer : (path : List ℕ) (n : ℕ) (more : List ℕ) → Forks path (path ++ n ∷ more) → ⊥
not-longer [] n more h = h
not-longer (x ∷ xs) n more (inl h) = omega arith
not-longer (x ∷ xs) n more (inr h) = not-longer xs n more h.1

not-shorter : (path : List ℕ) (n : ℕ) (more : List ℕ) → Forks (path ++ n ∷ more) path → ⊥
not-shorter [] n more h = h
not-shorter (x ∷ xs) n more (inl h) = omega arith
not-shorter (x ∷ xs) n more (inr h) = not-shorter xs n more h.1

pub stamp-itself : (a b : Stamp) → a ≡ b → stamp_cmp a b ≡ Equal
stamp-itself a b same = ap (stamp_cmp a) (sym same) ∙ tied_itself stamp_total a

pub forks-less : (xs ys : List ℕ) → Forks xs ys → slice_cmp nat_cmp xs ys ≡ Less
forks-less [] ys h = absurd h
forks-less (x ∷ xs) [] h = absurd h
forks-less (x ∷ xs) (y ∷ ys) (inl h) =
    let less : nat_cmp x y ≡ Less = grind (arith, nat_tests) in
    ap (λ o. ordering_then o (slice_cmp nat_cmp xs ys)) less
forks-less (x ∷ xs) (y ∷ ys) (inr h) =
    ap₂ (λ n o. ordering_then (nat_cmp x n) o) (sym h.0) (forks-less xs ys h.1) ∙ ap (λ o. ordering_then o Less) (tied_itself nat_cmp_total x)

pub before-less : (a b : Place) → IsBefore a b → place_cmp a b ≡ Less
before-less a b (inl less) = ap (λ o. ordering_then o (slice_cmp nat_cmp a.path b.path)) less
before-less a b (inr h) =
    ap (λ o. ordering_then o (slice_cmp nat_cmp a.path b.path)) (stamp-itself a.stamp b.stamp h.0) ∙ forks-less a.path b.path h.1

before-forks : (a b : Place) → IsBefore a b → a.stamp ≡ b.stamp → (IsProperPrefix a.path b.path → ⊥) × (IsProperPrefix b.path a.path → ⊥)
before-forks a b (inl less) same = absurd (let e = stamp-itself a.stamp b.stamp same in cc)
before-forks a b (inr h) same = (
  λ prefix. not-longer a.path prefix.0 prefix.1 (subst (Forks a.path) prefix.2 h.1),
  λ prefix. not-shorter b.path prefix.0 prefix.1 (subst (λ path. Forks path b.path) prefix.2 h.1),
)

pub rise-placed : (changes : List Change) → Rise changes → ArePlaced changes
rise-placed changes rise = (
  all-from_pairwise (λ c d. place_cmp c.place d.place ≡ Less) changes
      (Pairwise-weaker (λ c d. IsBefore c.place d.place) (λ c d. place_cmp c.place d.place ≡ Less) (λ c d. before-less c.place d.place) changes rise),
  all-from_pairwise (λ c d. c.place.stamp ≡ d.place.stamp → (IsProperPrefix c.place.path d.place.path → ⊥) × (IsProperPrefix d.place.path c.place.path → ⊥)) changes
      (Pairwise-weaker (λ c d. IsBefore c.place d.place)
      (λ c d. c.place.stamp ≡ d.place.stamp → (IsProperPrefix c.place.path d.place.path → ⊥) × (IsProperPrefix d.place.path c.place.path → ⊥))
      (λ c d. before-forks c.place d.place) changes rise),
)
