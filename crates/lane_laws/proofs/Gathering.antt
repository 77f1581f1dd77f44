-- What the parts of a list make, put in order, is what the whole list makes.
use Rattle.std.proofs.Common.{◌≡◌, ◌∙◌, ap, ap₂, refl, sym, subst, ℕ, zero, suc, ◌+◌, ◌<◌, ◌≤◌, List, [], ◌∷◌, ◌++◌, Bool, true, false, cond, append_assoc, arith}
use Rattle.std.specs.Prelude.{◌==◌, filter, flat_map, if◌then◌else◌}
use Rattle.std.specs.List.{All, AllByRecursion, range_with_len}
use Rattle.std.specs.declared.cmp.Ordering.{Ordering}
use Rattle.std.specs.declared.cmp.Ordering.TheVariants.{Less}
use Rattle.std.specs.Ordering.{is_gt, ordering_reverse}
use Rattle.std.specs.Cmp.{IsTotalOrder, unsigned_Decides}
use Rattle.std.proofs.lemmas.Bool.{false≢true}
use Rattle.std.proofs.lemmas.Bool.Decides.{nat_tests}
use Rattle.std.proofs.lemmas.List.Elements.{All-from_recursion}
use Rattle.ksql_place.specs.Ascending.{ascending, placed}
use Rattle.ksql_place.proofs.Ascending.{ascending-append}
use Rattle.ksql_nodes.proofs.Lists.{All-append}
use Rattle.meaning_laws.proofs.Lists.{All-weaker, Pairwise}

All-split : {A : Type 0} (P : A → Type 0) (xs ys : List A) → AllByRecursion P (xs ++ ys) → AllByRecursion P xs × AllByRecursion P ys
All-split P [] ys h = (tt, h)
All-split P (x ∷ xs) ys h = let rest = All-split P xs ys h.1 in ((h.0, rest.0), rest.1)

Pairwise-split : {A : Type 0} (R : A → A → Type 0) (xs ys : List A) → Pairwise R (xs ++ ys) →
    Pairwise R xs × Pairwise R ys × AllByRecursion (λ x. AllByRecursion (R x) ys) xs
Pairwise-split R [] ys h = (tt, h, tt)
Pairwise-split R (x ∷ xs) ys h =
    let first = All-split (R x) xs ys h.0 in
    let rest = Pairwise-split R xs ys h.1 in
    ((first.0, rest.0), rest.1, (first.1, rest.2))

-- ---- members that go first

-- the first is before the second
abbrev pub IsBelow : {A : Type 0} → (A → A → Ordering) → A → A → Type 0
IsBelow cmp a b = cmp a b ≡ Less

module _ {A : Type 0} {cmp : A → A → Ordering} (total : IsTotalOrder cmp) where
  first-one : (a : A) (us vs : List A) → AllByRecursion (IsBelow cmp a) us → AllByRecursion (IsBelow cmp a) vs →
      ascending cmp (us ++ a ∷ vs) ≡ a ∷ ascending cmp (us ++ vs)
  first-one a [] vs us-after vs-after =
      ascending-append total (a ∷ []) vs
      (All-from_recursion (λ u. All (λ v. is_gt (cmp u v) ≡ false) vs) (a ∷ [])
      (All-from_recursion (λ v. is_gt (cmp a v) ≡ false) vs (All-weaker (IsBelow cmp a) (λ v. is_gt (cmp a v) ≡ false) (λ v less. ap is_gt less) vs vs-after), tt))
  first-one a (u ∷ us) vs us-after vs-after =
      let up : is_gt (cmp u a) ≡ true = ap is_gt (total.antisymm u a ∙ ap ordering_reverse us-after.0) in
      ap (placed cmp u) (first-one a us vs us-after.1 vs-after)
      ∙ ap (λ b. if b then a ∷ placed cmp u (ascending cmp (us ++ vs)) else u ∷ a ∷ ascending cmp (us ++ vs)) up

  -- some in a row too
  first-ones : (firsts us vs : List A) → Pairwise (IsBelow cmp) firsts → AllByRecursion (λ a. AllByRecursion (IsBelow cmp a) (us ++ vs)) firsts →
      ascending cmp (us ++ (firsts ++ vs)) ≡ firsts ++ ascending cmp (us ++ vs)
  first-ones [] us vs rise after = refl
  first-ones (a ∷ firsts) us vs rise after =
      let both = All-split (IsBelow cmp a) us vs after.0 in
      first-one a us (firsts ++ vs) both.0 (All-append (IsBelow cmp a) firsts vs rise.0 both.1)
      ∙ ap (λ rest. a ∷ rest) (first-ones firsts us vs rise.1 after.1)

-- ---- parts by numbers

not-same : (m k : ℕ) → (m ≡ k → ⊥) → (m == k) ≡ false
not-same m k differ = grind (arith, nat_tests)

module _ {A B : Type 0} (at : A → ℕ) (f : A → List B) where
  -- what the members with one number make, and those with several numbers, number by number
  abbrev of_one : ℕ → List A → List B
  of_one k xs = flat_map f (filter (λ x. at x == k) xs)

  abbrev of_some : ℕ → ℕ → List A → List B
  of_some s n xs = flat_map (λ k. of_one k xs) (range_with_len s n)

  of_one-not : (k : ℕ) (x : A) (xs : List A) → (at x == k) ≡ false → of_one k (x ∷ xs) ≡ of_one k xs
  of_one-not k x xs isnt = ap (λ b. flat_map f (cond b (x ∷ filter (λ y. at y == k) xs) (filter (λ y. at y == k) xs))) isnt

  of_some-none : (s n : ℕ) (x : A) (xs : List A) → at x < s → of_some s n (x ∷ xs) ≡ of_some s n xs
  of_some-none s zero x xs low = refl
  of_some-none s (suc n) x xs low =
      ap₂ (λ us vs. us ++ vs) (of_one-not s x xs (not-same (at x) s (λ same. omega (arith, same, low)))) (of_some-none (s + 1) n x xs (omega (arith, low)))

  -- what a member makes is somewhere in what all the others make
  IsIn : List B → List B → List B → Type 0
  IsIn bs ys zs = (us : List B) × ((vs : List B) × ((ys ≡ us ++ vs) × (zs ≡ us ++ (bs ++ vs))))

  of_some-one : (s n : ℕ) (x : A) (xs : List A) → s ≤ at x → at x < s + n → IsIn (f x) (of_some s n xs) (of_some s n (x ∷ xs))
  unfolding IsIn
  of_some-one s zero x xs low high = absurd (omega (arith, low, high))
  of_some-one s (suc n) x xs low high = by (at x == s) refl (λ differ. of_some-one (s + 1) n x xs (omega (arith, differ, low)) (omega (arith, high)))
    where
      ours : List B
      ours = of_one s xs

      by : (b : Bool) → (at x == s) ≡ b → ((at x ≡ s → ⊥) → IsIn (f x) (of_some (s + 1) n xs) (of_some (s + 1) n (x ∷ xs))) →
          IsIn (f x) (of_some s (suc n) xs) (of_some s (suc n) (x ∷ xs))
      by true is later =
          let same : at x ≡ s = (unsigned_Decides (at x) s).0 is in (
            [],
            (
              ours ++ of_some (s + 1) n xs,
              (
                refl,
                ap₂ (λ b rest. flat_map f (cond b (x ∷ filter (λ y. at y == s) xs) (filter (λ y. at y == s) xs)) ++ rest) is (of_some-none (s + 1) n x xs (omega (arith, same)))
                    ∙ append_assoc (f x) ours (of_some (s + 1) n xs),
              ),
            ),
          )
      by false is later =
          let (us, (vs, (without, with_x))) = later (λ same. false≢true (sym is ∙ (unsigned_Decides (at x) s).1 same)) in (
            ours ++ us,
            (
              vs,
              (
                ap (λ rest. ours ++ rest) without ∙ sym (append_assoc ours us vs),
                ap₂ (λ now rest. now ++ rest) (of_one-not s x xs is) with_x ∙ sym (append_assoc ours us (f x ++ vs)),
              ),
            ),
          )

  of_some-nothing : (s n : ℕ) → of_some s n [] ≡ []
  of_some-nothing s zero = refl
  of_some-nothing s (suc n) = of_some-nothing (s + 1) n

  -- what holds of all that the members make holds of what some make
  All-of_one : (P : B → Type 0) (k : ℕ) (xs : List A) → AllByRecursion P (flat_map f xs) → AllByRecursion P (of_one k xs)
  All-of_one P k [] h = tt
  All-of_one P k (x ∷ xs) h = let both = All-split P (f x) (flat_map f xs) h in by (at x == k) both.0 (All-of_one P k xs both.1)
    where
      by : (b : Bool) → AllByRecursion P (f x) → AllByRecursion P (of_one k xs) →
          AllByRecursion P (flat_map f (cond b (x ∷ filter (λ y. at y == k) xs) (filter (λ y. at y == k) xs)))
      by true now later = All-append P (f x) (of_one k xs) now later
      by false now later = later

  All-of_some : (P : B → Type 0) (s n : ℕ) (xs : List A) → AllByRecursion P (flat_map f xs) → AllByRecursion P (of_some s n xs)
  All-of_some P s zero xs h = tt
  All-of_some P s (suc n) xs h = All-append P (of_one s xs) (of_some (s + 1) n xs) (All-of_one P s xs h) (All-of_some P (s + 1) n xs h)

  -- where what the whole list makes rises, it is what the parts make, in order
  pub gathered : {cmp : B → B → Ordering} → IsTotalOrder cmp → (n : ℕ) → ((x : A) → at x < n) → (xs : List A) → Pairwise (IsBelow cmp) (flat_map f xs) →
      ascending cmp (flat_map (λ k. flat_map f (filter (λ x. at x == k) xs)) (range_with_len 0 n)) ≡ flat_map f xs
  unfolding IsIn
  gathered {cmp} total n below [] rise = ap (ascending cmp) (of_some-nothing 0 n)
  gathered {cmp} total n below (x ∷ xs) rise =
      let low : at x < n = below x in
      let (us, (vs, (without, with_x))) = of_some-one 0 n x xs (omega arith) (omega (arith, low)) in
      let (now, later, across) = Pairwise-split (IsBelow cmp) (f x) (flat_map f xs) rise in
      let after : AllByRecursion (λ b. AllByRecursion (IsBelow cmp b) (us ++ vs)) (f x) =
      All-weaker (λ b. AllByRecursion (IsBelow cmp b) (flat_map f xs)) (λ b. AllByRecursion (IsBelow cmp b) (us ++ vs))
      (λ b h. subst (AllByRecursion (IsBelow cmp b)) without (All-of_some (IsBelow cmp b) 0 n xs h)) (f x) across in
      ap (ascending cmp) with_x ∙ first-ones total (f x) us vs now after
      ∙ ap (λ rest. f x ++ rest) (ap (ascending cmp) (sym without) ∙ gathered total n below xs later)
