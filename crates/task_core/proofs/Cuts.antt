-- Entries in the order of their places are also in the order of their feeds, so those of some feeds are a contiguous
-- part.
use Rattle.std.proofs.Common.{◌≡◌, ◌∙◌, ap, ap₂, sym, refl, ℕ, zero, suc, List, [], ◌∷◌, ◌+◌, ◌-◌, ◌<◌, ◌≤◌, Bool, true, false, cond, length, take, drop, get_or, arith, inl, inr, ◌⊎◌}
use denote.Param.Members.{Mut}
use denote.Ref.{Bor}
use Rattle.std.specs.Prelude.{filter, nat_lt, nat_le, ◌&&◌}
use Rattle.std.specs.Fn.{Called, ComputesKey}
use Rattle.std.specs.List.{AllWithin}
use Rattle.std.specs.List.Sorted.{IsNonDecreasingBy, IsPartitionPoint, IsPartitionedBy}
use Rattle.std.proofs.lemmas.List.Sorted.{IsPartitionPoint-from_clause, IsPartitionedBy-leb}
use Rattle.std.specs.declared.cmp.Ordering.{Ordering}
use Rattle.std.specs.declared.cmp.Ordering.TheVariants.{Less, Equal, Greater}
use Rattle.std.specs.Ordering.{is_gt, nat_cmp, ordering_then}
use Rattle.std.proofs.lemmas.Bool.Decides.{nat_tests}
use Rattle.std.proofs.lemmas.List.{drop-take}
use Rattle.ksql_place.specs.Order.{place_cmp}
use Rattle.ksql_place.specs.declared.stamp.Place.{Place}
use Rattle.core_state.specs.Wired.{between, is_between, log_feed}
use Rattle.core_state.specs.declared.log.LogEntry.{LogEntry}
use Rattle.core_state.specs.declared.log.LogEntry.TheVariants.{Fed, Said}
use Rattle.topic_log.specs.Order.{IsInPlaceOrder, place_of}

-- ---- feeds

first_low : (o p : Ordering) → is_gt (ordering_then o p) ≡ false → is_gt o ≡ false
first_low Less p h = refl
first_low Equal p h = refl
first_low Greater p h = h

nat_low : (m n : ℕ) → is_gt (nat_cmp m n) ≡ false → m ≤ n
nat_low m n h = grind (arith, nat_tests)

place_feed : (x : LogEntry) → log_feed x ≡ (place_of x).stamp.feed
place_feed (Fed r) = refl
place_feed (Said c) = refl

low_place : (p q : Place) → is_gt (place_cmp p q) ≡ false → p.stamp.feed ≤ q.stamp.feed
low_place p q low = nat_low p.stamp.feed q.stamp.feed (first_low (nat_cmp p.stamp.feed q.stamp.feed) _ (first_low _ _ low))

low_feed : (x y : LogEntry) → is_gt (place_cmp (place_of x) (place_of y)) ≡ false → log_feed x ≤ log_feed y
low_feed x y low = omega (arith, place_feed x, place_feed y, low_place (place_of x) (place_of y) low)

pub IsNonDecreasing-feeds : (xs : List LogEntry) → IsInPlaceOrder xs → IsNonDecreasingBy log_feed xs
IsNonDecreasing-feeds xs up i j d le below = by (order i j)
  where
    order : (i j : ℕ) → (i < j) ⊎ ((i ≡ j) ⊎ (j < i))
    order i j = grind arith

    by : (i < j) ⊎ ((i ≡ j) ⊎ (j < i)) → log_feed (get_or xs i d) ≤ log_feed (get_or xs j d)
    by (inl front) = low_feed (get_or xs i d) (get_or xs j d) (up i j d front below)
    by (inr (inl same)) = omega (arith, ap (λ k. log_feed (get_or xs k d)) same)
    by (inr (inr back)) = absurd (omega (arith, back, le))

-- ---- one part of a list

module _ {A : Type 0} (feed : A → ℕ) where
  -- the members up to a place are of feeds up to a number, and the others are not
  pub record CutsAt (n : ℕ) (xs : List A) (place : ℕ) : Type 0 where
    pub low : AllWithin (λ x. nat_le (feed x) n ≡ true) xs 0 place
    pub high : AllWithin (λ x. nat_le (feed x) n ≡ false) xs place (length xs)
    pub within : place ≤ length xs

  CutsAt-tail : (n : ℕ) (x : A) (xs : List A) (place : ℕ) → CutsAt n (x ∷ xs) (suc place) → CutsAt n xs place
  CutsAt-tail n x xs place cut = record {
    low = λ k d from below. cut.low (suc k) d (omega arith) (omega (arith, below));
    high = λ k d from below. cut.high (suc k) d (omega (arith, from)) (omega (arith, below));
    within = let in' = cut.within in omega (arith, in');
  }

  CutsAt-rest : (n : ℕ) (x : A) (xs : List A) → CutsAt n (x ∷ xs) 0 → CutsAt n xs 0
  CutsAt-rest n x xs cut = record {
    low = λ k d from below. absurd (omega (arith, below));
    high = λ k d from below. cut.high (suc k) d (omega arith) (omega (arith, below));
    within = omega arith;
  }

  le_true : (m n : ℕ) → nat_le m n ≡ true → m ≤ n
  le_true m n h = grind (arith, nat_tests)

  le_false : (m n : ℕ) → nat_le m n ≡ false → n < m
  le_false m n h = grind (arith, nat_tests)

  lt_is : (m n : ℕ) → m < n → nat_lt m n ≡ true
  lt_is m n h = grind (arith, nat_tests)

  lt_not : (m n : ℕ) → n ≤ m → nat_lt m n ≡ false
  lt_not m n h = grind (arith, nat_tests)

  both : (p q r s : Bool) → p ≡ r → q ≡ s → (p && q) ≡ (r && s)
  both p q r s h k = ap₂ (λ (u v : Bool). u && v) h k

  gone-low : (a b : ℕ) (x : A) → nat_le (feed x) a ≡ true → is_between feed a b x ≡ false
  gone-low a b x low = ap (λ (u : Bool). u && nat_le (feed x) b) (lt_not a (feed x) (le_true (feed x) a low))

  both-false : (u : Bool) → (u && false) ≡ false
  both-false true = refl
  both-false false = refl

  gone-high : (a b : ℕ) (x : A) → nat_le (feed x) b ≡ false → is_between feed a b x ≡ false
  gone-high a b x high = ap (λ (u : Bool). nat_lt a (feed x) && u) high ∙ both-false (nat_lt a (feed x))

  kept-mid : (a b : ℕ) (x : A) → nat_le (feed x) a ≡ false → nat_le (feed x) b ≡ true → is_between feed a b x ≡ true
  kept-mid a b x low high = both (nat_lt a (feed x)) (nat_le (feed x) b) true true (lt_is a (feed x) (le_false (feed x) a low)) high

  filter-gone : (p : A → Bool) (x : A) (xs : List A) → p x ≡ false → filter p (x ∷ xs) ≡ filter p xs
  filter-gone p x xs is = ap (λ (k : Bool). cond k (x ∷ filter p xs) (filter p xs)) is

  filter-kept : (p : A → Bool) (x : A) (xs : List A) → p x ≡ true → filter p (x ∷ xs) ≡ x ∷ filter p xs
  filter-kept p x xs is = ap (λ (k : Bool). cond k (x ∷ filter p xs) (filter p xs)) is

  -- the earlier place is that of the lower number
  pub cut-order : (a b : ℕ) (xs : List A) (low high : ℕ) → a ≤ b → CutsAt a xs low → CutsAt b xs high → low ≤ high
  cut-order a b xs low high ab lows highs = by (nat_le low high) refl
    where
      from_below : (xs : List A) → CutsAt a xs low → CutsAt b xs high → high < low → ⊥
      from_below [] lows highs back = let in' = lows.within in omega (arith, in', back)
      from_below (x ∷ xs) lows highs back =
          let within = lows.within in
          let up = le_false (feed (get_or (x ∷ xs) high x)) b (highs.high high x (omega arith) (omega (arith, within, back))) in
          let down = le_true (feed (get_or (x ∷ xs) high x)) a (lows.low high x (omega arith) back) in
          omega (arith, up, down, ab)

      by : (k : Bool) → nat_le low high ≡ k → low ≤ high
      by true is = le_true low high is
      by false is = absurd (from_below xs lows highs (le_false low high is))

  -- the members of the feeds after a up to b are those from the one place to the other
  pub between-part : (a b : ℕ) (xs : List A) (low high : ℕ) → a ≤ b → CutsAt a xs low → CutsAt b xs high → between feed a b xs ≡ drop low (take high xs)
  between-part a b [] zero zero ab lows highs = refl
  between-part a b [] zero (suc high) ab lows highs = refl
  between-part a b [] (suc low) high ab lows highs = let within = lows.within in absurd (omega (arith, within))
  between-part a b (x ∷ xs) zero zero ab lows highs =
      filter-gone (is_between feed a b) x xs (gone-high a b x (highs.high 0 x (omega arith) (omega arith)))
      ∙ between-part a b xs zero zero ab (CutsAt-rest a x xs lows) (CutsAt-rest b x xs highs)
  between-part a b (x ∷ xs) zero (suc high) ab lows highs =
      filter-kept (is_between feed a b) x xs (kept-mid a b x (lows.high 0 x (omega arith) (omega arith)) (highs.low 0 x (omega arith) (omega arith)))
      ∙ ap (λ (l : List A). x ∷ l) (between-part a b xs zero high ab (CutsAt-rest a x xs lows) (CutsAt-tail b x xs high highs))
  between-part a b (x ∷ xs) (suc low) zero ab lows highs = let back = cut-order a b (x ∷ xs) (suc low) zero ab lows highs in absurd (omega (arith, back))
  between-part a b (x ∷ xs) (suc low) (suc high) ab lows highs =
      filter-gone (is_between feed a b) x xs (gone-low a b x (lows.low 0 x (omega arith) (omega arith)))
      ∙ between-part a b xs low high ab (CutsAt-tail a x xs low lows) (CutsAt-tail b x xs high highs)

  -- what a binary search returns is such a place
  pub CutsAt-from_point : (n : ℕ) (xs : List A) (place : ℕ) → place ≤ length xs →
      IsPartitionPoint (λ x. nat_le (feed x) n ≡ true) (λ x. nat_le (feed x) n ≡ false) xs place → CutsAt n xs place
  CutsAt-from_point n xs place within point = record { low = point.0; high = point.1; within = within }

  -- the same part, as it is read
  pub between-range : (a b : ℕ) (xs : List A) (low high : ℕ) → a ≤ b → CutsAt a xs low → CutsAt b xs high → take (high - low) (drop low xs) ≡ between feed a b xs
  between-range a b xs low high ab lows highs =
      let le = cut-order a b xs low high ab lows highs in
      let all : low + (high - low) ≡ high = omega (arith, le) in
      sym (drop-take low (high - low) xs) ∙ ap (λ (n : ℕ). drop low (take n xs)) all ∙ sym (between-part a b xs low high ab lows highs)

  -- what a binary search for the members up to a feed answers
  pub searched : {F : Type 0} {g : Mut F (Bor A × Unit {0}) Bool} {f : F} (n : ℕ) (xs : List A) (place : ℕ) → IsNonDecreasingBy feed xs → place ≤ length xs →
      ((p : A → Bool) → ComputesKey g p f → IsPartitionedBy p xs → IsPartitionPoint (λ x. p x ≡ true) (λ x. p x ≡ false) xs place) →
      ((a : Bor A × Unit {0}) (r : Bool) (f' : F) → Called g f a r f' → (r ≡ nat_le (feed a.0.now) n) × (f' ≡ f)) → CutsAt n xs place
  searched n xs place up within found calls =
      CutsAt-from_point n xs place within
      (IsPartitionPoint-from_clause (λ x. nat_le (feed x) n) xs place found (IsPartitionedBy-leb feed xs n up) calls)
