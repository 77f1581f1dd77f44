-- What is shown is in the order of places, and what waits keeps ascending.
use Rattle.std.proofs.Common.{◌≡◌, ap, refl, ℕ, suc, List, [], ◌∷◌, ◌++◌, ◌<◌, ◌≤◌, Bool, true, false, cond, map, arith}
use Rattle.std.specs.Prelude.{All, filter, nat_lt, nat_le, if◌then◌else◌}
use Rattle.std.specs.List.{AllByRecursion, AllPairs, flat_map}
use Rattle.std.specs.declared.cmp.Ordering.{Ordering}
use Rattle.std.specs.declared.cmp.Ordering.TheVariants.{Less}
use Rattle.std.specs.Ordering.{is_gt, nat_cmp, ordering_then}
use Rattle.std.proofs.lemmas.Bool.Decides.{nat_tests}
use Rattle.std.proofs.lemmas.List.Elements.{All-append, All-cons, All-head, All-map, All-nil, All-tail, All-weaker, All-from_recursion, recursion_from_All}
use Rattle.std.proofs.lemmas.List.Kept.{AllPairs-cons, AllPairs-filter}
use Rattle.ksql_place.specs.Ascending.{ascending, placed, Rises}
use Rattle.ksql_place.specs.Order.{place_cmp}
use Rattle.ksql_place.specs.Routing.{change_cmp}
use Rattle.ksql_place.specs.declared.change.Change.{Change}
use Rattle.ksql_place.specs.declared.stamp.Place.{Place}
use Rattle.ksql_place.proofs.Ascending.{Ascends, Ascends-ascending}
use Rattle.core_state.specs.Routes.{merged}
use Rattle.core_state.specs.State.{after, feed_of, upto}
use Rattle.core_state.specs.declared.log.LogEntry.{LogEntry}
use Rattle.core_state.specs.declared.log.LogEntry.TheVariants.{Said}
use Rattle.topic_log.specs.Order.{IsInPlaceOrder, feed_in, place_of}
use Rattle.topic_log.specs.Shelves.{Waits}
use Rattle.topic_log.proofs.Choice.{change_total}

-- ---- pairs

module _ {A : Type 0} (R : A → A → Type 0) where
  pairs-head : (x : A) (xs : List A) → AllPairs R (x ∷ xs) → All (R x) xs
  pairs-head x xs pairs = λ k d below. pairs 0 (suc k) d (omega arith) (omega (arith, below))

  pub pairs-tail : (x : A) (xs : List A) → AllPairs R (x ∷ xs) → AllPairs R xs
  pairs-tail x xs pairs = λ i j d low below. pairs (suc i) (suc j) d (omega (arith, low)) (omega (arith, below))

  pairs-nil : AllPairs R []
  pairs-nil = λ i j d low below. absurd (omega (arith, below))

  pub AllPairs-append : (xs ys : List A) → AllPairs R xs → AllPairs R ys → All (λ x. All (R x) ys) xs → AllPairs R (xs ++ ys)
  AllPairs-append [] ys first second both = second
  AllPairs-append (x ∷ xs) ys first second both =
      AllPairs-cons R x (xs ++ ys)
      (All-append (R x) xs ys (pairs-head x xs first) (All-head (λ x. All (R x) ys) x xs both))
      (AllPairs-append xs ys (pairs-tail x xs first) second (All-tail (λ x. All (R x) ys) x xs both))

-- ---- orders

nat_less : (m n : ℕ) → m < n → nat_cmp m n ≡ Less
nat_less m n low = grind (arith, nat_tests)

first_less : (o p q : Ordering) → o ≡ Less → ordering_then (ordering_then o p) q ≡ Less
first_less o p q is = ap (λ (k : Ordering). ordering_then (ordering_then k p) q) is

-- a place of an earlier feed is before one of a later feed
place_less : (a b : Place) → a.stamp.feed < b.stamp.feed → place_cmp a b ≡ Less
place_less a b low = first_less (nat_cmp a.stamp.feed b.stamp.feed) _ _ (nat_less a.stamp.feed b.stamp.feed low)

pub change_less : (x y : Change) → feed_of x < feed_of y → change_cmp x y ≡ Less
change_less x y low = place_less x.place y.place low

-- a list that rises ascends
pub Ascends-from_rises : {A : Type 0} (cmp : A → A → Ordering) (xs : List A) → Rises cmp xs → Ascends cmp xs
Ascends-from_rises cmp [] up = tt
Ascends-from_rises cmp (x ∷ xs) up = (
  recursion_from_All (λ y. is_gt (cmp x y) ≡ false) xs (λ i d below. ap is_gt (up 0 (suc i) d (omega arith) (omega (arith, below)))),
  Ascends-from_rises cmp xs (λ i j d low below. up (suc i) (suc j) d (omega (arith, low)) (omega (arith, below))),
)

-- ---- what waits

-- what is of the feeds of a commit waits after what waited before
pub waits_more : (closed done to : ℕ) (xs ys : List Change) → closed ≤ done → done < to → Waits closed done xs → Rises change_cmp ys → All (λ y. (done < feed_of y) × (feed_of y ≤ to)) ys → Waits closed to (xs ++ ys)
waits_more closed done to xs ys low high waits rises within = (
  AllPairs-append (λ a b. change_cmp a b ≡ Less) xs ys waits.0 rises
      (All-weaker (λ x. (closed < feed_of x) × (feed_of x ≤ done)) (λ x. All (λ y. change_cmp x y ≡ Less) ys)
      (λ x h. All-weaker (λ y. (done < feed_of y) × (feed_of y ≤ to)) (λ y. change_cmp x y ≡ Less) (λ y k. change_less x y (omega (arith, h.1, k.0))) ys within) xs waits.1),
  All-append (λ x. (closed < feed_of x) × (feed_of x ≤ to)) xs ys
      (All-weaker (λ x. (closed < feed_of x) × (feed_of x ≤ done)) (λ x. (closed < feed_of x) × (feed_of x ≤ to)) (λ x h. (h.0, omega (arith, h.1, high))) xs waits.1)
      (All-weaker (λ y. (done < feed_of y) × (feed_of y ≤ to)) (λ x. (closed < feed_of x) × (feed_of x ≤ to)) (λ x h. (omega (arith, h.0, low), h.1)) ys within),
)

lt_from : (m n : ℕ) → nat_lt m n ≡ true → m < n
lt_from m n h = grind (arith, nat_tests)

le_from : (m n : ℕ) → nat_le m n ≡ true → m ≤ n
le_from m n h = grind (arith, nat_tests)

-- what a filter keeps passes its test, besides what held before
pub filter-both : {A : Type 0} (p : A → Bool) (P Q : A → Type 0) → ((x : A) → p x ≡ true → P x → Q x) → (xs : List A) → All P xs → All Q (filter p xs)
filter-both p P Q more [] all = All-nil Q
filter-both {A} p P Q more (x ∷ xs) all = by (p x) refl (All-head P x xs all) (filter-both p P Q more xs (All-tail P x xs all))
  where
    by : (k : Bool) → p x ≡ k → P x → All Q (filter p xs) → All Q (cond k (x ∷ filter p xs) (filter p xs))
    by true passes here rest = All-cons Q x (filter p xs) (more x passes here) rest
    by false fails here rest = rest

-- what waits after a closed feed still waits
pub waits_after : (closed now done : ℕ) (xs : List Change) → Waits closed done xs → Waits now done (after now xs)
waits_after closed now done xs waits = (
  AllPairs-filter (λ a b. change_cmp a b ≡ Less) (λ x. nat_lt now (feed_of x)) xs waits.0,
  filter-both (λ x. nat_lt now (feed_of x)) (λ x. (closed < feed_of x) × (feed_of x ≤ done)) (λ x. (now < feed_of x) × (feed_of x ≤ done))
      (λ x passes h. (lt_from now (feed_of x) passes, h.1)) xs waits.1,
)

-- ---- what is shown

All-placed : (P : Change → Type 0) (a : Change) (bs : List Change) → P a → All P bs → All P (placed change_cmp a bs)
All-placed P a [] h k = All-cons P a [] h (All-nil P)
All-placed P a (b ∷ bs) h k = by (is_gt (change_cmp a b)) (All-placed P a bs h (All-tail P b bs k))
  where
    by : (up : Bool) → All P (placed change_cmp a bs) → All P (if up then b ∷ placed change_cmp a bs else a ∷ b ∷ bs)
    by true rest = All-cons P b (placed change_cmp a bs) (All-head P b bs k) rest
    by false rest = All-cons P a (b ∷ bs) h k

All-ascending : (P : Change → Type 0) (bs : List Change) → All P bs → All P (ascending change_cmp bs)
All-ascending P [] h = h
All-ascending P (b ∷ bs) h = All-placed P b (ascending change_cmp bs) (All-head P b bs h) (All-ascending P bs (All-tail P b bs h))

-- a property of all members of all lists holds of those that are merged
All-merged : (closed now : ℕ) (ls : List (List Change)) → AllByRecursion (λ xs. All (λ x. closed < feed_of x) xs) ls → All (λ x. (closed < feed_of x) × (feed_of x ≤ now)) (merged (map (upto now) ls))
All-merged closed now ls later = All-ascending (λ x. (closed < feed_of x) × (feed_of x ≤ now)) (flat_map (λ xs. xs) (map (upto now) ls)) (by ls later)
  where
    by : (ls : List (List Change)) → AllByRecursion (λ xs. All (λ x. closed < feed_of x) xs) ls → All (λ x. (closed < feed_of x) × (feed_of x ≤ now)) (flat_map (λ xs. xs) (map (upto now) ls))
    by [] later = All-nil (λ x. (closed < feed_of x) × (feed_of x ≤ now))
    by (xs ∷ ls) later =
        All-append (λ x. (closed < feed_of x) × (feed_of x ≤ now)) (upto now xs) (flat_map (λ xs. xs) (map (upto now) ls))
        (filter-both (λ x. nat_le (feed_of x) now) (λ x. closed < feed_of x) (λ x. (closed < feed_of x) × (feed_of x ≤ now)) (λ x passes h. (h, le_from (feed_of x) now passes)) xs later.0)
        (by ls later.1)

-- changes that ascend are in place order as entries
in_order-said : (xs : List Change) → Ascends change_cmp xs → IsInPlaceOrder (map Said xs)
in_order-said [] up = pairs-nil (λ x y. is_gt (place_cmp (place_of x) (place_of y)) ≡ false)
in_order-said (x ∷ xs) up =
    AllPairs-cons (λ x y. is_gt (place_cmp (place_of x) (place_of y)) ≡ false) (Said x) (map Said xs)
    (All-map (λ y. is_gt (place_cmp x.place (place_of y)) ≡ false) Said xs (All-from_recursion (λ y. is_gt (change_cmp x y) ≡ false) xs up.0))
    (in_order-said xs up.1)

-- what is shown of later feeds comes after what was shown
pub in_order_more : (closed now : ℕ) (shown : List LogEntry) (ls : List (List Change)) → IsInPlaceOrder shown → All (λ x. feed_in x ≤ closed) shown → AllByRecursion (λ xs. All (λ x. closed < feed_of x) xs) ls →
    IsInPlaceOrder (shown ++ map Said (merged (map (upto now) ls)))
in_order_more closed now shown ls in_order is_closed later =
    let ms = merged (map (upto now) ls) in
    let all : All (λ x. (closed < feed_of x) × (feed_of x ≤ now)) ms = All-merged closed now ls later in
    AllPairs-append (λ x y. is_gt (place_cmp (place_of x) (place_of y)) ≡ false) shown (map Said ms) in_order (in_order-said ms (Ascends-ascending change_total (flat_map (λ xs. xs) (map (upto now) ls))))
    (All-weaker (λ x. feed_in x ≤ closed) (λ x. All (λ y. is_gt (place_cmp (place_of x) (place_of y)) ≡ false) (map Said ms))
    (λ x low. All-map (λ y. is_gt (place_cmp (place_of x) (place_of y)) ≡ false) Said ms
    (All-weaker (λ y. (closed < feed_of y) × (feed_of y ≤ now)) (λ y. is_gt (place_cmp (place_of x) y.place) ≡ false)
    (λ y h. ap is_gt (place_less (place_of x) y.place (omega (arith, low, h.0)))) ms all)) shown is_closed)

-- and it is closed
pub closed_more : (closed now : ℕ) (shown : List LogEntry) (ls : List (List Change)) → closed ≤ now → All (λ x. feed_in x ≤ closed) shown → AllByRecursion (λ xs. All (λ x. closed < feed_of x) xs) ls →
    All (λ x. feed_in x ≤ now) (shown ++ map Said (merged (map (upto now) ls)))
closed_more closed now shown ls up is_closed later =
    let ms = merged (map (upto now) ls) in
    All-append (λ x. feed_in x ≤ now) shown (map Said ms)
    (All-weaker (λ x. feed_in x ≤ closed) (λ x. feed_in x ≤ now) (λ x low. omega (arith, low, up)) shown is_closed)
    (All-map (λ x. feed_in x ≤ now) Said ms (All-weaker (λ x. (closed < feed_of x) × (feed_of x ≤ now)) (λ x. feed_of x ≤ now) (λ x h. h.1) ms (All-merged closed now ls later)))
