-- Taking the smallest head again and again gives the stamps ascending.
use Rattle.std.proofs.Common.{◌≡◌, ◌∙◌, ap, ap₂, sym, refl, subst, ℕ, zero, suc, List, [], ◌∷◌, ◌++◌, ◌+◌, ◌<◌, ◌≤◌, Bool, true, false, cond, map, length, max, arith, inl, inr, ◌⊎◌}
use Rattle.std.specs.Prelude.{filter}
use Rattle.std.specs.List.{flat_map, AllByRecursion}
use Rattle.std.specs.declared.cmp.Ordering.{Ordering}
use Rattle.std.specs.declared.cmp.Ordering.TheVariants.{Less, Equal, Greater}
use Rattle.std.specs.Ordering.{nat_cmp, ordering_then, ordering_reverse, is_gt, is_le}
use Rattle.std.specs.Cmp.{IsTotalOrder}
use Rattle.std.proofs.lemmas.Bool.{false≢true, cases_lt}
use Rattle.std.proofs.lemmas.Bool.Decides.{nat_tests}
use Rattle.std.proofs.lemmas.Cmp.{then_total, on_total, nat_cmp_total, upto, tied_itself}
use Rattle.std.proofs.lemmas.List.Elements.{recursion_from_All, All-from_recursion}
use Rattle.ksql_place.specs.declared.stamp.Stamp.{Stamp}
use Rattle.ksql_place.specs.Ascending.{ascending}
use Rattle.ksql_place.specs.Order.{stamp_cmp}
use Rattle.ksql_place.specs.Merge.{Waiting, Queue, head_cmp, IsNoLater, Takes, here, behind, Taken, done, next}
use Rattle.ksql_place.proofs.Ascending.{NoneBefore, NoneBefore-lower, Ascends, Ascends-ascending, tied, same_by_ties, filter-tied}
use Rattle.ksql_place.proofs.Orders.{stamp_total, stamps-tied}

-- one comparison and then another
then-low : (a b : ℕ) (o : Ordering) → is_gt (ordering_then (nat_cmp a b) o) ≡ false → (a ≤ b) × (a ≡ b → is_gt o ≡ false)
then-low a b o low = (grind (arith, nat_tests), λ same. grind (arith, nat_tests))

pub low-then : (a b : ℕ) (o : Ordering) → a ≤ b → (a ≡ b → is_gt o ≡ false) → is_gt (ordering_then (nat_cmp a b) o) ≡ false
low-then a b o up rest = by (cases_lt a b)
  where
    by : (a < b) ⊎ (b ≤ a) → is_gt (ordering_then (nat_cmp a b) o) ≡ false
    by (inl less) = grind (arith, nat_tests)
    by (inr more) = let same : a ≡ b = omega arith in let low = rest same in grind (arith, nat_tests)

nat-low : (a b : ℕ) → is_gt (nat_cmp a b) ≡ false → a ≤ b
nat-low a b low = grind (arith, nat_tests)

low-nat : (a b : ℕ) → a ≤ b → is_gt (nat_cmp a b) ≡ false
low-nat a b up = grind (arith, nat_tests)

-- of two stamps of one feed, the first isn't after the second
pub record IsLow (a b : Stamp) : Type 0 where
  pub high : a.high ≤ b.high
  pub topic : a.high ≡ b.high → a.topic ≤ b.topic
  pub part : a.high ≡ b.high → a.topic ≡ b.topic → a.part ≤ b.part
  pub offset : a.high ≡ b.high → a.topic ≡ b.topic → a.part ≡ b.part → a.offset ≤ b.offset

IsLow-from_cmp : (a b : Stamp) → a.feed ≡ b.feed → is_gt (stamp_cmp a b) ≡ false → IsLow a b
IsLow-from_cmp a b feed low =
    let highs = then-low a.high b.high _ ((then-low a.feed b.feed _ low).1 feed) in
    record {
      high = highs.0;
      topic = λ high. (then-low a.topic b.topic _ (highs.1 high)).0;
      part = λ high topic. (then-low a.part b.part _ ((then-low a.topic b.topic _ (highs.1 high)).1 topic)).0;
      offset = λ high topic part. nat-low a.offset b.offset ((then-low a.part b.part _ ((then-low a.topic b.topic _ (highs.1 high)).1 topic)).1 part);
    }

pub cmp-from_low : (a b : Stamp) → a.feed ≡ b.feed → IsLow a b → is_gt (stamp_cmp a b) ≡ false
cmp-from_low a b feed low =
    low-then a.feed b.feed _ (omega arith)
    (λ _. low-then a.high b.high _ low.high
    (λ high. low-then a.topic b.topic _ (low.topic high)
    (λ topic. low-then a.part b.part _ (low.part high topic)
    (λ part. low-nat a.offset b.offset (low.offset high topic part)))))

-- the same high time, topic and partition
pub record IsRun (a b : Stamp) : Type 0 where
  pub high : a.high ≡ b.high
  pub topic : a.topic ≡ b.topic
  pub part : a.part ≡ b.part

-- the facts about a head after the stamp m was taken
pub record FitsBehind (m : Stamp) (w : Waiting) : Type 0 where
  pub feed : m.feed ≡ w.stamp.feed
  pub low : is_gt (stamp_cmp m w.stamp) ≡ false
  pub high : (w.stamp.high ≡ w.time) ⊎ IsRun m w.stamp

abbrev pub Fits : Stamp → Queue → Type 0
Fits m [] = Unit {0}
Fits m (w ∷ q) = FitsBehind m w

-- the facts about two consecutive records
pub record FollowsOn (w v : Waiting) : Type 0 where
  pub feed : w.stamp.feed ≡ v.stamp.feed
  pub high : v.stamp.high ≡ max w.stamp.high v.time
  pub topic : w.stamp.topic ≡ v.stamp.topic
  pub part : w.stamp.part ≡ v.stamp.part
  pub offset : w.stamp.offset ≤ v.stamp.offset

abbrev pub Follows : Waiting → Queue → Type 0
Follows w [] = Unit {0}
Follows w (v ∷ q) = FollowsOn w v

-- the records of one partition, with running greatest times
abbrev pub IsPart : Queue → Type 0
IsPart [] = Unit {0}
IsPart (w ∷ q) = (w.time ≤ w.stamp.high) × Follows w q × IsPart q

-- two queues aren't of one partition
abbrev pub AreApart : Queue → Queue → Type 0
AreApart [] r = Unit {0}
AreApart (w ∷ q) [] = Unit {0}
AreApart (w ∷ q) (v ∷ r) = w.stamp.topic ≡ v.stamp.topic → w.stamp.part ≡ v.stamp.part → ⊥

abbrev pub AllApart : List Queue → Type 0
AllApart [] = Unit {0}
AllApart (q ∷ qs) = AllByRecursion (AreApart q) qs × AllApart qs

-- a state of the queues after the stamp m was taken
pub record IsLeft (m : Stamp) (qs : List Queue) : Type 0 where
  pub fits : AllByRecursion (Fits m) qs
  pub parts : AllByRecursion IsPart qs
  pub apart : AllApart qs

record IsHeadLow (w h : Waiting) : Type 0 where
  time : w.time ≤ h.time
  topic : w.time ≡ h.time → w.stamp.topic ≤ h.stamp.topic
  part : w.time ≡ h.time → w.stamp.topic ≡ h.stamp.topic → w.stamp.part ≤ h.stamp.part

not_gt : (o : Ordering) → is_le o ≡ true → is_gt o ≡ false
not_gt Less low = refl
not_gt Equal low = refl
not_gt Greater low = absurd (false≢true low)

head-low : (w h : Waiting) → is_le (head_cmp w h) ≡ true → IsHeadLow w h
head-low w h le =
    let times = then-low w.time h.time _ (not_gt (head_cmp w h) le) in
    record {
      time = times.0;
      topic = λ time. (then-low w.stamp.topic h.stamp.topic _ (times.1 time)).0;
      part = λ time topic. nat-low w.stamp.part h.stamp.part ((then-low w.stamp.topic h.stamp.topic _ (times.1 time)).1 topic);
    }

-- the taken head w isn't after the head h of another partition
module _ (m : Stamp) (w h : Waiting) (w-fits : FitsBehind m w) (h-fits : FitsBehind m h)
    (w-time : w.time ≤ w.stamp.high) (h-time : h.time ≤ h.stamp.high)
    (first : is_le (head_cmp w h) ≡ true) (apart : w.stamp.topic ≡ h.stamp.topic → w.stamp.part ≡ h.stamp.part → ⊥) where
  taken-feed : w.stamp.feed ≡ h.stamp.feed
  taken-feed = sym w-fits.feed ∙ h-fits.feed

  m-low : IsLow m h.stamp
  m-low = IsLow-from_cmp m h.stamp h-fits.feed h-fits.low

  m-w : IsLow m w.stamp
  m-w = IsLow-from_cmp m w.stamp w-fits.feed w-fits.low

  taken-low : IsLow w.stamp h.stamp
  taken-low = by w-fits.high
    where
      by : (w.stamp.high ≡ w.time) ⊎ IsRun m w.stamp → IsLow w.stamp h.stamp
      by (inl own) =
          let heads = head-low w h first in
          let up : w.time ≤ h.time = heads.time in
          let times : w.stamp.high ≡ h.stamp.high → w.time ≡ h.time = λ same. omega arith in
          record {
            high = omega arith;
            topic = λ same. heads.topic (times same);
            part = λ same topic. heads.part (times same) topic;
            offset = λ same topic part. absurd (apart topic part);
          }
      by (inr run) =
          let low = m-low in
          let up : m.high ≤ h.stamp.high = low.high in
          let high : m.high ≡ w.stamp.high = run.high in
          let topics : m.topic ≡ w.stamp.topic = run.topic in
          let parts : m.part ≡ w.stamp.part = run.part in
          record {
            high = omega arith;
            topic = λ same. let at : m.topic ≤ h.stamp.topic = low.topic (high ∙ same) in omega arith;
            part = λ same topic. let at : m.part ≤ h.stamp.part = low.part (high ∙ same) (topics ∙ topic) in omega arith;
            offset = λ same topic part. absurd (apart topic part);
          }

  taken-not_after : is_gt (stamp_cmp w.stamp h.stamp) ≡ false
  taken-not_after = cmp-from_low w.stamp h.stamp taken-feed taken-low

  taken-high : (h.stamp.high ≡ h.time) ⊎ IsRun w.stamp h.stamp
  taken-high = by h-fits.high
    where
      by : (h.stamp.high ≡ h.time) ⊎ IsRun m h.stamp → (h.stamp.high ≡ h.time) ⊎ IsRun w.stamp h.stamp
      by (inl own) = inl own
      by (inr run) =
          let high-1 : m.high ≤ w.stamp.high = m-w.high in
          let high-2 : w.stamp.high ≤ h.stamp.high = taken-low.high in
          let high-3 : m.high ≡ h.stamp.high = run.high in
          let high : w.stamp.high ≡ h.stamp.high = omega arith in
          let m-high : m.high ≡ w.stamp.high = omega arith in
          let topic-1 : m.topic ≤ w.stamp.topic = m-w.topic m-high in
          let topic-2 : w.stamp.topic ≤ h.stamp.topic = taken-low.topic high in
          let topic-3 : m.topic ≡ h.stamp.topic = run.topic in
          let topic : w.stamp.topic ≡ h.stamp.topic = omega arith in
          let m-topic : m.topic ≡ w.stamp.topic = omega arith in
          let part-1 : m.part ≤ w.stamp.part = m-w.part m-high m-topic in
          let part-2 : w.stamp.part ≤ h.stamp.part = taken-low.part high topic in
          let part-3 : m.part ≡ h.stamp.part = run.part in
          let part : w.stamp.part ≡ h.stamp.part = omega arith in
          inr (record { high = high; topic = topic; part = part })

  taken-fits : FitsBehind w.stamp h
  taken-fits = record { feed = taken-feed; low = taken-not_after; high = taken-high }

-- what comes next in the taken head's own partition
pub follows-low : (w v : Waiting) → FollowsOn w v → is_gt (stamp_cmp w.stamp v.stamp) ≡ false
follows-low w v on =
    let high : v.stamp.high ≡ max w.stamp.high v.time = on.high in
    let topic : w.stamp.topic ≡ v.stamp.topic = on.topic in
    let part : w.stamp.part ≡ v.stamp.part = on.part in
    cmp-from_low w.stamp v.stamp on.feed (record { high = omega arith; topic = λ _. omega arith; part = λ _ _. omega arith; offset = λ _ _ _. on.offset })

follows-fits : (w : Waiting) (q : Queue) → Follows w q → Fits w.stamp q
follows-fits w [] on = tt
follows-fits w (v ∷ q) on = record { feed = on.feed; low = follows-low w v on; high = by (cases_lt v.time w.stamp.high) }
  where
    by : (v.time < w.stamp.high) ⊎ (w.stamp.high ≤ v.time) → (v.stamp.high ≡ v.time) ⊎ IsRun w.stamp v.stamp
    by (inl late) = let high : v.stamp.high ≡ max w.stamp.high v.time = on.high in inr (record { high = omega arith; topic = on.topic; part = on.part })
    by (inr newest) = let high : v.stamp.high ≡ max w.stamp.high v.time = on.high in inl (omega arith)

follows-apart : (w : Waiting) (q r : Queue) → Follows w q → AreApart (w ∷ q) r → AreApart q r
follows-apart w [] r on apart = tt
follows-apart w (v ∷ q) [] on apart = tt
follows-apart w (v ∷ q) (h ∷ r) on apart = λ topic part. apart (on.topic ∙ topic) (on.part ∙ part)

AreApart-sym : (q r : Queue) → AreApart q r → AreApart r q
AreApart-sym [] [] apart = tt
AreApart-sym [] (v ∷ r) apart = tt
AreApart-sym (w ∷ q) [] apart = tt
AreApart-sym (w ∷ q) (v ∷ r) apart = λ topic part. apart (sym topic) (sym part)

-- the other queues, after w was taken
others-fit : (m : Stamp) (w : Waiting) (q r : Queue) → FitsBehind m w → w.time ≤ w.stamp.high → Fits m r → IsPart r → AreApart (w ∷ q) r → IsNoLater w r → Fits w.stamp r
others-fit m w q [] w-fits w-time fits part apart first = tt
others-fit m w q (h ∷ r) w-fits w-time fits part apart first = taken-fits m w h w-fits fits w-time part.0 first apart

all-others-fit : (m : Stamp) (w : Waiting) (q : Queue) (qs : List Queue) → FitsBehind m w → w.time ≤ w.stamp.high →
    AllByRecursion (Fits m) qs → AllByRecursion IsPart qs → AllByRecursion (AreApart (w ∷ q)) qs → AllByRecursion (IsNoLater w) qs → AllByRecursion (Fits w.stamp) qs
all-others-fit m w q [] w-fits w-time fits parts apart first = tt
all-others-fit m w q (r ∷ qs) w-fits w-time fits parts apart first =
    (others-fit m w q r w-fits w-time fits.0 parts.0 apart.0 first.0, all-others-fit m w q qs w-fits w-time fits.1 parts.1 apart.1 first.1)

-- the queue that w is taken from
record HasHead (m : Stamp) (w : Waiting) : Type 0 where
  fits : FitsBehind m w
  time : w.time ≤ w.stamp.high

taken-head : (m : Stamp) {qs rest : List Queue} {w : Waiting} → Takes qs w rest → AllByRecursion (Fits m) qs → AllByRecursion IsPart qs → HasHead m w
taken-head m here fits parts = record { fits = fits.0; time = parts.0.0 }
taken-head m (behind t) fits parts = taken-head m t fits.1 parts.1

taken-from : (r : Queue) {qs rest : List Queue} {w : Waiting} → Takes qs w rest → AllByRecursion (AreApart r) qs → (q : Queue) × AreApart r (w ∷ q)
taken-from r (here {w} {q} {qs}) apart = (q, apart.0)
taken-from r (behind t) apart = taken-from r t apart.1

taken-apart : (r : Queue) {qs rest : List Queue} {w : Waiting} → Takes qs w rest → AllByRecursion IsPart qs → AllByRecursion (AreApart r) qs → AllByRecursion (AreApart r) rest
taken-apart r (here {w} {q} {qs}) parts apart =
    (AreApart-sym q r (follows-apart w q r parts.0.1 (AreApart-sym r (w ∷ q) apart.0)), apart.1)
taken-apart r (behind t) parts apart = (apart.0, taken-apart r t parts.1 apart.1)

first-apart : (w : Waiting) (q : Queue) (qs : List Queue) → Follows w q → AllByRecursion (AreApart (w ∷ q)) qs → AllByRecursion (AreApart q) qs
first-apart w q [] on apart = tt
first-apart w q (r ∷ qs) on apart = (follows-apart w q r on apart.0, first-apart w q qs on apart.1)

-- taking a head that is after no other leaves such a state after its stamp
taken-left : (m : Stamp) {qs rest : List Queue} {w : Waiting} → Takes qs w rest →
    AllByRecursion (Fits m) qs → AllByRecursion IsPart qs → AllApart qs → AllByRecursion (IsNoLater w) qs → IsLeft w.stamp rest
taken-left m (here {w} {q} {qs}) fits parts apart first =
    record {
      fits = (follows-fits w q parts.0.1, all-others-fit m w q qs fits.0 parts.0.0 fits.1 parts.1 apart.0 first.1);
      parts = (parts.0.2, parts.1);
      apart = (first-apart w q qs parts.0.1 apart.0, apart.1);
    }
taken-left m (behind {q} {qs} {rest} {w} t) fits parts apart first =
    let left = taken-left m t fits.1 parts.1 apart.1 first.1 in
    let head = taken-head m t fits.1 parts.1 in
    let from = taken-from q t apart.0 in
    record {
      fits = (others-fit m w from.0 q head.fits head.time fits.0 parts.0 (AreApart-sym q (w ∷ from.0) from.1) first.0, left.fits);
      parts = (parts.0, left.parts);
      apart = (taken-apart q t parts.1 apart.0, left.apart);
    }

-- the stamps come ascending
pub taken-ascends : (m : Stamp) {qs : List Queue} {stamps : List Stamp} → Taken qs stamps → IsLeft m qs → NoneBefore stamp_cmp m stamps × Ascends stamp_cmp stamps
taken-ascends m (done empty) left = (tt, tt)
taken-ascends m (next {qs} {rest} {w} {stamps} t first more) left =
    let least = recursion_from_All (IsNoLater w) qs first in
    let head = taken-head m t left.fits left.parts in
    let up = taken-ascends w.stamp more (taken-left m t left.fits left.parts left.apart least) in
    ((head.fits.low, NoneBefore-lower stamp_total m w.stamp stamps head.fits.low up.0), up)

-- the stamps of all that waits
abbrev pub queue_stamps : Queue → List Stamp
queue_stamps q = map (λ (w : Waiting). w.stamp) q

abbrev pub waiting_stamps : List Queue → List Stamp
waiting_stamps qs = flat_map queue_stamps qs

abbrev same : Stamp → Stamp → Bool
same = tied stamp_cmp

swapped-same : (c d : Bool) (a b : Stamp) (ss : List Stamp) → (c ≡ true → d ≡ true → a ≡ b) →
    cond c (a ∷ cond d (b ∷ ss) ss) (cond d (b ∷ ss) ss) ≡ cond d (b ∷ cond c (a ∷ ss) ss) (cond c (a ∷ ss) ss)
swapped-same true true a b ss equal = ap₂ (λ (u v : Stamp). u ∷ v ∷ ss) (equal refl refl) (sym (equal refl refl))
swapped-same true false a b ss equal = refl
swapped-same false true a b ss equal = refl
swapped-same false false a b ss equal = refl

-- among the stamps that tie with one, the place of a stamp makes no difference
filter-middle : (x w : Stamp) (xs ys : List Stamp) → filter (same x) (xs ++ w ∷ ys) ≡ filter (same x) (w ∷ (xs ++ ys))
filter-middle x w [] ys = refl
filter-middle x w (a ∷ xs) ys =
    ap (λ (ss : List Stamp). cond (same x a) (a ∷ ss) ss) (filter-middle x w xs ys)
    ∙ swapped-same (same x a) (same x w) a w (filter (same x) (xs ++ ys))
    (λ with-a with-w. sym (stamps-tied x a with-a) ∙ stamps-tied x w with-w)

filter-behind : (x : Stamp) (xs us vs : List Stamp) → filter (same x) us ≡ filter (same x) vs → filter (same x) (xs ++ us) ≡ filter (same x) (xs ++ vs)
filter-behind x [] us vs equal = equal
filter-behind x (a ∷ xs) us vs equal = ap (λ (ss : List Stamp). cond (same x a) (a ∷ ss) ss) (filter-behind x xs us vs equal)

takes-members : (x : Stamp) {qs rest : List Queue} {w : Waiting} → Takes qs w rest → filter (same x) (waiting_stamps qs) ≡ filter (same x) (w.stamp ∷ waiting_stamps rest)
takes-members x (here {w} {q} {qs}) = refl
takes-members x (behind {q} {qs} {rest} {w} t) =
    filter-behind x (queue_stamps q) (waiting_stamps qs) (w.stamp ∷ waiting_stamps rest) (takes-members x t)
    ∙ filter-middle x w.stamp (queue_stamps q) (waiting_stamps rest)

none-waiting : (qs : List Queue) → AllByRecursion (λ q. q ≡ []) qs → waiting_stamps qs ≡ []
none-waiting [] empty = refl
none-waiting (q ∷ qs) empty = ap₂ (λ (r : Queue) (ss : List Stamp). queue_stamps r ++ ss) empty.0 (none-waiting qs empty.1)

taken-members : (x : Stamp) {qs : List Queue} {stamps : List Stamp} → Taken qs stamps → filter (same x) stamps ≡ filter (same x) (waiting_stamps qs)
taken-members x (done {qs} empty) = ap (filter (same x)) (sym (none-waiting qs (recursion_from_All (λ q. q ≡ []) qs empty)))
taken-members x (next {qs} {rest} {w} {stamps} t first more) =
    ap (λ (ss : List Stamp). cond (same x w.stamp) (w.stamp ∷ ss) ss) (taken-members x more) ∙ sym (takes-members x t)

-- so the stamps taken are the stamps in ascending order
pub taken-only : (m : Stamp) (qs : List Queue) (stamps : List Stamp) → Taken qs stamps → IsLeft m qs → stamps ≡ ascending stamp_cmp (waiting_stamps qs)
taken-only m qs stamps taken left =
    same_by_ties stamp_total stamps (ascending stamp_cmp (waiting_stamps qs)) (taken-ascends m taken left).1
    (Ascends-ascending stamp_total (waiting_stamps qs))
    (λ x. taken-members x taken ∙ sym (filter-tied stamp_total x (waiting_stamps qs)))

head_total : IsTotalOrder head_cmp
head_total =
    then_total (on_total (λ (w : Waiting). w.time) nat_cmp_total)
    (then_total (on_total (λ (w : Waiting). w.stamp.topic) nat_cmp_total) (on_total (λ (w : Waiting). w.stamp.part) nat_cmp_total))

le-from_not_gt : (o : Ordering) → is_gt o ≡ false → is_le o ≡ true
le-from_not_gt Less low = refl
le-from_not_gt Equal low = refl
le-from_not_gt Greater low = absurd (false≢true (sym low))

head-upto : (a b c : Waiting) → is_le (head_cmp a b) ≡ true → is_le (head_cmp b c) ≡ true → is_le (head_cmp a c) ≡ true
head-upto a b c ab bc = le-from_not_gt (head_cmp a c) (upto head_total a b c (not_gt (head_cmp a b) ab) (not_gt (head_cmp b c) bc))

head-itself : (a : Waiting) → is_le (head_cmp a a) ≡ true
head-itself a = ap is_le (tied_itself head_total a)

none-later : (w : Waiting) (qs : List Queue) → AllByRecursion (λ q. q ≡ []) qs → AllByRecursion (IsNoLater w) qs
none-later w [] empty = tt
none-later w (q ∷ qs) empty = (subst (IsNoLater w) (sym empty.0) tt, none-later w qs empty.1)

lower-no_later : (a b : Waiting) (qs : List Queue) → is_le (head_cmp a b) ≡ true → AllByRecursion (IsNoLater b) qs → AllByRecursion (IsNoLater a) qs
lower-no_later a b [] low all = tt
lower-no_later a b ([] ∷ qs) low all = (tt, lower-no_later a b qs low all.1)
lower-no_later a b ((h ∷ q) ∷ qs) low all = (head-upto a b h low all.0, lower-no_later a b qs low all.1)

-- a head that is after no other
record LeastOf (qs : List Queue) : Type 0 where
  head : Waiting
  rest : List Queue
  takes : Takes qs head rest
  first : AllByRecursion (IsNoLater head) qs

least : (qs : List Queue) → AllByRecursion (λ q. q ≡ []) qs ⊎ LeastOf qs
least [] = inl tt
least ([] ∷ qs) = by (least qs)
  where
    by : AllByRecursion (λ q. q ≡ []) qs ⊎ LeastOf qs → AllByRecursion (λ q. q ≡ []) ([] ∷ qs) ⊎ LeastOf ([] ∷ qs)
    by (inl empty) = inl (refl, empty)
    by (inr some) = inr (record { head = some.head; rest = [] ∷ some.rest; takes = behind some.takes; first = (tt, some.first) })
least ((h ∷ q) ∷ qs) = by (least qs)
  where
    ours : AllByRecursion (IsNoLater h) qs → LeastOf ((h ∷ q) ∷ qs)
    ours first = record { head = h; rest = q ∷ qs; takes = here; first = (head-itself h, first) }

    chosen : (some : LeastOf qs) (o p : Ordering) → head_cmp h some.head ≡ o → head_cmp some.head h ≡ p → o ≡ ordering_reverse p → LeastOf ((h ∷ q) ∷ qs)
    chosen some Less p h-is s-is turned = ours (lower-no_later h some.head qs (ap is_le h-is) some.first)
    chosen some Equal p h-is s-is turned = ours (lower-no_later h some.head qs (ap is_le h-is) some.first)
    chosen some Greater Less h-is s-is turned = record { head = some.head; rest = (h ∷ q) ∷ some.rest; takes = behind some.takes; first = (ap is_le s-is, some.first) }
    chosen some Greater Equal h-is s-is turned = absurd (cc (turned))
    chosen some Greater Greater h-is s-is turned = absurd (cc (turned))

    by : AllByRecursion (λ q. q ≡ []) qs ⊎ LeastOf qs → AllByRecursion (λ q. q ≡ []) ((h ∷ q) ∷ qs) ⊎ LeastOf ((h ∷ q) ∷ qs)
    by (inl empty) = inr (ours (none-later h qs empty))
    by (inr some) = inr (chosen some (head_cmp h some.head) (head_cmp some.head h) refl refl (head_total.antisymm h some.head))

-- how many wait
abbrev waiting_count : List Queue → ℕ
waiting_count [] = 0
waiting_count (q ∷ qs) = length q + waiting_count qs

takes-count : {qs rest : List Queue} {w : Waiting} → Takes qs w rest → waiting_count qs ≡ suc (waiting_count rest)
takes-count (here {w} {q} {qs}) = omega arith
takes-count (behind {q} {qs} {rest} {w} t) = let fewer = takes-count t in omega arith

-- the stamps taken from some queues
pub record TakenFrom (qs : List Queue) : Type 0 where
  pub stamps : List Stamp
  pub taken : Taken qs stamps

taken-within : (n : ℕ) (qs : List Queue) → waiting_count qs ≤ n → TakenFrom qs
taken-within zero qs within = by (least qs)
  where
    by : AllByRecursion (λ q. q ≡ []) qs ⊎ LeastOf qs → TakenFrom qs
    by (inl empty) = record { stamps = []; taken = done (All-from_recursion (λ q. q ≡ []) qs empty) }
    by (inr some) = let fewer = takes-count some.takes in absurd (omega arith)
taken-within (suc n) qs within = by (least qs) (taken-within n)
  where
    by : AllByRecursion (λ q. q ≡ []) qs ⊎ LeastOf qs → ((rest : List Queue) → waiting_count rest ≤ n → TakenFrom rest) → TakenFrom qs
    by (inl empty) more = record { stamps = []; taken = done (All-from_recursion (λ q. q ≡ []) qs empty) }
    by (inr some) more =
        let fewer = takes-count some.takes in
        let behind-it = more some.rest (omega arith) in
        record { stamps = some.head.stamp ∷ behind-it.stamps; taken = next some.takes (All-from_recursion (IsNoLater some.head) qs some.first) behind-it.taken }

pub taken-some : (qs : List Queue) → TakenFrom qs
taken-some qs = taken-within (waiting_count qs) qs (omega arith)
