-- The queues of a feed, before any record is taken.
use Rattle.std.proofs.Common.{◌≡◌, ◌∙◌, ap, ap₂, sym, refl, subst, ℕ, zero, suc, List, [], ◌∷◌, ◌++◌, ◌+◌, ◌<◌, Bool, true, false, cond, map, length, get_or, arith, inl, eq-eqb, eqb-true, length-append}
use Rattle.std.specs.Prelude.{filter, ◌&&◌, ◌==◌}
use Rattle.std.specs.List.{flat_map, zip, AllByRecursion, Contains}
use Rattle.std.proofs.lemmas.Bool.{false≢true}
use Rattle.std.proofs.lemmas.List.{append-nil}
use Rattle.std.proofs.lemmas.List.Elements.{recursion_from_All, All-from_recursion, filter-append}
use Rattle.ksql_place.specs.declared.stamp.Stamp.{Stamp}
use Rattle.ksql_place.specs.declared.order.PartTimes.{PartTimes}
use Rattle.ksql_place.specs.Ascending.{ascending}
use Rattle.ksql_place.specs.Order.{stamp_cmp, greatest, stamped, part_stamps, stamps_of, AreDistinct}
use Rattle.ksql_place.specs.Merge.{Waiting, Queue, Taken, waiting, queue, queues, is_of}
use Rattle.ksql_place.proofs.Ascending.{NoneBefore, NoneBefore-lower, Ascends, ascending-kept, filter-ascending}
use Rattle.ksql_place.proofs.Orders.{stamp_total}
use Rattle.ksql_place.proofs.Stamps.{greatest-append}
use Rattle.ksql_place.proofs.Merging.{Fits, Follows, IsPart, AreApart, AllApart, IsLeft, queue_stamps, waiting_stamps, follows-low, cmp-from_low, taken-only, taken-some}

-- the records of one partition after these times
abbrev line : (feed topic part first : ℕ) (before times : List ℕ) → Queue
line feed topic part first before times = map waiting (zip times (stamped feed topic part first before times))

line-part : (feed topic part first : ℕ) (before times : List ℕ) → IsPart (line feed topic part first before times)
unfolding stamped
line-part feed topic part first before [] = tt
line-part feed topic part first before (t ∷ []) = (omega (arith, greatest-append before t), tt, tt)
line-part feed topic part first before (t ∷ u ∷ times) =
    let through : List ℕ = before ++ t ∷ [] in (
      omega (arith, greatest-append before t),
      record {
        feed = refl;
        high = omega (arith, greatest-append through u);
        topic = refl;
        part = refl;
        offset = omega (arith, length-append before (t ∷ []));
      },
      line-part feed topic part first through (u ∷ times),
    )

-- a stamp before all of the feed
abbrev pub feed_start : ℕ → Stamp
feed_start feed = record { feed = feed; high = 0; topic = 0; part = 0; offset = 0 }

line-fits : (feed topic part first : ℕ) (times : List ℕ) → Fits (feed_start feed) (line feed topic part first [] times)
unfolding stamped
line-fits feed topic part first [] = tt
line-fits feed topic part first (t ∷ times) =
    let stamp : Stamp = record { feed = feed; high = greatest (t ∷ []); topic = topic; part = part; offset = first + 0 } in
    record {
      feed = refl;
      low = cmp-from_low (feed_start feed) stamp refl (record { high = omega arith; topic = λ _. omega arith; part = λ _ _. omega arith; offset = λ _ _ _. omega arith });
      high = inl (omega arith);
    }

line-stamps : (feed topic part first : ℕ) (before times : List ℕ) → queue_stamps (line feed topic part first before times) ≡ stamped feed topic part first before times
unfolding stamped
line-stamps feed topic part first before [] = refl
line-stamps feed topic part first before (t ∷ times) =
    let through : List ℕ = before ++ t ∷ [] in
    ap (λ (ss : List Stamp). record { feed = feed; high = greatest through; topic = topic; part = part; offset = first + length before } ∷ ss)
    (line-stamps feed topic part first through times)

-- two partitions differ
abbrev IsOther : PartTimes → PartTimes → Type 0
IsOther p q = p.topic ≡ q.topic → p.part ≡ q.part → ⊥

abbrev AllOther : List PartTimes → Type 0
AllOther [] = Unit {0}
AllOther (p ∷ ps) = AllByRecursion (IsOther p) ps × AllOther ps

AllOther-from_distinct : (parts : List PartTimes) → AreDistinct parts → AllOther parts
AllOther-from_distinct [] distinct = tt
AllOther-from_distinct (p ∷ ps) distinct = (
  recursion_from_All (IsOther p) ps (λ k d below. distinct 0 (suc k) d (omega arith) (omega (arith, below))),
  AllOther-from_distinct ps (λ i j d up below. distinct (suc i) (suc j) d (omega (arith, up)) (omega (arith, below))),
)

line-apart : (feed topic part first : ℕ) (times : List ℕ) (topic' part' first' : ℕ) (times' : List ℕ) → (topic ≡ topic' → part ≡ part' → ⊥) →
    AreApart (line feed topic part first [] times) (line feed topic' part' first' [] times')
unfolding stamped
line-apart feed topic part first [] topic' part' first' times' other = tt
line-apart feed topic part first (t ∷ times) topic' part' first' [] other = tt
line-apart feed topic part first (t ∷ times) topic' part' first' (u ∷ times') other = other

queue-apart : (feed : ℕ) (p : PartTimes) (ps : List PartTimes) → AllByRecursion (IsOther p) ps → AllByRecursion (AreApart (queue feed p)) (queues feed ps)
queue-apart feed p [] other = tt
queue-apart feed p (q ∷ ps) other = (line-apart feed p.topic p.part p.first p.times q.topic q.part q.first q.times other.0, queue-apart feed p ps other.1)

queues-apart : (feed : ℕ) (parts : List PartTimes) → AllOther parts → AllApart (queues feed parts)
queues-apart feed [] other = tt
queues-apart feed (p ∷ ps) other = (queue-apart feed p ps other.0, queues-apart feed ps other.1)

queues-part : (feed : ℕ) (parts : List PartTimes) → AllByRecursion IsPart (queues feed parts)
queues-part feed [] = tt
queues-part feed (p ∷ ps) = (line-part feed p.topic p.part p.first [] p.times, queues-part feed ps)

queues-fit : (feed : ℕ) (parts : List PartTimes) → AllByRecursion (Fits (feed_start feed)) (queues feed parts)
queues-fit feed [] = tt
queues-fit feed (p ∷ ps) = (line-fits feed p.topic p.part p.first p.times, queues-fit feed ps)

queues-stamps : (feed : ℕ) (parts : List PartTimes) → waiting_stamps (queues feed parts) ≡ flat_map (part_stamps feed) parts
queues-stamps feed [] = refl
queues-stamps feed (p ∷ ps) = ap₂ (λ (us vs : List Stamp). us ++ vs) (line-stamps feed p.topic p.part p.first [] p.times) (queues-stamps feed ps)

queues-left : (feed : ℕ) (parts : List PartTimes) → AreDistinct parts → IsLeft (feed_start feed) (queues feed parts)
queues-left feed parts distinct =
    record { fits = queues-fit feed parts; parts = queues-part feed parts; apart = queues-apart feed parts (AllOther-from_distinct parts distinct) }

-- the stamps taken are the order of consumption
pub only_order : (feed : ℕ) (parts : List PartTimes) (taken : List Stamp) → AreDistinct parts → Taken (queues feed parts) taken → taken ≡ stamps_of feed parts
only_order feed parts taken distinct t =
    taken-only (feed_start feed) (queues feed parts) taken t (queues-left feed parts distinct) ∙ ap (ascending stamp_cmp) (queues-stamps feed parts)

pub order_taken : (feed : ℕ) (parts : List PartTimes) → AreDistinct parts → Taken (queues feed parts) (stamps_of feed parts)
order_taken feed parts distinct =
    let some = taken-some (queues feed parts) in
    subst (Taken (queues feed parts)) (only_order feed parts some.stamps distinct some.taken) some.taken

-- a partition's own stamps ascend
run-none_before : (w : Waiting) (q : Queue) → Follows w q → Ascends stamp_cmp (queue_stamps q) → NoneBefore stamp_cmp w.stamp (queue_stamps q)
run-none_before w [] on up = tt
run-none_before w (v ∷ q) on up = (follows-low w v on, NoneBefore-lower stamp_total w.stamp v.stamp (queue_stamps q) (follows-low w v on) up.0)

part-ascends : (q : Queue) → IsPart q → Ascends stamp_cmp (queue_stamps q)
part-ascends [] part = tt
part-ascends (w ∷ q) part = let up = part-ascends q part.2 in (run-none_before w q part.1 up, up)

pub part_stamps-kept : (feed : ℕ) (p : PartTimes) → ascending stamp_cmp (part_stamps feed p) ≡ part_stamps feed p
part_stamps-kept feed p =
    let same : queue_stamps (queue feed p) ≡ part_stamps feed p = line-stamps feed p.topic p.part p.first [] p.times in
    ascending-kept stamp_total (part_stamps feed p)
    (subst (Ascends stamp_cmp) same (part-ascends (queue feed p) (line-part feed p.topic p.part p.first [] p.times)))

-- whose stamp it is
first_so : (a b : Bool) → (a && b) ≡ true → a ≡ true
first_so true b is = refl
first_so false b is = is

second_so : (a b : Bool) → (a && b) ≡ true → b ≡ true
second_so true b is = is
second_so false b is = absurd (false≢true is)

is_of-same : (p : PartTimes) (s : Stamp) → s.topic ≡ p.topic → s.part ≡ p.part → is_of p s ≡ true
is_of-same p s topic part = ap₂ (λ (a b : Bool). a && b) (eq-eqb s.topic p.topic topic) (eq-eqb s.part p.part part)

is_of-other : (p : PartTimes) (s : Stamp) → (s.topic ≡ p.topic → s.part ≡ p.part → ⊥) → is_of p s ≡ false
is_of-other p s other = by (is_of p s) refl
  where
    by : (b : Bool) → is_of p s ≡ b → is_of p s ≡ false
    by true is = absurd (other (eqb-true s.topic p.topic (first_so (s.topic == p.topic) (s.part == p.part) is)) (eqb-true s.part p.part (second_so (s.topic == p.topic) (s.part == p.part) is)))
    by false is = is

-- the stamp of a partition
abbrev IsOf : ℕ → ℕ → Stamp → Type 0
IsOf topic part s = (s.topic ≡ topic) × (s.part ≡ part)

stamped-of : (feed topic part first : ℕ) (before times : List ℕ) → AllByRecursion (IsOf topic part) (stamped feed topic part first before times)
unfolding stamped
stamped-of feed topic part first before [] = tt
stamped-of feed topic part first before (t ∷ times) = ((refl, refl), stamped-of feed topic part first (before ++ t ∷ []) times)

filter-own : (p : PartTimes) (ss : List Stamp) → AllByRecursion (IsOf p.topic p.part) ss → filter (is_of p) ss ≡ ss
filter-own p [] own = refl
filter-own p (s ∷ ss) own =
    ap₂ (λ (b : Bool) (us : List Stamp). cond b (s ∷ us) us) (is_of-same p s own.0.0 own.0.1) (filter-own p ss own.1)

filter-others : (p q : PartTimes) (ss : List Stamp) → IsOther q p → AllByRecursion (IsOf q.topic q.part) ss → filter (is_of p) ss ≡ []
filter-others p q [] other of = refl
filter-others p q (s ∷ ss) other of =
    ap₂ (λ (b : Bool) (us : List Stamp). cond b (s ∷ us) us)
    (is_of-other p s (λ topic part. other (sym of.0.0 ∙ topic) (sym of.0.1 ∙ part)))
    (filter-others p q ss other of.1)

none-of : (feed : ℕ) (p : PartTimes) (ps : List PartTimes) → AllByRecursion (IsOther p) ps → filter (is_of p) (flat_map (part_stamps feed) ps) ≡ []
none-of feed p [] other = refl
none-of feed p (q ∷ ps) other =
    filter-append (is_of p) (part_stamps feed q) (flat_map (part_stamps feed) ps)
    ∙ ap₂ (λ (us vs : List Stamp). us ++ vs)
    (filter-others p q (part_stamps feed q) (λ topic part. other.0 (sym topic) (sym part)) (stamped-of feed q.topic q.part q.first [] q.times))
    (none-of feed p ps other.1)

filter-parts : (feed : ℕ) (p : PartTimes) (ps : List PartTimes) (i : ℕ) → AllOther ps → i < length ps → get_or ps i p ≡ p →
    filter (is_of p) (flat_map (part_stamps feed) ps) ≡ part_stamps feed p
filter-parts feed p [] i other below at = absurd (omega (arith, below))
filter-parts feed p (q ∷ ps) zero other below at =
    subst (λ (r : PartTimes). filter (is_of r) (flat_map (part_stamps feed) (q ∷ ps)) ≡ part_stamps feed r) at
    (filter-append (is_of q) (part_stamps feed q) (flat_map (part_stamps feed) ps)
    ∙ ap₂ (λ (us vs : List Stamp). us ++ vs)
    (filter-own q (part_stamps feed q) (stamped-of feed q.topic q.part q.first [] q.times))
    (none-of feed q ps other.0)
    ∙ append-nil (part_stamps feed q))
filter-parts feed p (q ∷ ps) (suc i) other below at =
    let inside : i < length ps = omega (arith, below) in
    let apart : IsOther q p = subst (IsOther q) at (All-from_recursion (IsOther q) ps other.0 i p inside) in
    filter-append (is_of p) (part_stamps feed q) (flat_map (part_stamps feed) ps)
    ∙ ap (λ (us : List Stamp). us ++ filter (is_of p) (flat_map (part_stamps feed) ps))
    (filter-others p q (part_stamps feed q) apart (stamped-of feed q.topic q.part q.first [] q.times))
    ∙ filter-parts feed p ps i other.1 inside at

-- each partition's order is kept
pub part_kept : (feed : ℕ) (parts : List PartTimes) (p : PartTimes) → AreDistinct parts → Contains parts p → filter (is_of p) (stamps_of feed parts) ≡ part_stamps feed p
part_kept feed parts p distinct among =
    filter-ascending stamp_total (is_of p) (flat_map (part_stamps feed) parts)
    ∙ ap (ascending stamp_cmp) (filter-parts feed p parts among.0 (AllOther-from_distinct parts distinct) among.1 among.2)
    ∙ part_stamps-kept feed p
