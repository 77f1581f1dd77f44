-- The stamps of the records that a feed brings to some topics, ascending, are those of their partitions.
use Rattle.std.proofs.Common.{◌≡◌, ◌≢◌, ◌∙◌, ap, ap₂, sym, refl, subst, ℕ, zero, suc, List, [], ◌∷◌, ◌++◌, ◌+◌, ◌<◌, ◌≤◌, Bool, true, false, cond, map, arith, inl, inr, ◌⊎◌, eqb-true, eq-eqb}
use Rattle.std.specs.Prelude.{filter, ◌==◌}
use Rattle.std.specs.List.{flat_map, range_with_len, All, AllPairs, AllByRecursion}
use Rattle.std.proofs.lemmas.Bool.{false≢true, cases_lt}
use Rattle.std.proofs.lemmas.List.{append-nil, map-append}
use Rattle.std.proofs.lemmas.List.Concat.{flat_map-append}
use Rattle.std.proofs.lemmas.List.Elements.{filter-append, recursion_from_All, All-from_recursion}
use Rattle.std.proofs.lemmas.List.Folds.{flat_map-map}
use Rattle.std.proofs.lemmas.List.Kept.{AllPairs-cons}
use Rattle.ksql_types.specs.declared.relation.Relation.{Relation}
use Rattle.ksql_place.specs.declared.change.SourceRecord.{SourceRecord}
use Rattle.ksql_place.specs.declared.order.PartTimes.{PartTimes}
use Rattle.ksql_place.specs.declared.stamp.Stamp.{Stamp}
use Rattle.ksql_place.specs.Merge.{Taken, queues}
use Rattle.ksql_place.specs.Ascending.{ascending}
use Rattle.ksql_place.specs.Order.{part_stamps, record_cmp, stamp_cmp, stamps_of, AreDistinct}
use Rattle.ksql_place.proofs.Ascending.{Ascends-ascending, tied, same_by_ties, filter-tied}
use Rattle.ksql_place.proofs.Orders.{stamp_total, stamps-tied}
use Rattle.ksql_place.proofs.Queues.{order_taken}
use Rattle.ksql_place.proofs.TwoLists.{map-ascending}
use Rattle.topic_files.specs.declared.topic.Fed.{Fed}
use Rattle.topic_feeds.specs.Feeding.{in_part, fed_from, feed_of, part_of, parts_of, Feeding}
use Rattle.topic_feeds.proofs.Partitions.{stamps, part-stamped, AreWithin, fed-within}

abbrev same : Stamp → Stamp → Bool
same = tied stamp_cmp

-- the stamps that tie with x, which are x
module _ (x : Stamp) where
  untied : (s : Stamp) → (x.part ≡ s.part → ⊥) → same x s ≡ false
  untied s apart = by (same x s) refl
    where
      by : (b : Bool) → same x s ≡ b → same x s ≡ false
      by true is = absurd (apart (ap (λ (t : Stamp). t.part) (stamps-tied x s is)))
      by false is = is

  -- they are in x's own partition
  own-part : (part : ℕ) (rs : List SourceRecord) → x.part ≡ part → filter (same x) (stamps (in_part part rs)) ≡ filter (same x) (stamps rs)
  own-part part [] own = refl
  own-part part (r ∷ rs) own = by (r.stamp.part == part) refl (own-part part rs own)
    where
      by : (b : Bool) → (r.stamp.part == part) ≡ b → filter (same x) (stamps (in_part part rs)) ≡ filter (same x) (stamps rs) →
          filter (same x) (stamps (cond b (r ∷ in_part part rs) (in_part part rs))) ≡ filter (same x) (stamps (r ∷ rs))
      by true is ih = ap (λ (ss : List Stamp). cond (same x r.stamp) (r.stamp ∷ ss) ss) ih
      by false is ih =
          let apart : x.part ≡ r.stamp.part → ⊥ = λ is-own. false≢true (sym is ∙ eq-eqb r.stamp.part part (sym is-own ∙ own)) in
          ih ∙ sym (ap (λ (b : Bool). cond b (r.stamp ∷ filter (same x) (stamps rs)) (filter (same x) (stamps rs))) (untied r.stamp apart))

  -- and in no other
  other-part : (part : ℕ) (rs : List SourceRecord) → (x.part ≡ part → ⊥) → filter (same x) (stamps (in_part part rs)) ≡ []
  other-part part [] apart = refl
  other-part part (r ∷ rs) apart = by (r.stamp.part == part) refl (other-part part rs apart)
    where
      by : (b : Bool) → (r.stamp.part == part) ≡ b → filter (same x) (stamps (in_part part rs)) ≡ [] →
          filter (same x) (stamps (cond b (r ∷ in_part part rs) (in_part part rs))) ≡ []
      by true is ih =
          let other : x.part ≡ r.stamp.part → ⊥ = λ is-own. apart (is-own ∙ eqb-true r.stamp.part part is) in
          ap₂ (λ (b : Bool) (ss : List Stamp). cond b (r.stamp ∷ ss) ss) (untied r.stamp other) ih
      by false is ih = ih

  beyond : (n : ℕ) (rs : List SourceRecord) → AreWithin n rs → n ≤ x.part → filter (same x) (stamps rs) ≡ []
  beyond n [] within over = refl
  beyond n (r ∷ rs) within over =
      let below : r.stamp.part < n = within.0 in
      ap₂ (λ (b : Bool) (ss : List Stamp). cond b (r.stamp ∷ ss) ss) (untied r.stamp (λ own. absurd (omega (arith, own)))) (beyond n rs within.1 over)

  -- partitions from a on, without x's
  outside : (rs : List SourceRecord) (a n : ℕ) → ((part : ℕ) → a ≤ part → part < a + n → x.part ≡ part → ⊥) →
      filter (same x) (flat_map (λ part. stamps (in_part part rs)) (range_with_len a n)) ≡ []
  outside rs a zero apart = refl
  outside rs a (suc n) apart =
      filter-append (same x) (stamps (in_part a rs)) (flat_map (λ part. stamps (in_part part rs)) (range_with_len (a + 1) n))
      ∙ ap₂ (λ (us vs : List Stamp). us ++ vs)
      (other-part a rs (apart a (omega arith) (omega arith)))
      (outside rs (a + 1) n (λ part low below. apart part (omega (arith, low)) (omega (arith, below))))

  -- partitions from a on, including x's
  inside : (rs : List SourceRecord) (a n : ℕ) → a ≤ x.part → x.part < a + n →
      filter (same x) (flat_map (λ part. stamps (in_part part rs)) (range_with_len a n)) ≡ filter (same x) (stamps rs)
  inside rs a zero low below = absurd (omega arith)
  inside rs a (suc n) low below =
      filter-append (same x) (stamps (in_part a rs)) (flat_map (λ part. stamps (in_part part rs)) (range_with_len (a + 1) n))
      ∙ by (cases_lt x.part (a + 1)) (inside rs (a + 1) n)
    where
      later : List Stamp
      later = filter (same x) (flat_map (λ part. stamps (in_part part rs)) (range_with_len (a + 1) n))

      by : (x.part < a + 1) ⊎ (a + 1 ≤ x.part) → (a + 1 ≤ x.part → x.part < (a + 1) + n → later ≡ filter (same x) (stamps rs)) →
          filter (same x) (stamps (in_part a rs)) ++ later ≡ filter (same x) (stamps rs)
      by (inl first) ih =
          let own : x.part ≡ a = omega arith in
          ap₂ (λ (us vs : List Stamp). us ++ vs) (own-part a rs own) (outside rs (a + 1) n (λ part above within is. absurd (omega (arith, own, is, above))))
          ∙ append-nil (filter (same x) (stamps rs))
      by (inr more) ih = ap₂ (λ (us vs : List Stamp). us ++ vs) (other-part a rs (λ is. absurd (omega (arith, is, more)))) (ih more (omega (arith, below)))

  tied-parts : (n : ℕ) (rs : List SourceRecord) → AreWithin n rs →
      filter (same x) (stamps rs) ≡ filter (same x) (flat_map (λ part. stamps (in_part part rs)) (range_with_len 0 n))
  tied-parts n rs within = by (cases_lt x.part n)
    where
      by : (x.part < n) ⊎ (n ≤ x.part) → filter (same x) (stamps rs) ≡ filter (same x) (flat_map (λ part. stamps (in_part part rs)) (range_with_len 0 n))
      by (inl below) = sym (inside rs 0 n (omega arith) (omega (arith, below)))
      by (inr over) = beyond n rs within over ∙ sym (outside rs 0 n (λ part _ below is. absurd (omega (arith, over, below, is))))

  -- of one topic
  tied-topic : (feed : ℕ) (relation : Relation) (before : List SourceRecord) (feds : List Fed) → 1 ≤ relation.partitions → All (λ r. r.stamp.feed ≢ feed) before →
      filter (same x) (stamps (fed_from feed relation before feds))
      ≡ filter (same x) (flat_map (part_stamps feed) (map (part_of feed relation before feds) (range_with_len 0 relation.partitions)))
  tied-topic feed relation before feds some none =
      let records : List SourceRecord = fed_from feed relation before feds in
      tied-parts relation.partitions records (fed-within feed relation before feds some)
      ∙ ap (filter (same x))
      (ap (λ (f : ℕ → List Stamp). flat_map f (range_with_len 0 relation.partitions)) (λ i part. part-stamped feed relation before feds part none i)
      ∙ sym (flat_map-map (part_stamps feed) (part_of feed relation before feds) (range_with_len 0 relation.partitions)))

  -- of all topics
  tied-all : (feed : ℕ) (feedings : List Feeding) → AllByRecursion (λ f. 1 ≤ f.relation.partitions) feedings →
      AllByRecursion (λ f. All (λ r. r.stamp.feed ≢ feed) f.before) feedings →
      filter (same x) (stamps (feed_of feed feedings)) ≡ filter (same x) (flat_map (part_stamps feed) (parts_of feed feedings))
  tied-all feed [] some none = refl
  tied-all feed (f ∷ feedings) some none =
      let records : List SourceRecord = fed_from feed f.relation f.before f.feds in
      let parts : List PartTimes = map (part_of feed f.relation f.before f.feds) (range_with_len 0 f.relation.partitions) in
      ap (filter (same x)) (map-append (λ (r : SourceRecord). r.stamp) records (feed_of feed feedings))
      ∙ filter-append (same x) (stamps records) (stamps (feed_of feed feedings))
      ∙ ap₂ (λ (us vs : List Stamp). us ++ vs) (tied-topic feed f.relation f.before f.feds some.0 none.0) (tied-all feed feedings some.1 none.1)
      ∙ sym (filter-append (same x) (flat_map (part_stamps feed) parts) (flat_map (part_stamps feed) (parts_of feed feedings)))
      ∙ ap (filter (same x)) (sym (flat_map-append (part_stamps feed) parts (parts_of feed feedings)))

pub order-stamps : (feed : ℕ) (feedings : List Feeding) → All (λ f. 1 ≤ f.relation.partitions) feedings → All (λ f. All (λ r. r.stamp.feed ≢ feed) f.before) feedings →
    stamps (ascending record_cmp (feed_of feed feedings)) ≡ stamps_of feed (parts_of feed feedings)
order-stamps feed feedings some none =
    let fed : List Stamp = stamps (feed_of feed feedings) in
    let all : List Stamp = flat_map (part_stamps feed) (parts_of feed feedings) in
    let each-some = recursion_from_All (λ (f : Feeding). 1 ≤ f.relation.partitions) feedings some in
    let each-none = recursion_from_All (λ (f : Feeding). All (λ (r : SourceRecord). r.stamp.feed ≢ feed) f.before) feedings none in
    map-ascending stamp_cmp (λ (r : SourceRecord). r.stamp) (feed_of feed feedings)
    ∙ same_by_ties stamp_total (ascending stamp_cmp fed) (ascending stamp_cmp all) (Ascends-ascending stamp_total fed) (Ascends-ascending stamp_total all)
    (λ x. filter-tied stamp_total x fed ∙ tied-all x feed feedings each-some each-none ∙ sym (filter-tied stamp_total x all))

-- two partitions differ
abbrev IsOther : PartTimes → PartTimes → Type 0
IsOther p q = p.topic ≡ q.topic → p.part ≡ q.part → ⊥

-- the partitions of one topic, and those of others after them
others-after : (p : PartTimes) (f : ℕ → PartTimes) (a n : ℕ) (rest : List PartTimes) → ((part : ℕ) → (f part).part ≡ part) → p.part < a →
    AllByRecursion (λ q. p.topic ≢ q.topic) rest → AllByRecursion (IsOther p) (map f (range_with_len a n) ++ rest)
others-after p f a (suc n) rest own below others =
    ((λ _ part. absurd (omega (arith, part, own a, below))), others-after p f (a + 1) n rest own (omega (arith, below)) others)
others-after p f a zero [] own below others = tt
others-after p f a zero (q ∷ rest) own below others = ((λ topic _. others.0 topic), others-after p f a zero rest own below others.1)

distinct-topic : (number : ℕ) (f : ℕ → PartTimes) (a n : ℕ) (rest : List PartTimes) → ((part : ℕ) → (f part).part ≡ part) → ((part : ℕ) → (f part).topic ≡ number) →
    AllByRecursion (λ q. number ≢ q.topic) rest → AreDistinct rest → AreDistinct (map f (range_with_len a n) ++ rest)
distinct-topic number f a zero rest own topic others distinct = distinct
distinct-topic number f a (suc n) rest own topic others distinct =
    let after : List PartTimes = map f (range_with_len (a + 1) n) ++ rest in
    AllPairs-cons IsOther (f a) after
    (All-from_recursion (IsOther (f a)) after
    (others-after (f a) f (a + 1) n rest own (omega (arith, own a)) (subst (λ (t : ℕ). AllByRecursion (λ (q : PartTimes). t ≢ q.topic) rest) (sym (topic a)) others)))
    (distinct-topic number f (a + 1) n rest own topic others distinct)

-- a topic isn't one of the others' topics
part-topics : (number : ℕ) (f : ℕ → PartTimes) (a n : ℕ) (rest : List PartTimes) → ((part : ℕ) → number ≢ (f part).topic) →
    AllByRecursion (λ q. number ≢ q.topic) rest → AllByRecursion (λ q. number ≢ q.topic) (map f (range_with_len a n) ++ rest)
part-topics number f a zero rest other others = others
part-topics number f a (suc n) rest other others = (other a, part-topics number f (a + 1) n rest other others)

all-topics : (feed number : ℕ) (feedings : List Feeding) → AllByRecursion (λ f. number ≢ f.relation.number) feedings →
    AllByRecursion (λ q. number ≢ q.topic) (parts_of feed feedings)
all-topics feed number [] others = tt
all-topics feed number (f ∷ feedings) others =
    part-topics number (part_of feed f.relation f.before f.feds) 0 f.relation.partitions (parts_of feed feedings) (λ _. others.0) (all-topics feed number feedings others.1)

nothing-twice : AreDistinct []
nothing-twice i j d up below = absurd (omega (arith, below))

distinct-parts : (feed : ℕ) (feedings : List Feeding) → AllPairs (λ a b. a.relation.number ≢ b.relation.number) feedings → AreDistinct (parts_of feed feedings)
distinct-parts feed [] apart = nothing-twice
distinct-parts feed (f ∷ feedings) apart =
    let others : AllByRecursion (λ g. f.relation.number ≢ g.relation.number) feedings =
    recursion_from_All (λ (g : Feeding). f.relation.number ≢ g.relation.number) feedings (λ k d below. apart 0 (suc k) d (omega arith) (omega (arith, below))) in
    distinct-topic f.relation.number (part_of feed f.relation f.before f.feds) 0 f.relation.partitions (parts_of feed feedings) (λ part. refl) (λ part. refl)
    (all-topics feed f.relation.number feedings others)
    (distinct-parts feed feedings (λ i j d up below. apart (suc i) (suc j) d (omega (arith, up)) (omega (arith, below))))

pub order-taken : (feed : ℕ) (feedings : List Feeding) → All (λ f. 1 ≤ f.relation.partitions) feedings → All (λ f. All (λ r. r.stamp.feed ≢ feed) f.before) feedings →
    AllPairs (λ a b. a.relation.number ≢ b.relation.number) feedings →
    Taken (queues feed (parts_of feed feedings)) (stamps (ascending record_cmp (feed_of feed feedings)))
order-taken feed feedings some none apart =
    subst (Taken (queues feed (parts_of feed feedings))) (sym (order-stamps feed feedings some none))
    (order_taken feed (parts_of feed feedings) (distinct-parts feed feedings apart))
