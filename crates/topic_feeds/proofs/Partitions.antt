-- The records of one partition of a topic, one after another.
use Rattle.std.proofs.Common.{◌≡◌, ◌≢◌, ◌∙◌, ap, sym, refl, ℕ, List, [], ◌∷◌, ◌++◌, ◌+◌, ◌<◌, ◌≤◌, Bool, true, false, cond, map, length, arith, eq-eqb, ne_eqb, eqb-true}
use Rattle.std.specs.Prelude.{◌==◌}
use Rattle.std.specs.List.{All, AllByRecursion}
use Rattle.std.proofs.lemmas.List.{append-nil, length-append, map-append}
use Rattle.std.proofs.lemmas.List.Elements.{filter-append, recursion_from_All}
use Rattle.ksql_types.specs.Lane.{lane}
use Rattle.ksql_types.specs.declared.relation.Relation.{Relation}
use Rattle.ksql_types.specs.declared.value.Value.{Value}
use Rattle.ksql_place.specs.declared.change.SourceRecord.{SourceRecord}
use Rattle.ksql_place.specs.declared.stamp.Stamp.{Stamp}
use Rattle.ksql_place.specs.Order.{greatest, stamped, part_stamps}
use Rattle.topic_files.specs.declared.topic.Fed.{Fed}
use Rattle.topic_feeds.specs.Feeding.{in_feed, in_part, fed_after, fed_from, part_of}

abbrev pub times_of : List SourceRecord → List ℕ
times_of records = map (λ (r : SourceRecord). r.time) records

abbrev pub stamps : List SourceRecord → List Stamp
stamps records = map (λ (r : SourceRecord). r.stamp) records

-- one more record of a partition, and one of another
pub in_part-own : (part : ℕ) (before : List SourceRecord) (r : SourceRecord) → r.stamp.part ≡ part → in_part part (before ++ r ∷ []) ≡ in_part part before ++ r ∷ []
in_part-own part before r own =
    filter-append (λ (s : SourceRecord). s.stamp.part == part) before (r ∷ [])
    ∙ ap (λ (b : Bool). in_part part before ++ cond b (r ∷ []) []) (eq-eqb r.stamp.part part own)

pub in_part-other : (part : ℕ) (before : List SourceRecord) (r : SourceRecord) → (r.stamp.part == part) ≡ false → in_part part (before ++ r ∷ []) ≡ in_part part before
in_part-other part before r other =
    filter-append (λ (s : SourceRecord). s.stamp.part == part) before (r ∷ [])
    ∙ ap (λ (b : Bool). in_part part before ++ cond b (r ∷ []) []) other
    ∙ append-nil (in_part part before)

-- one more record of a feed
pub in_feed-own : (feed : ℕ) (before : List SourceRecord) (r : SourceRecord) → r.stamp.feed ≡ feed → in_feed feed (before ++ r ∷ []) ≡ in_feed feed before ++ r ∷ []
in_feed-own feed before r own =
    filter-append (λ (s : SourceRecord). s.stamp.feed == feed) before (r ∷ [])
    ∙ ap (λ (b : Bool). in_feed feed before ++ cond b (r ∷ []) []) (eq-eqb r.stamp.feed feed own)

-- no records of a feed before it
pub none_before : (feed part : ℕ) (before : List SourceRecord) → All (λ r. r.stamp.feed ≢ feed) before → in_feed feed (in_part part before) ≡ []
none_before feed part before none = by_records before (recursion_from_All (λ (r : SourceRecord). r.stamp.feed ≢ feed) before none)
  where
    by_records : (rs : List SourceRecord) → AllByRecursion (λ (r : SourceRecord). r.stamp.feed ≢ feed) rs → in_feed feed (in_part part rs) ≡ []
    by_records [] others = refl
    by_records (r ∷ rs) others = by (r.stamp.part == part) (by_records rs others.1)
      where
        by : (own : Bool) → in_feed feed (in_part part rs) ≡ [] → in_feed feed (cond own (r ∷ in_part part rs) (in_part part rs)) ≡ []
        by true rest =
            ap (λ (b : Bool). cond b (r ∷ in_feed feed (in_part part rs)) (in_feed feed (in_part part rs))) (ne_eqb r.stamp.feed feed others.0) ∙ rest
        by false rest = rest

-- the times of a partition's records in a feed
abbrev pub feed_times : ℕ → ℕ → List SourceRecord → List ℕ
feed_times feed part before = times_of (in_feed feed (in_part part before))

pub feed_times-own : (feed part : ℕ) (before : List SourceRecord) (r : SourceRecord) → r.stamp.feed ≡ feed → r.stamp.part ≡ part →
    feed_times feed part (before ++ r ∷ []) ≡ feed_times feed part before ++ r.time ∷ []
feed_times-own feed part before r fed own =
    ap (λ (rs : List SourceRecord). times_of (in_feed feed rs)) (in_part-own part before r own)
    ∙ ap times_of (in_feed-own feed (in_part part before) r fed)
    ∙ map-append (λ (s : SourceRecord). s.time) (in_feed feed (in_part part before)) (r ∷ [])

-- the stamps of a partition's records are those of their times, after the times in this feed before them
fed-stamped : (feed : ℕ) (relation : Relation) (part first : ℕ) (before : List SourceRecord) (feds : List Fed) →
    length (in_part part before) ≡ first + length (feed_times feed part before) →
    stamps (in_part part (fed_from feed relation before feds))
    ≡ stamped feed relation.number part first (feed_times feed part before) (times_of (in_part part (fed_from feed relation before feds)))
unfolding fed_from stamped
fed-stamped feed relation part first before [] offsets = refl
fed-stamped feed relation part first before (fed ∷ feds) offsets =
    by (made.stamp.part == part) refl (fed-stamped feed relation part first (before ++ made ∷ []) feds)
  where
    made : SourceRecord
    made = fed_after feed relation before fed

    rest : List SourceRecord
    rest = in_part part (fed_from feed relation (before ++ made ∷ []) feds)

    earlier : List ℕ
    earlier = feed_times feed part before

    stamp_at : ℕ → ℕ → Stamp
    stamp_at p offset = record { feed = feed; high = greatest (feed_times feed p before ++ fed.time ∷ []); topic = relation.number; part = p; offset = offset }

    by : (own : Bool) → (made.stamp.part == part) ≡ own →
        (length (in_part part (before ++ made ∷ [])) ≡ first + length (feed_times feed part (before ++ made ∷ [])) →
        stamps rest ≡ stamped feed relation.number part first (feed_times feed part (before ++ made ∷ [])) (times_of rest)) →
        stamps (cond own (made ∷ rest) rest) ≡ stamped feed relation.number part first earlier (times_of (cond own (made ∷ rest) rest))
    by true is ih =
        let same : made.stamp.part ≡ part = eqb-true made.stamp.part part is in
        let stamp : made.stamp ≡ stamp_at part (first + length earlier) = ap (λ (p : ℕ). stamp_at p (length (in_part p before))) same ∙ ap (stamp_at part) offsets in
        let through : feed_times feed part (before ++ made ∷ []) ≡ earlier ++ fed.time ∷ [] = feed_times-own feed part before made refl same in
        let next : length (in_part part (before ++ made ∷ [])) ≡ first + length (feed_times feed part (before ++ made ∷ [])) =
        omega (arith, offsets, ap length (in_part-own part before made same), length-append (in_part part before) (made ∷ []), ap length through, length-append earlier (fed.time ∷ [])) in
        ap (λ (s : Stamp). s ∷ stamps rest) stamp
        ∙ ap (λ (ss : List Stamp). stamp_at part (first + length earlier) ∷ ss)
        (ih next ∙ ap (λ (ts : List ℕ). stamped feed relation.number part first ts (times_of rest)) through)
    by false is ih =
        let others : in_part part (before ++ made ∷ []) ≡ in_part part before = in_part-other part before made is in
        let next : length (in_part part (before ++ made ∷ [])) ≡ first + length (feed_times feed part (before ++ made ∷ [])) =
        ap length others ∙ offsets ∙ ap (λ (rs : List SourceRecord). first + length (times_of (in_feed feed rs))) (sym others) in
        ih next ∙ ap (λ (rs : List SourceRecord). stamped feed relation.number part first (times_of (in_feed feed rs)) (times_of rest)) others

pub part-stamped : (feed : ℕ) (relation : Relation) (before : List SourceRecord) (feds : List Fed) (part : ℕ) → All (λ r. r.stamp.feed ≢ feed) before →
    stamps (in_part part (fed_from feed relation before feds)) ≡ part_stamps feed (part_of feed relation before feds part)
part-stamped feed relation before feds part none =
    let nothing : feed_times feed part before ≡ [] = ap times_of (none_before feed part before none) in
    let first : ℕ = length (in_part part before) in
    fed-stamped feed relation part first before feds (omega (arith, ap length nothing))
    ∙ ap (λ (ts : List ℕ). stamped feed relation.number part first ts (times_of (in_part part (fed_from feed relation before feds)))) nothing

-- each record is in one of n partitions
abbrev pub AreWithin : ℕ → List SourceRecord → Type 0
AreWithin n [] = Unit {0}
AreWithin n (r ∷ rs) = (r.stamp.part < n) × AreWithin n rs

lane-within : (key : List Value) (n home : ℕ) → 1 ≤ n → lane key n home < n
lane-within [] n home some = omega arith
lane-within (first ∷ more) n home some = omega arith

pub fed-within : (feed : ℕ) (relation : Relation) (before : List SourceRecord) (feds : List Fed) → 1 ≤ relation.partitions → AreWithin relation.partitions (fed_from feed relation before feds)
unfolding fed_from
fed-within feed relation before [] some = tt
fed-within feed relation before (fed ∷ feds) some =
    (lane-within fed.key relation.partitions (length before) some, fed-within feed relation (before ++ fed_after feed relation before fed ∷ []) feds some)
