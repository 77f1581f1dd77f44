-- The records that a feed brings: they rise, and fit the program.
use Rattle.std.proofs.Common.{◌≡◌, ◌≢◌, ◌∙◌, ap, sym, refl, subst, ℕ, List, [], ◌∷◌, ◌++◌, ◌+◌, ◌<◌, ◌≤◌, length, take, Some, true, arith}
use Rattle.std.specs.Prelude.{◌==◌}
use Rattle.std.specs.List.{All, AllByRecursion, AllPairs, flat_map}
use Rattle.std.specs.Ordering.{nat_cmp, ordering_then}
use Rattle.std.specs.declared.cmp.Ordering.{Ordering}
use Rattle.std.specs.declared.cmp.Ordering.TheVariants.{Less, Equal}
use Rattle.std.proofs.Math.Nat.{mod-mod}
use Rattle.std.proofs.lemmas.Bool.Decides.{nat_tests}
use Rattle.std.proofs.lemmas.List.{length-append}
use Rattle.std.proofs.lemmas.List.Elements.{All-append, All-from_recursion, All-take, All-weaker, filter-append, recursion_from_All}
use Rattle.std.proofs.lemmas.Option.{same_Some}
use Rattle.ksql_types.specs.Lane.{lane}
use Rattle.ksql_types.specs.declared.relation.Relation.{Relation}
use Rattle.ksql_types.specs.declared.value.Value.{Value}
use Rattle.ksql_place.specs.Ascending.{Rises, ascending}
use Rattle.ksql_place.specs.Order.{record_cmp, stamp_cmp}
use Rattle.ksql_place.specs.declared.change.Decoded.{Decoded}
use Rattle.ksql_place.specs.declared.change.Decoded.TheVariants.{Good, Skipped, Tombstone}
use Rattle.ksql_place.specs.declared.change.SourceRecord.{SourceRecord}
use Rattle.ksql_place.specs.declared.stamp.Stamp.{Stamp}
use Rattle.ksql_place.proofs.Ascending.{Ascends-ascending, IsSorted-from_ascends}
use Rattle.ksql_place.proofs.Orders.{record_total, stamp_cmp-equal}
use Rattle.ksql_place.proofs.TwoLists.{Rises-from_sort}
use Rattle.ksql_program.specs.Program.{relation_at}
use Rattle.ksql_program.specs.declared.program.Item.{Item}
use Rattle.meaning_laws.specs.Bounds.{IsDecodedOf, IsInTime, IsKeyOf, IsRecordOf}
use Rattle.record_codec.specs.Spelling.{IsShort}
use Rattle.topic_files.specs.declared.topic.Fed.{Fed}
use Rattle.topic_feeds.specs.Feeding.{fed_after, fed_from, in_part}
use Rattle.topic_feeds.proofs.Feeds.{fed-topic}
use Rattle.topic_feeds.proofs.Partitions.{in_part-own}
use Rattle.short_laws.specs.Fed.{IsInItsPartition}
use Rattle.short_laws.specs.Short.{HoldsInDecoded, IsProper, IsShortRecord, IsText, IsTextRecord}
use Rattle.feed_laws.specs.Feeds.{Source, fed_of, records_of}
use Rattle.feed_laws.specs.Fitting.{AreSourcesOf, Fits, IsFedOf, IsOfDeclared, IsSourceOf}
use Rattle.feed_laws.proofs.Lists.{AllPairs-from_pairwise, Pairwise, each-ascending, each-flat_map, each-weaker, pairwise-append, pairwise-ascending, pairwise-from_AllPairs, pairwise-weaker}

-- ---- no two stamps of a feed are the same

abbrev HasOtherStamp : SourceRecord → SourceRecord → Type 0
HasOtherStamp a b = a.stamp ≡ b.stamp → ⊥

more-in_part : (part : ℕ) (before : List SourceRecord) (r : SourceRecord) → length (in_part part before) ≤ length (in_part part (before ++ r ∷ []))
more-in_part part before r =
    let passes = λ (s : SourceRecord). s.stamp.part == part in
    omega (arith, ap length (filter-append passes before (r ∷ [])), length-append (in_part part before) (in_part part (r ∷ [])))

-- offsets continue from the earlier records
low-offsets : (feed : ℕ) (relation : Relation) (before : List SourceRecord) (feds : List Fed) →
    AllByRecursion (λ r. length (in_part r.stamp.part before) ≤ r.stamp.offset) (fed_from feed relation before feds)
unfolding fed_from
low-offsets feed relation before [] = tt
low-offsets feed relation before (fed ∷ feds) =
    let made : SourceRecord = fed_after feed relation before fed in (
      omega arith,
      each-weaker (λ (r : SourceRecord). length (in_part r.stamp.part (before ++ made ∷ [])) ≤ r.stamp.offset) (λ (r : SourceRecord). length (in_part r.stamp.part before) ≤ r.stamp.offset)
          (λ r low. omega (arith, low, more-in_part r.stamp.part before made)) (fed_from feed relation (before ++ made ∷ []) feds) (low-offsets feed relation (before ++ made ∷ []) feds),
    )

other-stamp : (before : List SourceRecord) (made r : SourceRecord) → made.stamp.offset ≡ length (in_part made.stamp.part before) →
    length (in_part r.stamp.part (before ++ made ∷ [])) ≤ r.stamp.offset → HasOtherStamp made r
other-stamp before made r first low same =
    let part : ℕ = made.stamp.part in
    let same_part : r.stamp.part ≡ part = ap (λ (s : Stamp). s.part) (sym same) in
    let same_offset : made.stamp.offset ≡ r.stamp.offset = ap (λ (s : Stamp). s.offset) same in
    let own_low : length (in_part part (before ++ made ∷ [])) ≤ r.stamp.offset = subst (λ (p : ℕ). length (in_part p (before ++ made ∷ [])) ≤ r.stamp.offset) same_part low in
    omega (arith, own_low, first, same_offset, ap length (in_part-own part before made refl), length-append (in_part part before) (made ∷ []))

apart-fed : (feed : ℕ) (relation : Relation) (before : List SourceRecord) (feds : List Fed) → Pairwise HasOtherStamp (fed_from feed relation before feds)
unfolding fed_from
apart-fed feed relation before [] = tt
apart-fed feed relation before (fed ∷ feds) =
    let made : SourceRecord = fed_after feed relation before fed in
    let after : List SourceRecord = before ++ made ∷ [] in (
      each-weaker (λ (r : SourceRecord). length (in_part r.stamp.part after) ≤ r.stamp.offset) (HasOtherStamp made) (λ r low. other-stamp before made r refl low)
          (fed_from feed relation after feds) (low-offsets feed relation after feds),
      apart-fed feed relation after feds,
    )

abbrev pub IsApart : Source → Source → Type 0
IsApart a b = a.relation.number ≢ b.relation.number

module _ (feed : ℕ) (count : Source → ℕ) where
  of-topic : (s : Source) → AllByRecursion (λ r. r.stamp.topic ≡ s.relation.number) (fed_of feed count s)
  of-topic s =
      recursion_from_All (λ (r : SourceRecord). r.stamp.topic ≡ s.relation.number) (fed_of feed count s) (fed-topic feed s.relation s.before (take (count s) s.left))

  apart-sources : (sources : List Source) → Pairwise IsApart sources → Pairwise HasOtherStamp (flat_map (fed_of feed count) sources)
  apart-sources [] apart = tt
  apart-sources (s ∷ sources) apart =
      pairwise-append HasOtherStamp own rest (apart-fed feed s.relation s.before (take (count s) s.left)) (apart-sources sources apart.1)
      (each-weaker (λ (x : SourceRecord). x.stamp.topic ≡ s.relation.number) (λ (x : SourceRecord). AllByRecursion (HasOtherStamp x) rest)
      (λ x of_own. each-weaker IsOther (HasOtherStamp x) (λ y other same. other (sym of_own ∙ ap (λ (t : Stamp). t.topic) same)) rest others) own (of-topic s))
    where
      own : List SourceRecord
      own = fed_of feed count s

      rest : List SourceRecord
      rest = flat_map (fed_of feed count) sources

      IsOther : SourceRecord → Type 0
      IsOther y = s.relation.number ≢ y.stamp.topic

      others : AllByRecursion IsOther rest
      others =
          each-flat_map IsOther (IsApart s) (fed_of feed count)
          (λ b other. each-weaker (λ (y : SourceRecord). y.stamp.topic ≡ b.relation.number) IsOther (λ y of_b same. other (same ∙ of_b)) (fed_of feed count b) (of-topic b)) sources apart.0

  pub records-rise : (sources : List Source) → AllPairs IsApart sources → Rises record_cmp (records_of feed count sources)
  records-rise sources apart =
      let fed : List SourceRecord = flat_map (fed_of feed count) sources in
      let other : Pairwise HasOtherStamp (ascending record_cmp fed) =
      pairwise-ascending record_cmp HasOtherStamp (λ a b differ same. differ (sym same)) fed (apart-sources sources (pairwise-from_AllPairs IsApart sources apart)) in
      Rises-from_sort record_total (ascending record_cmp fed) (IsSorted-from_ascends record_total (ascending record_cmp fed) (Ascends-ascending record_total fed))
      (AllPairs-from_pairwise (λ (a b : SourceRecord). record_cmp a b ≡ Equal → ⊥) (ascending record_cmp fed)
      (pairwise-weaker HasOtherStamp (λ (a b : SourceRecord). record_cmp a b ≡ Equal → ⊥) (λ a b differ tie. differ (stamp_cmp-equal a.stamp b.stamp tie)) (ascending record_cmp fed) other))

-- ---- the records of a feed fit

-- a record of a feed: of a relation of the program, in its partition
pub record IsGood (items : List Item) (feed : ℕ) (r : SourceRecord) : Type 0 where
  pub relation : Relation
  pub there : relation_at items r.stamp.topic ≡ Some relation
  pub declared : relation.declared ≡ true
  pub of_feed : r.stamp.feed ≡ feed
  pub fits : IsFedOf relation (record { time = r.time; key = r.key; value = r.value })
  pub placed : r.stamp.part ≡ lane r.key relation.partitions r.stamp.part

lane-again : (key : List Value) (n home : ℕ) → lane key n home ≡ lane key n (lane key n home)
lane-again [] n home = sym (mod-mod home n)
lane-again (first ∷ more) n home = refl

good-fed : (items : List Item) (feed : ℕ) (relation : Relation) (before : List SourceRecord) (feds : List Fed) → relation_at items relation.number ≡ Some relation →
    relation.declared ≡ true → AllByRecursion (IsFedOf relation) feds → AllByRecursion (IsGood items feed) (fed_from feed relation before feds)
unfolding fed_from
good-fed items feed relation before [] there declared fits = tt
good-fed items feed relation before (fed ∷ feds) there declared fits = (
  record { relation = relation; there = there; declared = declared; of_feed = refl; fits = fits.0; placed = lane-again fed.key relation.partitions (length before) },
  good-fed items feed relation (before ++ fed_after feed relation before fed ∷ []) feds there declared fits.1,
)

pub good-records : (items : List Item) (fed feed : ℕ) (count : Source → ℕ) (sources : List Source) → All (IsSourceOf items fed) sources →
    All (IsGood items feed) (records_of feed count sources)
good-records items fed feed count sources are =
    All-from_recursion (IsGood items feed) (records_of feed count sources)
    (each-ascending record_cmp (IsGood items feed) (flat_map (fed_of feed count) sources)
    (each-flat_map (IsGood items feed) (IsSourceOf items fed) (fed_of feed count)
    (λ s is. good-fed items feed s.relation s.before (take (count s) s.left) is.relation is.declared
    (recursion_from_All (IsFedOf s.relation) (take (count s) s.left) (All-take (IsFedOf s.relation) (count s) s.left is.left)))
    sources (recursion_from_All (IsSourceOf items fed) sources are)))

holds-weaker : (P Q : Value → Type 0) → ((v : Value) → P v → Q v) → (d : Decoded) → HoldsInDecoded P d → HoldsInDecoded Q d
holds-weaker P Q to (Good row) holds = All-weaker P Q to row holds
holds-weaker P Q to Tombstone holds = tt
holds-weaker P Q to Skipped holds = tt

module _ (items : List Item) (feed : ℕ) (r : SourceRecord) (good : IsGood items feed r) where
  same-relation : (q : Relation) → relation_at items r.stamp.topic ≡ Some q → good.relation ≡ q
  same-relation q there = same_Some good.relation q (sym good.there ∙ there)

  good-columns : IsRecordOf items r
  good-columns = record {
    key = λ q there. subst (λ (x : Relation). IsKeyOf x.schema.keys r.key) (same-relation q there) good.fits.key;
    row = λ q there. subst (λ (x : Relation). IsDecodedOf x.schema.values r.value) (same-relation q there) good.fits.row;
  }

  good-placed : IsInItsPartition items r
  good-placed = λ q there. subst (λ (x : Relation). r.stamp.part ≡ lane r.key x.partitions r.stamp.part) (same-relation q there) good.placed

  good-short : IsShortRecord r
  good-short = (All-weaker IsProper IsShort (λ v proper. proper.0) r.key good.fits.proper_key, holds-weaker IsProper IsShort (λ v proper. proper.0) r.value good.fits.proper_row)

  good-text : IsTextRecord r
  good-text = (All-weaker IsProper IsText (λ v proper. proper.1) r.key good.fits.proper_key, holds-weaker IsProper IsText (λ v proper. proper.1) r.value good.fits.proper_row)

-- ---- after the records of earlier feeds

nat-less : (a b : ℕ) → a < b → nat_cmp a b ≡ Less
nat-less a b less = grind (arith, nat_tests)

less-first : (o rest : Ordering) → o ≡ Less → ordering_then o rest ≡ Less
less-first o rest less = ap (λ (p : Ordering). ordering_then p rest) less

less-feed : (a b : Stamp) → a.feed < b.feed → stamp_cmp a b ≡ Less
less-feed a b less = less-first (nat_cmp a.feed b.feed) _ (nat-less a.feed b.feed less)

rises-append : (fed : ℕ) (order records : List SourceRecord) → Rises record_cmp order → Rises record_cmp records → All (λ r. r.stamp.feed ≤ fed) order →
    All (λ r. r.stamp.feed ≡ fed + 1) records → Rises record_cmp (order ++ records)
rises-append fed order records order_up records_up early late =
    AllPairs-from_pairwise IsBelow (order ++ records)
    (pairwise-append IsBelow order records (pairwise-from_AllPairs IsBelow order order_up) (pairwise-from_AllPairs IsBelow records records_up)
    (each-weaker IsEarly (λ (u : SourceRecord). AllByRecursion (IsBelow u) records)
    (λ u low. each-weaker IsLate (IsBelow u) (λ v high. less-feed u.stamp v.stamp (omega (arith, low, high))) records (recursion_from_All IsLate records late)) order
    (recursion_from_All IsEarly order early)))
  where
    IsBelow : SourceRecord → SourceRecord → Type 0
    IsBelow a b = record_cmp a b ≡ Less

    IsEarly : SourceRecord → Type 0
    IsEarly r = r.stamp.feed ≤ fed

    IsLate : SourceRecord → Type 0
    IsLate r = r.stamp.feed ≡ fed + 1

module _ (items : List Item) (fed : ℕ) (count : Source → ℕ) (sources : List Source) (are : AreSourcesOf items fed sources) where
  abbrev records : List SourceRecord
  records = records_of (fed + 1) count sources

  goods : All (IsGood items (fed + 1)) records
  goods = good-records items fed (fed + 1) count sources are.each

  of-feed : All (λ r. r.stamp.feed ≡ fed + 1) records
  of-feed = All-weaker (IsGood items (fed + 1)) (λ (r : SourceRecord). r.stamp.feed ≡ fed + 1) (λ r good. good.of_feed) records goods

  -- they rise, and are of the feed
  pub feed-rises : Rises record_cmp records × All (λ r. r.stamp.feed ≡ fed + 1) records
  feed-rises = (records-rise (fed + 1) count sources are.apart, of-feed)

  -- and the order with them fits
  pub feed-fits : (order : List SourceRecord) → Fits items order → All (λ r. r.stamp.feed ≤ fed) order → Fits items (order ++ records)
  feed-fits order fits early = record {
    fed = record {
      rises = rises-append fed order records fits.fed.rises (records-rise (fed + 1) count sources are.apart) early of-feed;
      columns = All-append (IsRecordOf items) order records fits.fed.columns (All-weaker (IsGood items (fed + 1)) (IsRecordOf items) (λ r good. good-columns items (fed + 1) r good) records goods);
      placed =
          All-append (IsInItsPartition items) order records fits.fed.placed
          (All-weaker (IsGood items (fed + 1)) (IsInItsPartition items) (λ r good. good-placed items (fed + 1) r good) records goods);
    };
    declared = All-append (IsOfDeclared items) order records fits.declared (All-weaker (IsGood items (fed + 1)) (IsOfDeclared items) (λ r good. (good.relation, good.there, good.declared)) records goods);
    in_time = All-append IsInTime order records fits.in_time (All-weaker (IsGood items (fed + 1)) IsInTime (λ r good. good.fits.time) records goods);
    short = All-append IsShortRecord order records fits.short (All-weaker (IsGood items (fed + 1)) IsShortRecord (λ r good. good-short items (fed + 1) r good) records goods);
    text = All-append IsTextRecord order records fits.text (All-weaker (IsGood items (fed + 1)) IsTextRecord (λ r good. good-text items (fed + 1) r good) records goods);
    counted =
        All-append (λ (r : SourceRecord). 0 < r.stamp.feed) order records fits.counted
        (All-weaker (λ (r : SourceRecord). r.stamp.feed ≡ fed + 1) (λ (r : SourceRecord). 0 < r.stamp.feed) (λ r is. omega (arith, is)) records of-feed);
  }
