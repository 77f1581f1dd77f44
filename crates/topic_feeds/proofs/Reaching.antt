-- How far a topic goes in a feed, record by record.
use Rattle.std.proofs.Common.{◌≡◌, ◌≢◌, ◌∙◌, ap, ap₂, sym, refl, ℕ, List, [], ◌∷◌, ◌++◌, ◌+◌, ◌<◌, ◌≤◌, Bool, true, false, cond, length, max, get_or, set, drop, arith, append_assoc, eqb-true, eq-eqb, length-set}
use Rattle.std.specs.Prelude.{◌==◌}
use Rattle.std.specs.List.{All}
use Rattle.std.proofs.lemmas.Bool.{false≢true}
use Rattle.std.proofs.lemmas.List.{append-nil, length-append, get_or-set_other, drop-append-le}
use Rattle.std.proofs.lemmas.Grind.{get_or-set_at}
use Rattle.ksql_types.specs.Lane.{lane}
use Rattle.ksql_types.specs.declared.relation.Relation.{Relation}
use Rattle.ksql_place.specs.declared.change.SourceRecord.{SourceRecord}
use Rattle.ksql_place.specs.Order.{greatest}
use Rattle.ksql_place.proofs.Stamps.{greatest-append}
use Rattle.topic_files.specs.declared.topic.Fed.{Fed}
use Rattle.topic_feeds.specs.declared.feeding.Reached.{Reached}
use Rattle.topic_feeds.specs.Feeding.{in_feed, in_part, fed_after, fed_from}
use Rattle.topic_feeds.specs.Reaching.{Reaches}
use Rattle.topic_feeds.proofs.Feeds.{fed-length}
use Rattle.topic_feeds.proofs.Partitions.{feed_times, feed_times-own, in_part-own, in_part-other, none_before, times_of}

-- numbers of partitions, where one is written
each-set : (n own next : ℕ) (f g : ℕ → ℕ) (xs : List ℕ) → length xs ≡ n → own < n → next ≡ g own →
    ((part : ℕ) → (own == part) ≡ false → f part ≡ g part) → ((part d : ℕ) → part < n → get_or xs part d ≡ f part) →
    (part d : ℕ) → part < n → get_or (set xs own next) part d ≡ g part
each-set n own next f g xs long within next-is same each part d below = by (own == part) refl
  where
    by : (is : Bool) → (own == part) ≡ is → get_or (set xs own next) part d ≡ g part
    by true is =
        let here : own ≡ part = eqb-true own part is in
        get_or-set_at xs own part next d (sym here) (omega (arith, long, within)) ∙ next-is ∙ ap g here
    by false is =
        let other : part ≢ own = λ here. false≢true (sym is ∙ eq-eqb own part (sym here)) in
        get_or-set_other xs own part next d other ∙ each part d below ∙ same part is

-- the greatest times of the partitions in a feed
pub record AreHighs (feed n : ℕ) (before : List SourceRecord) (highs : List ℕ) : Type 0 where
  pub long : length highs ≡ n
  pub each : (part d : ℕ) → part < n → get_or highs part d ≡ greatest (feed_times feed part before)

-- the record that is made of a line
abbrev pub made : ℕ → Relation → ℕ → ℕ → ℕ → Fed → SourceRecord
made feed relation part high offset fed = record {
  stamp = record { feed = feed; high = high; topic = relation.number; part = part; offset = offset };
  time = fed.time;
  key = fed.key;
  value = fed.value;
}

made-after : (feed : ℕ) (relation : Relation) (before : List SourceRecord) (fed : Fed) (part high offset : ℕ) → part ≡ lane fed.key relation.partitions (length before) →
    high ≡ max (greatest (feed_times feed part before)) fed.time → offset ≡ length (in_part part before) →
    made feed relation part high offset fed ≡ fed_after feed relation before fed
made-after feed relation before fed part high offset part-is high-is offset-is =
    let greater : high ≡ greatest (feed_times feed part before ++ fed.time ∷ []) = omega (arith, high-is, greatest-append (feed_times feed part before) fed.time) in
    ap₂ (λ (h o : ℕ). made feed relation part h o fed) greater offset-is
    ∙ ap (λ (p : ℕ). made feed relation p (greatest (feed_times feed p before ++ fed.time ∷ [])) (length (in_part p before)) fed) part-is

-- the records since the feed began are its first ones, and so far goes what is reached
pub record IsFed (feed : ℕ) (relation : Relation) (feds : List Fed) (before since : List SourceRecord) (rest : List Fed) (reached : Reached) (highs : List ℕ) : Type 0 where
  pub told : since ++ fed_from feed relation (before ++ since) rest ≡ fed_from feed relation before feds
  pub reaches : Reaches relation (before ++ since) reached
  pub are_highs : AreHighs feed relation.partitions (before ++ since) highs

-- before the first record of the feed
pub fed-none : (feed : ℕ) (relation : Relation) (feds : List Fed) (before : List SourceRecord) (reached : Reached) (highs : List ℕ) → Reaches relation before reached →
    All (λ r. r.stamp.feed ≢ feed) before → length highs ≡ relation.partitions → ((part d : ℕ) → part < relation.partitions → get_or highs part d ≡ 0) →
    IsFed feed relation feds before [] feds reached highs
fed-none feed relation feds before reached highs reaches none long zeros = record {
  told = ap (λ (rs : List SourceRecord). fed_from feed relation rs feds) same;
  reaches = record {
    count = reaches.count ∙ ap length (sym same);
    long = reaches.long;
    each = λ part d below. reaches.each part d below ∙ ap (λ (rs : List SourceRecord). length (in_part part rs)) (sym same);
  };
  are_highs = record {
    long = long;
    each = λ part d below.
        zeros part d below
        ∙ sym (ap (λ (rs : List SourceRecord). greatest (feed_times feed part rs)) same ∙ ap (λ (rs : List SourceRecord). greatest (times_of rs)) (none_before feed part before none));
  };
}
  where
    same : before ++ [] ≡ before
    same = append-nil before

module _ (feed : ℕ) (relation : Relation) (feds : List Fed) (before since : List SourceRecord) (fed : Fed) (rest : List Fed) (reached : Reached) (highs : List ℕ)
    (part high offset : ℕ) (is_fed : IsFed feed relation feds before since (fed ∷ rest) reached highs)
    (part-is : part ≡ lane fed.key relation.partitions (length (before ++ since))) (within : part < relation.partitions)
    (offset-is : offset ≡ length (in_part part (before ++ since))) (high-is : high ≡ max (greatest (feed_times feed part (before ++ since))) fed.time) where
  abbrev pub all : List SourceRecord
  all = before ++ since

  abbrev pub r : SourceRecord
  r = made feed relation part high offset fed

  grouped : before ++ (since ++ r ∷ []) ≡ all ++ r ∷ []
  grouped = sym (append_assoc before since (r ∷ []))

  next_part : in_part part (all ++ r ∷ []) ≡ in_part part all ++ r ∷ []
  next_part = in_part-own part all r refl

  next_count : offset + 1 ≡ length (in_part part (all ++ r ∷ []))
  next_count = omega (arith, offset-is, ap length next_part, length-append (in_part part all) (r ∷ []))

  next_high : high ≡ greatest (feed_times feed part (all ++ r ∷ []))
  next_high = omega (arith, high-is, greatest-append (feed_times feed part all) fed.time, ap greatest (feed_times-own feed part all r refl refl))

  pub fed-next : (now : Reached) (next_highs : List ℕ) → now.count ≡ reached.count + 1 → now.parts.items ≡ set reached.parts.items part (offset + 1) → next_highs ≡ set highs part high →
      IsFed feed relation feds before (since ++ r ∷ []) rest now next_highs
  unfolding fed_from
  fed-next now next_highs count-is parts-is highs-are = record {
    told =
        append_assoc since (r ∷ []) (fed_from feed relation (before ++ (since ++ r ∷ [])) rest)
        ∙ ap (λ (rs : List SourceRecord). since ++ r ∷ fed_from feed relation rs rest) grouped
        ∙ ap (λ (s : SourceRecord). since ++ s ∷ fed_from feed relation (all ++ s ∷ []) rest) (made-after feed relation all fed part high offset part-is high-is offset-is)
        ∙ is_fed.told;
    reaches = record {
      count = omega (arith, count-is, is_fed.reaches.count, length-append all (r ∷ []), ap length grouped);
      long = ap length parts-is ∙ length-set reached.parts.items part (offset + 1) ∙ is_fed.reaches.long;
      each = λ p d below.
          ap (λ (xs : List ℕ). get_or xs p d) parts-is
          ∙ each-set relation.partitions part (offset + 1) (λ q. length (in_part q all)) (λ q. length (in_part q (all ++ r ∷ []))) reached.parts.items is_fed.reaches.long within next_count
          (λ q other. ap length (sym (in_part-other q all r other))) is_fed.reaches.each p d below
          ∙ ap (λ (rs : List SourceRecord). length (in_part p rs)) (sym grouped);
    };
    are_highs = record {
      long = ap length highs-are ∙ length-set highs part high ∙ is_fed.are_highs.long;
      each = λ p d below.
          ap (λ (xs : List ℕ). get_or xs p d) highs-are
          ∙ each-set relation.partitions part high (λ q. greatest (feed_times feed q all)) (λ q. greatest (feed_times feed q (all ++ r ∷ []))) highs is_fed.are_highs.long within next_high
          (λ q other. ap (λ (rs : List SourceRecord). greatest (times_of (in_feed feed rs))) (sym (in_part-other q all r other))) is_fed.are_highs.each p d below
          ∙ ap (λ (rs : List SourceRecord). greatest (feed_times feed p rs)) (sym grouped);
    };
  }

-- one more record after those from before the feed
pub since-next : (old items new : List SourceRecord) (r : SourceRecord) → items ≡ old ++ drop (length old) items → new ≡ items ++ r ∷ [] →
    (new ≡ old ++ drop (length old) new) × (drop (length old) new ≡ drop (length old) items ++ r ∷ [])
since-next old items new r kept new-is =
    let since : List SourceRecord = drop (length old) items in
    let low : length old ≤ length items = omega (arith, ap length kept, length-append old since) in
    let next : drop (length old) new ≡ since ++ r ∷ [] = ap (drop (length old)) new-is ∙ drop-append-le (length old) items (r ∷ []) low in
    (new-is ∙ ap (λ (rs : List SourceRecord). rs ++ r ∷ []) kept ∙ append_assoc old since (r ∷ []) ∙ ap (λ (rs : List SourceRecord). old ++ rs) (sym next), next)

-- no partition has more records than the topic
pub few_in_part : (part : ℕ) (rs : List SourceRecord) → length (in_part part rs) ≤ length rs
few_in_part part [] = omega arith
few_in_part part (r ∷ rs) =
    elim (r.stamp.part == part) as (λ (b : Bool). length (cond b (r ∷ in_part part rs) (in_part part rs)) ≤ length (r ∷ rs))
    [ true ↦ omega (arith, few_in_part part rs) | false ↦ omega (arith, few_in_part part rs) ]

-- the records that are left fit
pub fed-fits : (feed : ℕ) (relation : Relation) (feds : List Fed) (before since : List SourceRecord) (rest : List Fed) (reached : Reached) (highs : List ℕ) →
    IsFed feed relation feds before since rest reached highs → length before + length feds ≡ reached.count + length rest
fed-fits feed relation feds before since rest reached highs is_fed =
    omega (
      arith,
      is_fed.reaches.count,
      length-append before since,
      ap length is_fed.told,
      length-append since (fed_from feed relation (before ++ since) rest),
      fed-length feed relation (before ++ since) rest,
      fed-length feed relation before feds,
    )

-- with no line left the records are those of the feed
pub fed-all : (feed : ℕ) (relation : Relation) (feds : List Fed) (before since : List SourceRecord) (rest : List Fed) (reached : Reached) (highs : List ℕ) →
    IsFed feed relation feds before since rest reached highs → length rest ≡ 0 → since ≡ fed_from feed relation before feds
unfolding fed_from
fed-all feed relation feds before since [] reached highs is_fed none = sym (append-nil since) ∙ is_fed.told
fed-all feed relation feds before since (fed ∷ rest) reached highs is_fed none = absurd (omega (arith, none))
