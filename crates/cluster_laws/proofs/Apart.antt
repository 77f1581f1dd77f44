-- The records of a feed, source by source: those of each partition rise.
use Rattle.std.proofs.Common.{◌≡◌, ◌≢◌, ◌∙◌, ap, ap₂, refl, sym, subst, ℕ, List, [], ◌∷◌, ◌++◌, Bool, true, false, cond, length, take, eq-eqb, eqb-true, ne_eqb}
use Rattle.std.specs.Prelude.{All, filter, flat_map, ◌==◌, ◌&&◌}
use Rattle.std.specs.List.{AllByRecursion, AllPairs}
use Rattle.std.specs.declared.cmp.Ordering.TheVariants.{Less}
use Rattle.std.proofs.lemmas.Bool.{false≢true}
use Rattle.std.proofs.lemmas.List.{append-nil}
use Rattle.std.proofs.lemmas.List.Elements.{All-from_recursion, filter-append, recursion_from_All}
use Rattle.std.proofs.lemmas.List.Kept.{AllPairs-filter}
use Rattle.std.proofs.lemmas.List.Sorted.{length_permutation}
use Rattle.ksql_types.specs.declared.relation.Relation.{Relation}
use Rattle.ksql_place.specs.Ascending.{Rises}
use Rattle.ksql_place.specs.Order.{part_stamps, record_cmp, stamp_cmp}
use Rattle.ksql_place.specs.declared.change.SourceRecord.{SourceRecord}
use Rattle.ksql_place.specs.declared.order.PartTimes.{PartTimes}
use Rattle.ksql_place.proofs.Ascending.{Ascends, Ascends-ascending, IsPermutation-ascending, NoneBefore, ascending-kept, filter-ascending}
use Rattle.ksql_place.proofs.Orders.{record_total, stamp_total}
use Rattle.ksql_place.proofs.Queues.{part_stamps-kept}
use Rattle.ksql_nodes.proofs.Lists.{All-append}
use Rattle.topic_files.specs.declared.topic.Fed.{Fed}
use Rattle.topic_feeds.specs.Feeding.{fed_from, in_part, part_of}
use Rattle.topic_feeds.proofs.Feeds.{fed-feed, fed-topic}
use Rattle.topic_feeds.proofs.Partitions.{part-stamped, stamps}
use Rattle.core_state.specs.State.{is_in}
use Rattle.topic_log.specs.Feeding.{RiseApart}
use Rattle.feed_laws.specs.Feeds.{Source, fed_of, records_of}
use Rattle.feed_laws.proofs.FedRecords.{IsApart}
use Rattle.feed_laws.proofs.Lists.{Pairwise, each-weaker, pairwise-from_AllPairs}
use Rattle.cluster_laws.specs.Feeding.{CanFeed}

-- ---- one partition

none-before : (r : SourceRecord) (rs : List SourceRecord) → NoneBefore stamp_cmp r.stamp (stamps rs) → NoneBefore record_cmp r rs
none-before r [] none = tt
none-before r (s ∷ rs) none = (none.0, none-before r rs none.1)

-- records ascend where their stamps do
ascends-by_stamps : (rs : List SourceRecord) → Ascends stamp_cmp (stamps rs) → Ascends record_cmp rs
ascends-by_stamps [] up = tt
ascends-by_stamps (r ∷ rs) up = (none-before r rs up.0, ascends-by_stamps rs up.1)

part-ascends : (feed : ℕ) (relation : Relation) (before : List SourceRecord) (feds : List Fed) (part : ℕ) → All (λ r. r.stamp.feed ≢ feed) before →
    Ascends record_cmp (in_part part (fed_from feed relation before feds))
part-ascends feed relation before feds part none =
    let p : PartTimes = part_of feed relation before feds part in
    ascends-by_stamps (in_part part (fed_from feed relation before feds))
    (subst (Ascends stamp_cmp) (part_stamps-kept feed p ∙ sym (part-stamped feed relation before feds part none)) (Ascends-ascending stamp_total (part_stamps feed p)))

-- ---- one topic

own-topic : (topic q : ℕ) (rs : List SourceRecord) → AllByRecursion (λ r. r.stamp.topic ≡ topic) rs → filter (is_in topic q) rs ≡ in_part q rs
own-topic topic q [] own = refl
own-topic topic q (r ∷ rs) own =
    ap₂ (λ (b : Bool) (us : List SourceRecord). cond (b && (r.stamp.part == q)) (r ∷ us) us) (eq-eqb r.stamp.topic topic own.0) (own-topic topic q rs own.1)

other-topic : (topic q : ℕ) (rs : List SourceRecord) → AllByRecursion (λ r. r.stamp.topic ≢ topic) rs → filter (is_in topic q) rs ≡ []
other-topic topic q [] other = refl
other-topic topic q (r ∷ rs) other =
    ap₂ (λ (b : Bool) (us : List SourceRecord). cond (b && (r.stamp.part == q)) (r ∷ us) us) (ne_eqb r.stamp.topic topic other.0) (other-topic topic q rs other.1)

-- ---- all sources

module _ (feed : ℕ) (count : Source → ℕ) where
  abbrev fed : List Source → List SourceRecord
  fed ss = flat_map (fed_of feed count) ss

  of-topic : (s : Source) → AllByRecursion (λ r. r.stamp.topic ≡ s.relation.number) (fed_of feed count s)
  of-topic s = recursion_from_All (λ (r : SourceRecord). r.stamp.topic ≡ s.relation.number) (fed_of feed count s) (fed-topic feed s.relation s.before (take (count s) s.left))

  other-source : (topic q : ℕ) (s : Source) → s.relation.number ≢ topic → filter (is_in topic q) (fed_of feed count s) ≡ []
  other-source topic q s other =
      other-topic topic q (fed_of feed count s)
      (each-weaker (λ (r : SourceRecord). r.stamp.topic ≡ s.relation.number) (λ (r : SourceRecord). r.stamp.topic ≢ topic) (λ r own is. other (sym own ∙ is)) (fed_of feed count s) (of-topic s))

  other-sources : (topic q : ℕ) (ss : List Source) → AllByRecursion (λ s. s.relation.number ≢ topic) ss → filter (is_in topic q) (fed ss) ≡ []
  other-sources topic q [] others = refl
  other-sources topic q (s ∷ ss) others =
      filter-append (is_in topic q) (fed_of feed count s) (fed ss)
      ∙ ap₂ (λ (us vs : List SourceRecord). us ++ vs) (other-source topic q s others.0) (other-sources topic q ss others.1)

  -- the records of a partition ascend
  ascends-apart : (topic q : ℕ) (ss : List Source) → Pairwise IsApart ss → AllByRecursion (CanFeed feed) ss → Ascends record_cmp (filter (is_in topic q) (fed ss))
  ascends-apart topic q [] apart can = tt
  ascends-apart topic q (s ∷ ss) apart can = by (s.relation.number == topic) refl (ascends-apart topic q ss apart.1 can.1)
    where
      own : List SourceRecord
      own = fed_of feed count s

      none-else : filter (is_in s.relation.number q) (fed ss) ≡ []
      none-else =
          other-sources s.relation.number q ss
          (each-weaker (IsApart s) (λ (other : Source). other.relation.number ≢ s.relation.number) (λ other differ same. differ (sym same)) ss apart.0)

      by : (b : Bool) → (s.relation.number == topic) ≡ b → Ascends record_cmp (filter (is_in topic q) (fed ss)) → Ascends record_cmp (filter (is_in topic q) (own ++ fed ss))
      by true is rest =
          let only : filter (is_in s.relation.number q) (own ++ fed ss) ≡ in_part q own =
          filter-append (is_in s.relation.number q) own (fed ss)
          ∙ ap₂ (λ (us vs : List SourceRecord). us ++ vs) (own-topic s.relation.number q own (of-topic s)) none-else
          ∙ append-nil (in_part q own) in
          subst (λ (t : ℕ). Ascends record_cmp (filter (is_in t q) (own ++ fed ss))) (eqb-true s.relation.number topic is)
          (subst (Ascends record_cmp) (sym only) (part-ascends feed s.relation s.before (take (count s) s.left) q can.0.none))
      by false is rest =
          let only : filter (is_in topic q) (own ++ fed ss) ≡ filter (is_in topic q) (fed ss) =
          filter-append (is_in topic q) own (fed ss)
          ∙ ap (λ (us : List SourceRecord). us ++ filter (is_in topic q) (fed ss)) (other-source topic q s (λ same. false≢true (sym is ∙ eq-eqb s.relation.number topic same))) in
          subst (Ascends record_cmp) (sym only) rest

  -- and so they rise, since they do in the order of consumption
  pub fed-apart : (ss : List Source) → AllPairs IsApart ss → All (CanFeed feed) ss → Rises record_cmp (records_of feed count ss) → RiseApart (fed ss)
  fed-apart ss apart can rises topic q =
      let own : List SourceRecord = filter (is_in topic q) (fed ss) in
      subst (Rises record_cmp)
      (filter-ascending record_total (is_in topic q) (fed ss)
      ∙ ascending-kept record_total own (ascends-apart topic q ss (pairwise-from_AllPairs IsApart ss apart) (recursion_from_All (CanFeed feed) ss can)))
      (AllPairs-filter (λ a b. record_cmp a b ≡ Less) (is_in topic q) (records_of feed count ss) rises)

  -- they are of the feed
  pub fed-feeds : (ss : List Source) → All (λ r. r.stamp.feed ≡ feed) (fed ss)
  fed-feeds ss = All-from_recursion IsOfFeed (fed ss) (each ss)
    where
      IsOfFeed : SourceRecord → Type 0
      IsOfFeed r = r.stamp.feed ≡ feed

      each : (left : List Source) → AllByRecursion IsOfFeed (fed left)
      each [] = tt
      each (s ∷ left) =
          All-append IsOfFeed (fed_of feed count s) (fed left)
          (recursion_from_All IsOfFeed (fed_of feed count s) (fed-feed feed s.relation s.before (take (count s) s.left))) (each left)

  -- and as many as in the order of consumption
  pub fed-many : (ss : List Source) → length (fed ss) ≡ length (records_of feed count ss)
  fed-many ss = sym (length_permutation (fed ss) (records_of feed count ss) (IsPermutation-ascending record_total (fed ss)))
