-- The records of a feed are in partitions of topics that no task writes.
use Rattle.std.proofs.Common.{◌≡◌, ◌∙◌, ap, refl, sym, subst, ℕ, ◌<◌, ◌≤◌, true, true≢false, List, [], ◌∷◌, length, map, take, arith}
use Rattle.std.specs.Prelude.{flat_map, All, Some, option_map, slice_get}
use Rattle.std.specs.List.{AllByRecursion}
use Rattle.std.proofs.lemmas.List.Elements.{All-from_recursion, recursion_from_All}
use Rattle.std.proofs.lemmas.Option.{slice_get-map}
use Rattle.ksql_types.specs.declared.relation.Relation.{Relation}
use Rattle.ksql_types.specs.declared.relation.TaskName.{TaskName}
use Rattle.ksql_types.specs.declared.topic.TopicSpec.{TopicSpec}
use Rattle.ksql_place.specs.declared.change.SourceRecord.{SourceRecord}
use Rattle.ksql_nodes.proofs.Lists.{All-append}
use Rattle.ksql_program.specs.Program.{relation_at, relation_of, relations}
use Rattle.ksql_program.specs.Sound.{IsSound, IsSoundItem, IsSoundQuery, query as of_query}
use Rattle.ksql_program.specs.declared.program.Item.{Item}
use Rattle.ksql_program.specs.declared.program.Item.TheVariants.{Declared, Started}
use Rattle.ksql_program.specs.declared.query.Query.{Query}
use Rattle.meaning_laws.proofs.Lists.{All-weaker}
use Rattle.topic_files.specs.declared.topic.Fed.{Fed}
use Rattle.topic_feeds.specs.Feeding.{fed_from}
use Rattle.topic_feeds.proofs.Feeds.{fed-topic}
use Rattle.topic_feeds.proofs.Partitions.{AreWithin, fed-within}
use Rattle.topology.specs.Topologies.{cut_topics, relation_topic, subs, topology_of}
use Rattle.sending_laws.proofs.ItemLists.{item-at, sound-at}
use Rattle.sending_laws.proofs.Numbering.{get-front}
use Rattle.core_state.specs.Routes.{routes_of}
use Rattle.wiring_laws.proofs.SubReads.{declared-unwritten}
use Rattle.wiring_laws.proofs.Wirings.{staged}
use Rattle.topic_log.specs.Shelves.{IsSourcePart, topics_of}
use Rattle.topic_log.specs.declared.shelves.Shelves.{Shelves}
use Rattle.feed_laws.specs.Feeds.{Source, fed_of}
use Rattle.feed_laws.specs.Fitting.{IsSourceOf}
use Rattle.cluster_laws.specs.Rounds.{HasParts, count_at}

-- ---- the records of a feed

-- each partition of a source's topic is there, and no task writes it
abbrev pub HasSourceParts : Shelves → Source → Type 0
HasSourceParts b s = (part : ℕ) → part < s.relation.partitions → IsSourcePart b s.relation.number part

module _ (b : Shelves) where
  abbrev StandsThere : SourceRecord → Type 0
  StandsThere r = IsSourcePart b r.stamp.topic r.stamp.part

  records-there : (number n : ℕ) (rs : List SourceRecord) → ((part : ℕ) → part < n → IsSourcePart b number part) →
      AllByRecursion (λ r. r.stamp.topic ≡ number) rs → AreWithin n rs → AllByRecursion StandsThere rs
  records-there number n [] there topics parts = tt
  records-there number n (r ∷ rs) there topics parts =
      (subst (λ topic. IsSourcePart b topic r.stamp.part) (sym topics.0) (there r.stamp.part parts.0), records-there number n rs there topics.1 parts.1)

  source-there : (feed : ℕ) (relation : Relation) (before : List SourceRecord) (feds : List Fed) → 1 ≤ relation.partitions →
      ((part : ℕ) → part < relation.partitions → IsSourcePart b relation.number part) → AllByRecursion StandsThere (fed_from feed relation before feds)
  source-there feed relation before feds some there =
      let rs : List SourceRecord = fed_from feed relation before feds in
      records-there relation.number relation.partitions rs there
      (recursion_from_All (λ (r : SourceRecord). r.stamp.topic ≡ relation.number) rs (fed-topic feed relation before feds))
      (fed-within feed relation before feds some)

  sources-there : (feed : ℕ) (count : Source → ℕ) (ss : List Source) → AllByRecursion (λ s. 1 ≤ s.relation.partitions) ss → AllByRecursion (HasSourceParts b) ss →
      AllByRecursion StandsThere (flat_map (fed_of feed count) ss)
  sources-there feed count [] some there = tt
  sources-there feed count (s ∷ ss) some there =
      All-append StandsThere (fed_of feed count s) (flat_map (fed_of feed count) ss)
      (source-there feed s.relation s.before (take (count s) s.left) some.0 there.0) (sources-there feed count ss some.1 there.1)

  pub fed-there : (feed : ℕ) (count : Source → ℕ) (ss : List Source) → AllByRecursion (λ s. 1 ≤ s.relation.partitions) ss → AllByRecursion (HasSourceParts b) ss →
      All StandsThere (flat_map (fed_of feed count) ss)
  fed-there feed count ss some there =
      All-from_recursion StandsThere (flat_map (fed_of feed count) ss) (sources-there feed count ss some there)

-- ---- the topics of sources

module _ (items : List Item) (sound : IsSound items) where
  not-declared : (before : List Item) (q : Query) → IsSoundQuery before q → q.out.declared ≡ true → ⊥
  not-declared before q (of_query _ _ _ _ none) is = true≢false (sym is ∙ none)

  declared-item : (number : ℕ) (r : Relation) → relation_at items number ≡ Some r → r.declared ≡ true → slice_get items number ≡ Some (Declared r)
  declared-item number r at declared =
      let found = item-at items number r at in
      found.1 ∙ ap Some (by found.0 (sound-at items number found.0 sound.sound found.1) found.2)
    where
      by : (i : Item) → IsSoundItem (take number items) i → relation_of i ≡ r → i ≡ Declared r
      by (Declared d) h is = ap Declared is
      by (Started q) h is = absurd (not-declared (take number items) q h.1 (ap (λ (x : Relation). x.declared) is ∙ declared))

  unwritten : (number : ℕ) (r : Relation) → slice_get items number ≡ Some (Declared r) → (routes_of (topology_of items).topics).writers number ≡ []
  unwritten number r at = by ((routes_of (topology_of items).topics).writers number) refl
    where
      some : (x : TaskName) (xs : List TaskName) → x ∷ xs ≡ [] → ⊥
      some x xs is = let long : length (x ∷ xs) ≡ 0 = ap length is in omega (arith, long)

      by : (us : List TaskName) → (routes_of (topology_of items).topics).writers number ≡ us → (routes_of (topology_of items).topics).writers number ≡ []
      by [] is = is
      by (x ∷ xs) is = absurd (declared-unwritten items sound number r at ((staged items sound).all number (λ none. some x xs (sym is ∙ none))))

  -- a source's topic has the partitions of its relation, and no task writes it
  pub record IsSourceTopic (s : Source) : Type 0 where
    pub partitions : count_at (topology_of items).topics s.relation.number ≡ Some s.relation.partitions
    pub unwritten : (routes_of (topology_of items).topics).writers s.relation.number ≡ []

  source-topic : (fed : ℕ) (s : Source) → IsSourceOf items fed s → IsSourceTopic s
  source-topic fed s is =
      let number : ℕ = s.relation.number in
      let front : List TopicSpec = map (relation_topic (subs items)) (relations items) in
      let here : slice_get front number ≡ Some (relation_topic (subs items) s.relation) =
      slice_get-map (relation_topic (subs items)) (relations items) number ∙ ap (option_map (relation_topic (subs items))) is.relation in
      record {
        partitions = ap (option_map (λ (t : TopicSpec). t.partitions)) (get-front front (cut_topics items (length items) 0 items) number (relation_topic (subs items) s.relation) here);
        unwritten = unwritten number s.relation (declared-item number s.relation is.relation is.declared);
      }

  module _ (b : Shelves) (same : topics_of b ≡ (topology_of items).topics) (parts : HasParts b) where
    source-has : (s : Source) → IsSourceTopic s → HasSourceParts b s
    source-has s is part low = (
      ap (λ ts. (routes_of ts).writers s.relation.number) same ∙ is.unwritten,
      parts s.relation.number part s.relation.partitions (ap (λ ts. count_at ts s.relation.number) same ∙ is.partitions) low,
    )

    -- the partitions of the sources' topics are there
    pub all-there : (fed : ℕ) (ss : List Source) → AllByRecursion (IsSourceOf items fed) ss → AllByRecursion (HasSourceParts b) ss
    all-there fed ss each = All-weaker (IsSourceOf items fed) (HasSourceParts b) (λ s is. source-has s (source-topic fed s is)) ss each
