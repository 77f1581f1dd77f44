-- What a good broker shows of declared relations: the records of their topics, and all together those of the order.
use Rattle.std.proofs.Common.{◌≡◌, ◌∙◌, ap, refl, sym, subst, ℕ, ◌<◌, ◌≤◌, List, [], ◌∷◌, length, map, take, Bool, true, false, true≢false, arith}
use Rattle.std.proofs.lemmas.List.Elements.{All-from_recursion, recursion_from_All}
use Rattle.std.proofs.lemmas.Nat.{mod_below}
use Rattle.std.proofs.lemmas.Option.{same_Some, slice_get_within}
use Rattle.std.specs.Prelude.{◌==◌, All, Contains, Some, filter, flat_map, slice_get}
use Rattle.std.specs.List.{AllByRecursion, range_with_len}
use Rattle.std.specs.Cmp.{unsigned_Decides}
use Rattle.std.specs.declared.cmp.Ordering.TheVariants.{Less}
use Rattle.ksql_types.specs.Lane.{hash, key_bytes, lane}
use Rattle.ksql_types.specs.declared.relation.Relation.{Relation}
use Rattle.ksql_types.specs.declared.relation.TaskName.{TaskName}
use Rattle.ksql_types.specs.declared.value.Value.{Value}
use Rattle.ksql_place.specs.Ascending.{ascending}
use Rattle.ksql_place.specs.Order.{record_cmp}
use Rattle.ksql_place.specs.Said.{is_of_topic}
use Rattle.ksql_place.specs.declared.change.SourceRecord.{SourceRecord}
use Rattle.ksql_place.proofs.Orders.{record_total}
use Rattle.ksql_program.specs.Program.{relation_at, relation_of}
use Rattle.ksql_program.specs.Sound.{IsSound, IsSoundItem, IsSoundQuery, query}
use Rattle.ksql_program.specs.declared.program.Item.{Item}
use Rattle.ksql_program.specs.declared.program.Item.TheVariants.{Declared, Started}
use Rattle.ksql_program.specs.declared.query.Query.{Query}
use Rattle.meaning_laws.proofs.Lists.{All-both, All-filter, All-passes, All-weaker, Pairwise, Pairwise-filter, Pairwise-from_all}
use Rattle.topology.specs.Topologies.{topology_of}
use Rattle.topology.specs.declared.topology.Topology.{Topology}
use Rattle.short_laws.specs.Fed.{IsFed, IsInItsPartition}
use Rattle.sending_laws.proofs.ItemLists.{item-at, relation-at, sound-at, within}
use Rattle.core_state.specs.Routes.{routes_of}
use Rattle.core_state.specs.State.{is_in}
use Rattle.core_state.specs.Wired.{AreCounted, between, log_feed}
use Rattle.core_state.specs.declared.log.LogEntry.TheVariants.{Fed}
use Rattle.core_state.proofs.Feeds.{between-all}
use Rattle.core_state.proofs.Lists as core
use Rattle.core_state.proofs.Staging as staging
use Rattle.core_state.proofs.Wiring.{flat_map-members}
use Rattle.core_laws.proofs.SameContents.{declared-contents}
use Rattle.wiring_laws.proofs.SubReads.{declared-unwritten}
use Rattle.wiring_laws.proofs.Wirings.{staged}
use Rattle.wiring_laws.proofs.Writers.{numbered}
use Rattle.lane_laws.proofs.Gathering.{IsBelow}
use Rattle.topic_log.specs.declared.shelves.Shelves.{Shelves}
use Rattle.run_text.specs.Shown.{declared_records, entries_at, order_shown, records_in, records_shown}
use Rattle.report_laws.specs.Reported.{IsGoodBroker, IsOfDeclared}
use Rattle.report_laws.proofs.Together.{filter-both, flat-numbered, together}

-- the records among records are all of them
records-fed : (rs : List SourceRecord) → records_in (map Fed rs) ≡ rs
records-fed [] = refl
records-fed (r ∷ rs) = ap (λ (rest : List SourceRecord). r ∷ rest) (records-fed rs)

-- a key's lane is one of the partitions
pub lane-below : (n : ℕ) → 0 < n → (key : List Value) (home : ℕ) → lane key n home < n
lane-below n some [] home = mod_below home n some
lane-below n some (first ∷ more) home = mod_below (hash (key_bytes (first ∷ more))) n some

-- the item of a record's topic isn't a query
abbrev IsQuery : Item → Type 0
IsQuery (Declared r) = ⊥
IsQuery (Started q) = Unit {0}

not-both : (items : List Item) (number : ℕ) (r : Relation) (q : Query) → slice_get items number ≡ Some (Declared r) → slice_get items number ≡ Some (Started q) → ⊥
not-both items number r q declared started = subst IsQuery (same_Some (Started q) (Declared r) (sym started ∙ declared)) tt

-- a relation of a sound program that says that it is declared is a declaration
pub declaration-at : (items : List Item) → IsSound items → (number : ℕ) (r : Relation) → relation_at items number ≡ Some r → r.declared ≡ true → slice_get items number ≡ Some (Declared r)
declaration-at items sound number r is says = let found = item-at items number r is in by found.0 found.1 found.2 (sound-at items number found.0 sound.sound found.1)
  where
    undeclared : (before : List Item) (q : Query) → IsSoundQuery before q → q.out.declared ≡ false
    undeclared before q (query reads condition makes key isnt) = isnt

    by : (i : Item) → slice_get items number ≡ Some i → relation_of i ≡ r → IsSoundItem (take number items) i → slice_get items number ≡ Some (Declared r)
    by (Declared d) at same h = at ∙ ap (λ x. Some (Declared x)) same
    by (Started q) at same h = absurd (true≢false (sym says ∙ sym (ap (λ (x : Relation). x.declared) same) ∙ undeclared (take number items) q h.1))

all-kept : (P : SourceRecord → Type 0) (p : SourceRecord → Bool) (order : List SourceRecord) → All P order → All P (filter p order)
all-kept P p order all = All-from_recursion P (filter p order) (All-filter P p order (recursion_from_All P order all))

-- no record is in the topic of a query
pub none-of-query : (items : List Item) (order : List SourceRecord) → All (IsOfDeclared items) order → (number : ℕ) (q : Query) → slice_get items number ≡ Some (Started q) →
    filter (λ x. x.stamp.topic == number) order ≡ []
none-of-query items order declared number q at =
    core.filter-none (λ (x : SourceRecord). x.stamp.topic == number) order
    (All-from_recursion (λ (x : SourceRecord). (x.stamp.topic == number) ≡ false) order
    (All-weaker (IsOfDeclared items) (λ x. (x.stamp.topic == number) ≡ false) isnt order (recursion_from_All (IsOfDeclared items) order declared)))
  where
    isnt : (x : SourceRecord) → IsOfDeclared items x → (x.stamp.topic == number) ≡ false
    isnt x of = by (x.stamp.topic == number) refl
      where
        by : (b : Bool) → (x.stamp.topic == number) ≡ b → b ≡ false
        by true is = absurd (not-both items number of.0 q (ap (slice_get items) (sym ((unsigned_Decides x.stamp.topic number).0 is)) ∙ of.1) at)
        by false is = refl

-- ---- one relation

module _ (items : List Item) (order : List SourceRecord) (sound : IsSound items) (fed : IsFed items order) where
  abbrev rises : Pairwise (IsBelow record_cmp) order
  rises = Pairwise-from_all (λ a b. record_cmp a b ≡ Less) order fed.rises

  -- a record of a relation's topic is in the partition of its key
  abbrev pub StandsThere : Relation → SourceRecord → Type 0
  StandsThere r x = x.stamp.part ≡ lane x.key r.partitions x.stamp.part

  pub stand-there : (r : Relation) → slice_get items r.number ≡ Some (Declared r) → AllByRecursion (StandsThere r) (filter (is_of_topic r) order)
  stand-there r at =
      All-weaker (λ x. (is_of_topic r x ≡ true) × IsInItsPartition items x) (StandsThere r) there (filter (is_of_topic r) order)
      (All-both (λ x. is_of_topic r x ≡ true) (IsInItsPartition items) (filter (is_of_topic r) order) (All-passes (is_of_topic r) order)
      (All-filter (IsInItsPartition items) (is_of_topic r) order (recursion_from_All (IsInItsPartition items) order fed.placed)))
    where
      there : (x : SourceRecord) → (is_of_topic r x ≡ true) × IsInItsPartition items x → StandsThere r x
      there x (same, placed) = placed r (ap (relation_at items) ((unsigned_Decides x.stamp.topic r.number).0 same) ∙ relation-at items r.number (Declared r) at)

  -- the records of its topic, partition by partition and then sorted, are all of them
  parts-together : (r : Relation) → slice_get items r.number ≡ Some (Declared r) →
      ascending record_cmp (flat_map (λ q. filter (is_in r.number q) order) (range_with_len 0 r.partitions)) ≡ filter (is_of_topic r) order
  parts-together r at =
      ap (ascending record_cmp)
      (flat_map-members (λ q. filter (is_in r.number q) order) (λ q. filter (λ x. x.stamp.part == q) (filter (is_of_topic r) order)) (range_with_len 0 r.partitions)
      (λ q among. filter-both (is_of_topic r) (λ x. x.stamp.part == q) order))
      ∙ together record_total (λ (x : SourceRecord). x.stamp.part) r.partitions (filter (is_of_topic r) order)
      (All-weaker (StandsThere r) (λ x. x.stamp.part < r.partitions)
      (λ x there. subst (λ part. part < r.partitions) (sym there) (lane-below r.partitions (numbered items sound r.number (Declared r) at).1 x.key x.stamp.part))
      (filter (is_of_topic r) order) (stand-there r at))
      (Pairwise-filter (IsBelow record_cmp) (is_of_topic r) order rises)

  -- ---- a broker

  module _ (counted : AreCounted order) (b : Shelves) (g : IsGoodBroker items order b) where
    abbrev t : Topology
    t = topology_of items

    -- no task writes the topic of a declared relation
    pub no-writers : (number : ℕ) (r : Relation) → slice_get items number ≡ Some (Declared r) → (routes_of t.topics).writers number ≡ []
    no-writers number r at = by ((routes_of t.topics).writers number) refl
      where
        by : (us : List TaskName) → (routes_of t.topics).writers number ≡ us → us ≡ []
        by [] is = refl
        by (u ∷ us) is =
            absurd (declared-unwritten items sound number r at ((staged items sound).all number (core.not_empty u ((routes_of t.topics).writers number) (subst (λ vs. Contains vs u) (sym is) (core.Contains-here u us)))))

    -- its partitions show the records of the order that belong there
    source-shown : (r : Relation) → slice_get items r.number ≡ Some (Declared r) → (q : ℕ) → entries_at b r q ≡ map Fed (filter (is_in r.number q) order)
    source-shown r at q =
        sym (g.shown r.number q (slice_get_within items r.number (Declared r) at))
        ∙ g.good.source_shown r.number q (no-writers r.number r at)
        ∙ ap (between log_feed 0 g.parts.shelf.fed) (declared-contents items order sound fed r.number r at q)
        ∙ between-all log_feed 0 g.parts.shelf.fed (map Fed (filter (is_in r.number q) order))
        (staging.All-records (λ x. (0 < log_feed x) × (log_feed x ≤ g.parts.shelf.fed)) (filter (is_in r.number q) order)
        (all-kept (λ x. (0 < x.stamp.feed) × (x.stamp.feed ≤ g.parts.shelf.fed)) (is_in r.number q) order
        (staging.All-both (λ (x : SourceRecord). 0 < x.stamp.feed) (λ x. x.stamp.feed ≤ g.parts.shelf.fed) order counted g.good.none_later)))

    -- all its partitions together show the records of its topic
    pub records-of : (r : Relation) → slice_get items r.number ≡ Some (Declared r) → records_shown b r ≡ filter (is_of_topic r) order
    records-of r at =
        ap (ascending record_cmp)
        (flat_map-members (λ q. records_in (entries_at b r q)) (λ q. filter (is_in r.number q) order) (range_with_len 0 r.partitions)
        (λ q among. ap records_in (source-shown r at q) ∙ records-fed (filter (is_in r.number q) order)))
        ∙ parts-together r at

    -- ---- the order of consumption

    module _ (declared : All (IsOfDeclared items) order) where
      item-records : (number : ℕ) (i : Item) → slice_get items number ≡ Some i → declared_records b i ≡ filter (λ x. x.stamp.topic == number) order
      item-records number (Declared r) at =
          let same : r.number ≡ number = (numbered items sound number (Declared r) at).0 in
          records-of r (ap (slice_get items) same ∙ at) ∙ ap (λ n. filter (λ (x : SourceRecord). x.stamp.topic == n) order) same
      item-records number (Started q) at = sym (none-of-query items order declared number q at)

      -- the records of all declared relations together are those of the order
      pub order-of : order_shown b items ≡ order
      order-of =
          ap (ascending record_cmp) (flat-numbered (declared_records b) (λ number. filter (λ x. x.stamp.topic == number) order) 0 items (λ number i at. item-records number i at ∙ ap (λ n. filter (λ (x : SourceRecord). x.stamp.topic == n) order) (omega arith)))
          ∙ together record_total (λ (x : SourceRecord). x.stamp.topic) (length items) order
          (All-weaker (IsOfDeclared items) (λ x. x.stamp.topic < length items) (λ x of. within items x.stamp.topic (Declared of.0) of.1) order (recursion_from_All (IsOfDeclared items) order declared))
          rises
