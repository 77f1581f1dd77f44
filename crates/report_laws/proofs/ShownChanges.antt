-- What a good broker shows of relations: the changes that they mean.
use Rattle.std.proofs.Common.{◌≡◌, ◌∙◌, ap, ap₂, refl, sym, subst, ℕ, ◌<◌, ◌≤◌, List, [], ◌∷◌, length, map, Bool, true, false, arith}
use Rattle.std.proofs.lemmas.Bool.Decides.{nat_tests}
use Rattle.std.proofs.lemmas.List.Elements.{recursion_from_All}
use Rattle.std.proofs.lemmas.List.Elements as elements
use Rattle.std.proofs.lemmas.List.Sums.{length-filter}
use Rattle.std.proofs.lemmas.Cmp.{nat_cmp_total, on_total, then_total}
use Rattle.std.proofs.lemmas.Option.{slice_get_within}
use Rattle.std.specs.Prelude.{◌==◌, ◌&&◌, All, Contains, Some, Option, None, filter, flat_map, min, nat_le, nat_lt, slice_get}
use Rattle.std.specs.List.{AllByRecursion, range_with_len}
use Rattle.std.specs.Cmp.{IsTotalOrder, unsigned_Decides}
use Rattle.std.specs.declared.cmp.Ordering.TheVariants.{Less}
use Rattle.std.specs.Ordering.{nat_cmp, ordering_then}
use Rattle.ksql_types.specs.Lane.{lane}
use Rattle.ksql_types.specs.declared.relation.Kind.{Kind}
use Rattle.ksql_types.specs.declared.relation.Kind.TheVariants as kind
use Rattle.ksql_types.specs.declared.relation.Relation.{Relation}
use Rattle.ksql_types.specs.declared.relation.TaskName.{TaskName}
use Rattle.ksql_place.specs.Ascending.{ascending}
use Rattle.ksql_place.specs.Order.{place_cmp, record_cmp}
use Rattle.ksql_place.specs.Said.{is_of_topic, is_skipped, said, said_by, saying}
use Rattle.ksql_place.specs.declared.change.Body.{Body}
use Rattle.ksql_place.specs.declared.change.Change.{Change}
use Rattle.ksql_place.specs.declared.change.SourceRecord.{SourceRecord}
use Rattle.ksql_place.proofs.Orders.{place_total}
use Rattle.ksql_program.specs.Sound.{IsSound}
use Rattle.ksql_program.specs.declared.program.Item.{Item}
use Rattle.ksql_program.specs.declared.program.Item.TheVariants.{Declared, Started}
use Rattle.ksql_program.specs.declared.query.Query.{Query}
use Rattle.ksql_nodes.specs.declared.node.Node.TheVariants as node
use Rattle.ksql_nodes.specs.Entries.{Entry, from_side, results, through}
use Rattle.ksql_nodes.specs.Nodes.{gives}
use Rattle.ksql_nodes.proofs.Lists.{filter-within}
use Rattle.ksql_nodes.proofs.Stamps.{gives-keeps}
use Rattle.query_meaning.specs.Meaning.{declared_changes, meaning, partition_of, steps_of_declared, up_to}
use Rattle.query_meaning.specs.Queries.{changes_at}
use Rattle.meaning_laws.specs.Places.{ArePlaced}
use Rattle.meaning_laws.proofs.EachRelation.{at-each}
use Rattle.meaning_laws.proofs.Lists.{All-both, All-map, All-of, All-passes, All-weaker, Pairwise, Pairwise-filter, Pairwise-from_all, Pairwise-map, Pairwise-weaker, all-from_pairwise, filter-map, filter-swap}
use Rattle.meaning_laws.proofs.RelationPlaces.{meant-placed}
use Rattle.meaning_laws.proofs.Saying.{placed_at}
use Rattle.meaning_laws.proofs.Sizes.{All-flat_map, entries-give, results-give}
use Rattle.meaning_laws.proofs.Turning.{changed-from-side}
use Rattle.lane_laws.proofs.Gathering.{IsBelow}
use Rattle.lane_laws.proofs.KeptKeys.{gives-key}
use Rattle.topology.specs.Topologies.{topology_of}
use Rattle.short_laws.specs.Fed.{IsFed}
use Rattle.sending_laws.proofs.ItemLists.{list-at}
use Rattle.core_state.specs.Routes.{routes_of}
use Rattle.core_state.specs.Shelf.{shelf_closed, state_of}
use Rattle.core_state.specs.State.{least, lowest}
use Rattle.core_state.specs.Wired.{AreCounted, order_upto}
use Rattle.core_state.specs.declared.log.LogEntry.TheVariants.{Said}
use Rattle.core_state.proofs.Lists as core
use Rattle.core_state.proofs.Wiring.{flat_map-members}
use Rattle.core_laws.specs.Core.{meant_in_part}
use Rattle.core_laws.proofs.Showing.{good-shows}
use Rattle.wiring_laws.proofs.SubReads.{result-written}
use Rattle.wiring_laws.proofs.Wirings.{staged}
use Rattle.wiring_laws.proofs.Writers.{numbered}
use Rattle.topic_log.specs.Shelves.{routes_in, shelf_of}
use Rattle.topic_log.specs.declared.shelves.Shelves.{Shelves}
use Rattle.run_text.specs.Printed.{Shown, shown_in}
use Rattle.run_text.specs.Report.{meant, section_of, skipped_of}
use Rattle.run_text.specs.Shown.{Standing, changes_in, declared_shown, entries_at, query_shown, records_shown, section_shown, standing_at, standing_cmp}
use Rattle.report_laws.specs.Reported.{IsGoodBroker, IsOfDeclared, section_known, shown_up_to}
use Rattle.report_laws.proofs.ShownRecords.{lane-below, no-writers, none-of-query, records-of, stand-there}
use Rattle.report_laws.proofs.Together.{filter-members, map-again, map-each, together}

-- ---- records that are skipped

and-left : (a b : Bool) → (a && b) ≡ true → a ≡ true
and-left true b both = refl
and-left false b both = both

-- those of a relation's topic alone count
skipped-topic : (r : Relation) (order : List SourceRecord) → skipped_of r (filter (is_of_topic r) order) ≡ skipped_of r order
skipped-topic r order =
    sym (length-filter (is_skipped r) (filter (is_of_topic r) order))
    ∙ ap length (filter-within (is_skipped r) (is_of_topic r) (λ x both. and-left (is_of_topic r x) _ both) order)
    ∙ length-filter (is_skipped r) order

-- ---- changes in their partitions

-- a change is in the partition of its record
abbrev StandsSo : Relation → Change → Type 0
StandsSo r c = c.place.stamp.part ≡ lane c.key r.partitions c.place.stamp.part

placed-so : (r : Relation) (x : SourceRecord) (body : Option Body) → x.stamp.part ≡ lane x.key r.partitions x.stamp.part → AllByRecursion (StandsSo r) (placed_at x body)
placed-so r x None there = tt
placed-so r x (Some body) there = (there, tt)

-- a table's step leaves changes at their places
table-so : (r : Relation) (number : ℕ) (before : List Entry) (e : Entry) → StandsSo r e.change → AllByRecursion (StandsSo r) (gives 1 (node.Table number) before e)
table-so r number before e there =
    All-weaker (λ c. (c.place.stamp ≡ e.change.place.stamp) × (c.key ≡ e.change.key)) (StandsSo r) same (gives 1 (node.Table number) before e)
    (All-both (λ c. c.place.stamp ≡ e.change.place.stamp) (λ c. c.key ≡ e.change.key) (gives 1 (node.Table number) before e) (gives-keeps 1 (node.Table number) before e) (gives-key 1 (node.Table number) tt before e))
  where
    same : (c : Change) → (c.place.stamp ≡ e.change.place.stamp) × (c.key ≡ e.change.key) → StandsSo r c
    same c (stamp, key) = ap (λ s. s.part) stamp ∙ there ∙ ap₂ (λ k s. lane k r.partitions s.part) (sym key) (sym stamp)

steps-so : (r : Relation) (k : Kind) (number : ℕ) (changes : List Change) → AllByRecursion (StandsSo r) changes → AllByRecursion (StandsSo r) (through (steps_of_declared k number) (from_side 0 changes))
steps-so r kind.Stream number changes there = subst (AllByRecursion (StandsSo r)) (sym (changed-from-side changes)) there
steps-so r kind.Windowed number changes there = subst (AllByRecursion (StandsSo r)) (sym (changed-from-side changes)) there
steps-so r kind.Table number changes there =
    subst (AllByRecursion (StandsSo r)) (sym (changed-from-side (results (gives 1 (node.Table number)) [] (from_side 0 changes))))
    (results-give (λ e. StandsSo r e.change) (StandsSo r) (gives 1 (node.Table number)) (λ before past e here. table-so r number before e here) [] (from_side 0 changes) tt (entries-give (StandsSo r) 0 changes there))

-- ---- what records of a topic mean

declared-topic : (r : Relation) (order : List SourceRecord) → declared_changes r (filter (is_of_topic r) order) ≡ declared_changes r order
unfolding declared_changes said
declared-topic r order =
    ap (λ rs. through (steps_of_declared r.kind r.number) (from_side 0 (flat_map (saying r.kind) rs))) (filter-within (is_of_topic r) (is_of_topic r) (λ x is. is) order)

declared-so : (r : Relation) (order : List SourceRecord) → AllByRecursion (λ x. x.stamp.part ≡ lane x.key r.partitions x.stamp.part) (filter (is_of_topic r) order) →
    AllByRecursion (StandsSo r) (declared_changes r order)
unfolding declared_changes said
declared-so r order there =
    steps-so r r.kind r.number (flat_map (saying r.kind) (filter (is_of_topic r) order))
    (All-flat_map (StandsSo r) (saying r.kind) (λ x. x.stamp.part ≡ lane x.key r.partitions x.stamp.part) (λ x here. placed-so r x (said_by r.kind x.key x.value) here) (filter (is_of_topic r) order) there)

-- ---- changes of queries

changes-said : (xs : List Change) → changes_in (map Said xs) ≡ xs
changes-said [] = refl
changes-said (x ∷ xs) = ap (λ (rest : List Change). x ∷ rest) (changes-said xs)

-- a change in its partition
abbrev standing : Relation → Change → Standing
standing r c = record { part = partition_of r c; change = c }

standing-total : IsTotalOrder standing_cmp
standing-total = then_total (on_total (λ (s : Standing). s.change.place) place_total) (on_total (λ (s : Standing). s.part) nat_cmp_total)

-- the changes of each partition, partition by partition and then sorted, are all of them
parts-standing : (r : Relation) → 0 < r.partitions → (changes : List Change) → Pairwise (λ c d. place_cmp c.place d.place ≡ Less) changes →
    ascending standing_cmp (flat_map (λ q. map (λ c. record { part = q; change = c }) (filter (λ c. partition_of r c == q) changes)) (range_with_len 0 r.partitions)) ≡ map (standing r) changes
parts-standing r some changes rise =
    ap (ascending standing_cmp)
    (flat_map-members (λ q. map (λ c. record { part = q; change = c }) (filter (λ c. partition_of r c == q) changes)) (λ q. filter (λ (s : Standing). s.part == q) (map (standing r) changes)) (range_with_len 0 r.partitions)
    (λ q among. map-each (λ c. record { part = q; change = c }) (standing r) (filter (λ c. partition_of r c == q) changes)
    (All-weaker (λ c. (partition_of r c == q) ≡ true) (λ c. standing_in q c ≡ standing r c) (λ c is. ap (λ part. standing_in part c) (sym ((unsigned_Decides (partition_of r c) q).0 is)))
    (filter (λ c. partition_of r c == q) changes) (All-passes (λ c. partition_of r c == q) changes))
    ∙ sym (filter-map (λ (s : Standing). s.part == q) (standing r) changes)))
    ∙ together standing-total (λ (s : Standing). s.part) r.partitions (map (standing r) changes)
    (All-map (λ (s : Standing). s.part < r.partitions) (standing r) changes (All-of changes (λ c. lane-below r.partitions some c.key c.place.stamp.part)))
    (Pairwise-map (IsBelow standing_cmp) (standing r) changes
    (Pairwise-weaker (λ c d. place_cmp c.place d.place ≡ Less) (λ c d. standing_cmp (standing r c) (standing r d) ≡ Less)
    (λ c d below. ap (λ o. ordering_then o (nat_cmp (partition_of r c) (partition_of r d))) below) changes rise))
  where
    standing_in : ℕ → Change → Standing
    standing_in part c = record { part = part; change = c }

-- ---- the records up to a feed

upto-same : (feed : ℕ) (order : List SourceRecord) → AreCounted order → order_upto feed order ≡ up_to feed order
upto-same feed order counted =
    filter-members (λ x. nat_lt 0 x.stamp.feed && nat_le x.stamp.feed feed) (λ x. nat_le x.stamp.feed feed) order
    (All-weaker (λ x. 0 < x.stamp.feed) (λ x. (nat_lt 0 x.stamp.feed && nat_le x.stamp.feed feed) ≡ nat_le x.stamp.feed feed)
    (λ x low. ap (λ b. b && nat_le x.stamp.feed feed) (counts x.stamp.feed low)) order (recursion_from_All (λ (x : SourceRecord). 0 < x.stamp.feed) order counted))
  where
    counts : (n : ℕ) → 0 < n → nat_lt 0 n ≡ true
    counts n low = grind (arith, nat_tests)

upto-all : (feed : ℕ) (order : List SourceRecord) → All (λ x. x.stamp.feed ≤ feed) order → up_to feed order ≡ order
upto-all feed order none =
    core.filter-all (λ (x : SourceRecord). nat_le x.stamp.feed feed) order
    (elements.All-weaker (λ (x : SourceRecord). x.stamp.feed ≤ feed) (λ x. nat_le x.stamp.feed feed ≡ true) (λ x low. is-le x.stamp.feed low) order none)
  where
    is-le : (n : ℕ) → n ≤ feed → nat_le n feed ≡ true
    is-le n low = grind (arith, nat_tests)

-- ---- the least feed of some tasks

least-one : (feed : ℕ) (u : TaskName) (us : List TaskName) → least (λ v. feed) u us ≡ feed
least-one feed u [] = refl
least-one feed u (v ∷ us) = ap (min feed) (least-one feed v us) ∙ grind arith

lowest-one : (last feed : ℕ) (done : TaskName → ℕ) (us : List TaskName) → ¬ (us ≡ []) → ((u : TaskName) → Contains us u → done u ≡ feed) → lowest last done us ≡ feed
lowest-one last feed done [] some same = absurd (some refl)
lowest-one last feed done (u ∷ us) some same = core.lowest-of_some last feed done (λ v. feed) (u ∷ us) some same ∙ least-one feed u us

-- ---- sections

section-same : (closed : ℕ) (r : Relation) (xs ys : List SourceRecord) (us vs : List Shown) → skipped_of r xs ≡ skipped_of r ys → us ≡ vs → section_of closed r xs us ≡ section_of closed r ys vs
unfolding section_of
section-same closed r xs ys us vs skipped shown = ap₂ (λ n ss. record { relation = r; closed = closed; skipped = n; shown = ss }) skipped shown

module _ (items : List Item) (order : List SourceRecord) (sound : IsSound items) (fed : IsFed items order) (counted : AreCounted order) (b : Shelves) (g : IsGoodBroker items order b) where
  -- the feed up to which a topic is closed is the same in the core
  feed-same : (number : ℕ) → shelf_closed (routes_in b) (shelf_of b) number ≡ shelf_closed (routes_of (topology_of items).topics) g.parts.shelf number
  feed-same number = λ k. lowest (sym g.fed k) (sym g.done k) ((routes_of (g.topics k)).writers number)

  -- ---- declared relations

  last-feed : (r : Relation) → slice_get items r.number ≡ Some (Declared r) → shown_up_to b r ≡ g.parts.shelf.fed
  last-feed r at = feed-same r.number ∙ ap (lowest g.parts.shelf.fed g.parts.shelf.done) (no-writers items order sound fed counted b g r.number r at)

  -- a declared relation is shown up to the last feed
  pub declared-feed : (r : Relation) → slice_get items r.number ≡ Some (Declared r) → shown_up_to b r ≡ b.fed
  declared-feed r at = last-feed r at ∙ g.fed

  -- and so with all records that were fed
  all-records : (r : Relation) → slice_get items r.number ≡ Some (Declared r) → up_to (shown_up_to b r) order ≡ order
  all-records r at = ap (λ feed. up_to feed order) (last-feed r at) ∙ upto-all g.parts.shelf.fed order g.good.none_later

  -- its changes are those that it means, each in its partition
  declared-shown : (r : Relation) → slice_get items r.number ≡ Some (Declared r) → declared_shown b r ≡ meant r (changes_at (meaning items order) r.number)
  declared-shown r at =
      ap (λ xs. map (λ c. shown_in c.place.stamp.part c) (declared_changes r xs)) (records-of items order sound fed counted b g r at)
      ∙ ap (map (λ c. shown_in c.place.stamp.part c)) (declared-topic r order)
      ∙ map-each (λ c. shown_in c.place.stamp.part c) (λ c. shown_in (partition_of r c) c) (declared_changes r order)
      (All-weaker (StandsSo r) (λ c. shown_in c.place.stamp.part c ≡ shown_in (partition_of r c) c) (λ c there. ap (λ part. shown_in part c) there) (declared_changes r order)
      (declared-so r order (stand-there items order sound fed r at)))
      ∙ ap (meant r) (sym (list-at items order r.number (Declared r) at))

  pub declared-section : (r : Relation) → slice_get items r.number ≡ Some (Declared r) → section_shown b (Declared r) ≡ section_known items b order (Declared r)
  declared-section r at =
      section-same (shown_up_to b r) r (records_shown b r) (up_to (shown_up_to b r) order) (declared_shown b r) (meant r (changes_at (meaning items (up_to (shown_up_to b r) order)) r.number))
      (ap (skipped_of r) (records-of items order sound fed counted b g r at) ∙ skipped-topic r order ∙ ap (skipped_of r) (sym (all-records r at)))
      (declared-shown r at ∙ ap (λ xs. meant r (changes_at (meaning items xs) r.number)) (sym (all-records r at)))

  -- ---- queries

  module _ (q : Query) (at : slice_get items q.out.number ≡ Some (Started q)) where
    -- the records up to the feed up to which its topic is shown, and its meaning for them
    abbrev records : List SourceRecord
    records = up_to (shown_up_to b q.out) order

    abbrev changes : List Change
    changes = changes_at (meaning items records) q.out.number

    same-records : order_upto (shelf_closed (routes_of (topology_of items).topics) g.parts.shelf q.out.number) order ≡ records
    same-records = ap (λ feed. order_upto feed order) (sym (feed-same q.out.number)) ∙ upto-same (shown_up_to b q.out) order counted

    part-shown : (part : ℕ) → changes_in (entries_at b q.out part) ≡ filter (λ c. partition_of q.out c == part) changes
    part-shown part =
        ap changes_in (sym (g.shown q.out.number part (slice_get_within items q.out.number (Started q) at)))
        ∙ ap changes_in (good-shows items order sound counted fed (state_of g.parts) g.good q.out.number q at part)
        ∙ changes-said (meant_in_part items (order_upto (shelf_closed (routes_of (topology_of items).topics) g.parts.shelf q.out.number) order) q.out.number q part)
        ∙ ap (λ xs. meant_in_part items xs q.out.number q part) same-records

    places-rise : Pairwise (λ c d. place_cmp c.place d.place ≡ Less) changes
    places-rise =
        at-each (Pairwise (λ c d. place_cmp c.place d.place ≡ Less)) tt (meaning items records)
        (All-weaker ArePlaced (Pairwise (λ c d. place_cmp c.place d.place ≡ Less)) (λ cs placed. Pairwise-from_all (λ c d. place_cmp c.place d.place ≡ Less) cs placed.0) (meaning items records)
        (recursion_from_All ArePlaced (meaning items records) (meant-placed items records sound
        (all-from_pairwise (IsBelow record_cmp) records (Pairwise-filter (IsBelow record_cmp) (λ x. nat_le x.stamp.feed (shown_up_to b q.out)) order (Pairwise-from_all (IsBelow record_cmp) order fed.rises))))))
        q.out.number

    -- if all tasks that write its topic are done up to a feed, it is shown up to there
    pub query-feed : (feed : ℕ) → ((u : TaskName) → Contains ((routes_in b).writers q.out.number) u → (shelf_of b).done u ≡ feed) → shown_up_to b q.out ≡ feed
    query-feed feed done =
        lowest-one b.fed feed (shelf_of b).done ((routes_in b).writers q.out.number)
        (λ none. (staged items sound).only q.out.number (result-written items sound q.out.number q at) (sym (ap (λ topics. (routes_of topics).writers q.out.number) g.topics) ∙ none)) done

    -- its changes are those that it means, each in its partition
    query-shown : query_shown b q.out ≡ meant q.out changes
    query-shown =
        ap (λ ss. map (λ (s : Standing). shown_in s.part s.change) (ascending standing_cmp ss))
        (flat_map-members (standing_at b q.out) (λ part. map (λ c. record { part = part; change = c }) (filter (λ c. partition_of q.out c == part) changes)) (range_with_len 0 q.out.partitions)
        (λ part among. ap (map (λ c. record { part = part; change = c })) (part-shown part)))
        ∙ ap (map (λ (s : Standing). shown_in s.part s.change)) (parts-standing q.out (numbered items sound q.out.number (Started q) at).1 changes places-rise)
        ∙ map-again (λ (s : Standing). shown_in s.part s.change) (standing q.out) changes

    pub query-section : All (IsOfDeclared items) order → section_shown b (Started q) ≡ section_known items b order (Started q)
    query-section declared =
        section-same (shown_up_to b q.out) q.out [] records (query_shown b q.out) (meant q.out changes)
        (sym (ap (skipped_of q.out) none) ∙ skipped-topic q.out records)
        query-shown
      where
        none : filter (is_of_topic q.out) records ≡ []
        none =
            filter-swap (is_of_topic q.out) (λ x. nat_le x.stamp.feed (shown_up_to b q.out)) order
            ∙ ap (filter (λ x. nat_le x.stamp.feed (shown_up_to b q.out))) (none-of-query items order declared q.out.number q at)
