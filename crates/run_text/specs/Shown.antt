-- The report on what a broker shows, whatever that is: from the content of its topics, without the queries.
use Rattle.std.specs.Prelude.{◌≡◌, ℕ, List, [], ◌∷◌, map, flat_map, slice_get}
use Rattle.std.specs.List.{range_with_len}
use Rattle.std.specs.Option.{IsSomeAnd}
use Rattle.std.specs.declared.cmp.Ordering.{Ordering}
use Rattle.std.specs.Ordering.{nat_cmp, ordering_then}
use Rattle.ksql_types.specs.declared.relation.Relation.{Relation}
use Rattle.ksql_place.specs.Ascending.{ascending}
use Rattle.ksql_place.specs.Order.{place_cmp, record_cmp}
use Rattle.ksql_place.specs.declared.change.Change.{Change}
use Rattle.ksql_place.specs.declared.change.SourceRecord.{SourceRecord}
use Rattle.ksql_program.specs.declared.program.Item.{Item}
use Rattle.ksql_program.specs.declared.program.Item.TheVariants.{Declared, Started}
use Rattle.ksql_program.specs.Program.{relations}
use Rattle.query_meaning.specs.Meaning.{declared_changes}
use Rattle.core_state.specs.declared.log.LogEntry.{LogEntry}
use Rattle.core_state.specs.declared.log.LogEntry.TheVariants.{Fed, Said}
use Rattle.core_state.specs.Shelf.{shelf_closed}
use Rattle.topic_log.specs.Shelves.{routes_in, shelf_of, topics_of}
use Rattle.topic_log.specs.declared.shelves.Shelves.{Shelves}
use Rattle.run_text.specs.Printed.{Shown, shown_in}
use Rattle.run_text.specs.Report.{Section, report, section_of, summary}

-- the records, or the changes, among the entries of a partition
abbrev pub records_in : List LogEntry → List SourceRecord
records_in [] = []
records_in (Fed r ∷ xs) = r ∷ records_in xs
records_in (Said x ∷ xs) = records_in xs

abbrev pub changes_in : List LogEntry → List Change
changes_in [] = []
changes_in (Fed r ∷ xs) = changes_in xs
changes_in (Said x ∷ xs) = x ∷ changes_in xs

-- what a partition of a relation's topic shows
abbrev pub entries_at : Shelves → Relation → ℕ → List LogEntry
entries_at b r q = (shelf_of b).shown r.number q

-- ---- declared relations

-- the records of a declared relation's topic, partition by partition
abbrev pub records_by_part : Shelves → Relation → List SourceRecord
records_by_part b r = flat_map (λ q. records_in (entries_at b r q)) (range_with_len 0 r.partitions)

-- all together, by their stamps
abbrev pub records_shown : Shelves → Relation → List SourceRecord
records_shown b r = ascending record_cmp (records_by_part b r)

-- its changes, each in its record's partition
abbrev pub declared_shown : Shelves → Relation → List Shown
declared_shown b r = map (λ c. shown_in c.place.stamp.part c) (declared_changes r (records_shown b r))

-- the order of consumption: the records of the topics of all declared relations, by their stamps
abbrev pub declared_records : Shelves → Item → List SourceRecord
declared_records b (Declared r) = records_shown b r
declared_records b (Started q) = []

abbrev pub order_shown : Shelves → List Item → List SourceRecord
order_shown b items = ascending record_cmp (flat_map (declared_records b) items)

-- ---- queries

-- a change and its partition
pub record Standing : Type 0 where
  pub part : ℕ
  pub change : Change

-- by place, and on equal places by partition
abbrev pub standing_cmp : Standing → Standing → Ordering
standing_cmp a b = ordering_then (place_cmp a.change.place b.change.place) (nat_cmp a.part b.part)

abbrev pub standing_at : Shelves → Relation → ℕ → List Standing
standing_at b r q = map (λ c. record { part = q; change = c }) (changes_in (entries_at b r q))

-- the changes of a query's topic, all partitions together
abbrev pub query_shown : Shelves → Relation → List Shown
query_shown b r =
    map (λ s. shown_in s.part s.change) (ascending standing_cmp (flat_map (standing_at b r) (range_with_len 0 r.partitions)))

-- ---- the report

-- what is shown of an item, up to the feed up to which its topic is closed
abbrev pub section_shown : Shelves → Item → Section
section_shown b (Declared r) = section_of (shelf_closed (routes_in b) (shelf_of b) r.number) r (records_shown b r) (declared_shown b r)
section_shown b (Started q) = section_of (shelf_closed (routes_in b) (shelf_of b) q.out.number) q.out [] (query_shown b q.out)

unfoldable pub shown_report : List Item → Shelves → List ℕ → List ℕ
shown_report items b trace = report (relations items) (order_shown b items) (map (section_shown b) items) trace

-- the summary of what is shown
unfoldable pub shown_summary : List Item → Shelves → List ℕ
shown_summary items b = summary (map (section_shown b) items)

-- a broker has the topic of each relation, with the same number of partitions
abbrev pub HasTopicOf : Shelves → Relation → Type 0
HasTopicOf b r = IsSomeAnd (slice_get (topics_of b) r.number) (λ t. t.partitions ≡ r.partitions)
