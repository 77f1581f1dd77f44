-- The report and the summary of a good broker: those of the program's meaning.
use Rattle.std.specs.Prelude.{◌≡◌, ℕ, ◌<◌, List, length, map, Some, slice_get}
use Rattle.ksql_types.specs.declared.relation.Relation.{Relation}
use Rattle.ksql_place.specs.declared.change.SourceRecord.{SourceRecord}
use Rattle.ksql_program.specs.Program.{relation_of, relations}
use Rattle.ksql_program.specs.declared.program.Item.{Item}
use Rattle.ksql_program.specs.declared.program.Item.TheVariants.{Declared}
use Rattle.operator.specs.Holding.{Maps}
use Rattle.query_meaning.specs.Meaning.{meaning, up_to}
use Rattle.query_meaning.specs.Queries.{changes_at}
use Rattle.topology.specs.Topologies.{topology_of}
use Rattle.core_state.specs.Good.{Good}
use Rattle.core_state.specs.Shelf.{Parts, shelf_closed, state_of}
use Rattle.core_laws.specs.Core.{meaning_in_core}
use Rattle.task_core.specs.Core.{core_of}
use Rattle.topic_log.specs.Shelves.{routes_in, shelf_of, topics_of}
use Rattle.topic_log.specs.declared.shelves.Shelves.{Shelves}
use Rattle.run_text.specs.Report.{Section, meant, report, section_of, summary}
use Rattle.run_text.specs.Shown.{shown_report, shown_summary}

-- ---- the records

-- a record is in the topic of a declared relation
abbrev pub IsOfDeclared : List Item → SourceRecord → Type 0
IsOfDeclared items source = (r : Relation) × (slice_get items source.stamp.topic ≡ Some (Declared r))

-- ---- the broker

-- A broker has the topics of a program, and some good state after the records of an order has its feeds, its commits
-- and what it shows of the relations. Its tasks, and what repartition topics show, may be anything there.
pub record IsGoodBroker (items : List Item) (order : List SourceRecord) (b : Shelves) : Type 0 where
  pub topics : topics_of b ≡ (topology_of items).topics
  pub parts : Parts (List Maps)
  pub fed : parts.shelf.fed ≡ b.fed
  pub done : parts.shelf.done ≡ (shelf_of b).done
  pub shown : (topic q : ℕ) → topic < length items → parts.shelf.shown topic q ≡ (shelf_of b).shown topic q
  pub good : Good (core_of (topology_of items)) (meaning_in_core items order) (state_of parts)

-- the feed up to which a broker shows a relation
abbrev pub shown_up_to : Shelves → Relation → ℕ
shown_up_to b r = shelf_closed (routes_in b) (shelf_of b) r.number

-- ---- the report

-- what is shown of an item: its meaning for the records that were fed, up to the feed up to which the broker shows it
abbrev pub section_known : List Item → Shelves → List SourceRecord → Item → Section
section_known items b order item =
    let r = relation_of item in
    let records = up_to (shown_up_to b r) order in
    section_of (shown_up_to b r) r records (meant r (changes_at (meaning items records) r.number))

-- the report of a broker has all records that were fed, and each relation's meaning for them
abbrev pub ReportsTheMeaning : List Item → List SourceRecord → Shelves → Type 0
ReportsTheMeaning items order b = (trace : List ℕ) → shown_report items b trace ≡ report (relations items) order (map (section_known items b order) items) trace

-- the summary of a broker has for each relation the summary of its meaning for the records that were fed
abbrev pub SummarizesTheMeaning : List Item → List SourceRecord → Shelves → Type 0
SummarizesTheMeaning items order b = shown_summary items b ≡ summary (map (section_known items b order) items)
