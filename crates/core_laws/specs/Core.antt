-- The law of the core, for the topology of a program.
use Rattle.std.specs.Prelude.{◌≡◌, ℕ, ◌==◌, List, Contains, Some, filter, flat_map, map, slice_get}
use Rattle.ksql_place.specs.declared.change.Change.{Change}
use Rattle.ksql_place.specs.declared.change.SourceRecord.{SourceRecord}
use Rattle.ksql_program.specs.declared.program.Item.{Item}
use Rattle.ksql_program.specs.declared.program.Item.TheVariants.{Started}
use Rattle.ksql_program.specs.declared.query.Query.{Query}
use Rattle.ksql_nodes.specs.Entries.{Entry}
use Rattle.operator.specs.Holding.{Maps}
use Rattle.query_meaning.specs.Meaning.{meaning, partition_of}
use Rattle.query_meaning.specs.Queries.{changes_at}
use Rattle.topology.specs.Contents.{contents}
use Rattle.topology.specs.Topologies.{topology_of}
use Rattle.short_laws.specs.Fed.{IsFed}
use Rattle.core_state.specs.Events.{Event, records_of}
use Rattle.core_state.specs.Good.{IsOpening}
use Rattle.core_state.specs.Law.{AllHappen, EventsKeepGood, RunsAreGood}
use Rattle.core_state.specs.Meaning.{Meaning}
use Rattle.core_state.specs.State.{State, closed}
use Rattle.core_state.specs.Wired.{AreCounted, contents_of, mean_of, order_upto}
use Rattle.core_state.specs.declared.log.LogEntry.{LogEntry}
use Rattle.core_state.specs.declared.log.LogEntry.TheVariants.{Said}
use Rattle.task_core.specs.Core.{core_of, wiring_of}
use Rattle.wiring_laws.specs.Written.{written_topics}

-- the content of each partition in the core of a program
abbrev pub contents_in_core : List Item → List SourceRecord → ℕ → ℕ → List LogEntry
contents_in_core items order = contents_of (wiring_of (topology_of items)) (written_topics items) order

-- the meaning of a program's topology for an order of records: what each task reads and gives, and the content of each
-- partition
abbrev pub meaning_in_core : List Item → List SourceRecord → Meaning Entry
meaning_in_core items order = mean_of (wiring_of (topology_of items)) (written_topics items) order

-- ---- good states

-- each event of the core of a program keeps a good state, if feeds are counted from 1
abbrev pub KeepsGoodStates : List Item → Type 0
KeepsGoodStates items = EventsKeepGood (core_of (topology_of items)) AreCounted (meaning_in_core items)

-- every state reachable from the opening state is good
abbrev pub StaysGood : List Item → Type 0
StaysGood items = RunsAreGood (core_of (topology_of items)) AreCounted (meaning_in_core items)

-- ---- contents

-- each partition of a topic that tasks write has the same content in the core as in the topology of the program
abbrev pub HasItsContents : List Item → List SourceRecord → Type 0
HasItsContents items order =
    (topic part : ℕ) → Contains (written_topics items) topic → contents_in_core items order topic part ≡ map Said (contents items (topology_of items) order topic part)

-- the changes that a query means in a partition of its result's topic
abbrev pub meant_in_part : List Item → List SourceRecord → ℕ → Query → ℕ → List Change
meant_in_part items order number q part = filter (λ c. partition_of q.out c == part) (changes_at (meaning items order) number)

-- each partition of the topic of each query's result has in the core exactly the changes that the query means there
abbrev pub HasItsQueries : List Item → List SourceRecord → Type 0
HasItsQueries items order =
    (number : ℕ) (q : Query) → slice_get items number ≡ Some (Started q) → (part : ℕ) → contents_in_core items order number part ≡ map Said (meant_in_part items order number q part)

-- In every state reachable from the opening state, each partition of the topic of each query's result shows the changes
-- that the query means there for the records that were fed, up to the feed that all writers of the topic have
-- committed.
abbrev pub ShowsItsQueries : List Item → Type 0
ShowsItsQueries items =
    (es : List Event) (s last : State (List Maps)) → AreCounted (flat_map records_of es) → IsFed items (flat_map records_of es) →
    IsOpening (core_of (topology_of items)) s → AllHappen (core_of (topology_of items)) es s last →
    (number : ℕ) (q : Query) → slice_get items number ≡ Some (Started q) → (part : ℕ) →
    last.shown number part
    ≡ map Said (meant_in_part items (order_upto (closed (wiring_of (topology_of items)).routes last number) (flat_map records_of es)) number q part)
