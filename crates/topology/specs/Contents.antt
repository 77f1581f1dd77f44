-- The content of each partition of each topic: each task processes the entries of its own partition alone, and each
-- change that it sends goes to the partition of its key (Kafka Streams developer guide, "Architecture": a task for each
-- partition).
use Rattle.std.specs.Prelude.{ℕ, zero, suc, ◌==◌, if◌then◌else◌, List, [], ◌∷◌, ◌++◌, map, filter, flat_map, Option, Some, None, slice_get}
use Rattle.std.specs.List.{range_with_len}
use Rattle.ksql_types.specs.declared.topic.TopicSpec.{TopicSpec}
use Rattle.ksql_place.specs.Ascending.{ascending}
use Rattle.ksql_place.specs.Routing.{change_cmp, is_to, partitions_of}
use Rattle.ksql_place.specs.Said.{said}
use Rattle.ksql_place.specs.declared.change.Change.{Change}
use Rattle.ksql_place.specs.declared.change.SourceRecord.{SourceRecord}
use Rattle.ksql_program.specs.declared.program.Item.{Item}
use Rattle.ksql_program.specs.declared.program.Item.TheVariants.{Declared, Started}
use Rattle.ksql_nodes.specs.Entries.{Entry, from_side, through}
use Rattle.ksql_nodes.specs.Nodes.{gives}
use Rattle.query_meaning.specs.Queries.{entry_cmp, with_key_cells}
use Rattle.topology.specs.declared.topology.Sub.{Sub}
use Rattle.topology.specs.declared.topology.SubInput.{SubInput}
use Rattle.topology.specs.declared.topology.Topology.{Topology}

-- the content of a partition of a topic, by the numbers of the topic and the partition
abbrev pub Contents : Type 0
Contents = ℕ → ℕ → List Change

-- what the records of a source say, which is nothing for a topic that isn't one; for a table it is raw, without old
-- rows
abbrev pub source_changes : List SourceRecord → Option Item → List Change
source_changes order None = []
source_changes order (Some (Declared r)) = said r order
source_changes order (Some (Started q)) = []

-- what the records in each partition of each source say
abbrev pub source_contents : List Item → List SourceRecord → Contents
source_contents items order topic part = filter (λ c. c.place.stamp.part == part) (source_changes order (slice_get items topic))

-- ---- a task

-- a change as a task reads it: with this many key columns in front of its rows; with none they are whole already
abbrev pub with_cells : ℕ → Change → Change
with_cells zero c = c
with_cells (suc columns) c = with_key_cells (suc columns) c

-- what comes in on a side
abbrev pub side_entries : ℕ → SubInput → Contents → ℕ → List Entry
side_entries side input has part = from_side side (map (with_cells input.keys) (has input.topic part))

-- what the task of a partition reads: the changes of one topic, or those of two in the order of their places
abbrev pub task_entries : List SubInput → Contents → ℕ → List Entry
task_entries [] has part = []
task_entries (one ∷ []) has part = side_entries 0 one has part
task_entries (left ∷ right ∷ more) has part =
    ascending (entry_cmp left.relation right.relation) (side_entries 0 left has part ++ side_entries 1 right has part)

-- what a task gives for them, with one stream time
abbrev pub task_results : Sub → Contents → ℕ → List Change
task_results sub has part = through (map (gives 1) sub.nodes) (task_entries sub.inputs has part)

-- ---- a topic

-- what all tasks of a sub-topology send to a partition among n, in place order
abbrev pub sent : Sub → Contents → ℕ → ℕ → List Change
sent sub has n part = ascending change_cmp (flat_map (λ task. filter (is_to n part) (task_results sub has task)) (range_with_len 0 sub.partitions))

-- the contents after a sub-topology has written its topic
abbrev pub with_sub : List TopicSpec → Contents → Sub → Contents
with_sub topics has sub topic part = if topic == sub.output then sent sub has (partitions_of topics topic) part else has topic part

-- the contents after some sub-topologies, inputs first
unfoldable pub contents_from : List TopicSpec → Contents → List Sub → Contents
contents_from topics has [] = has
contents_from topics has (s ∷ ss) = contents_from topics (with_sub topics has s) ss

-- the contents of a topology for the records that were fed: of each partition of each topic
abbrev pub contents : List Item → Topology → List SourceRecord → Contents
contents items t order = contents_from t.topics (source_contents items order) t.subs
