-- Which tasks write which topic, and to which partitions their changes go.
use Rattle.std.specs.Prelude.{ℕ, suc, ◌==◌, if◌then◌else◌, Bool, false, List, [], ◌∷◌, map, filter, flat_map, Contains, Option, Some, None, option_and_then, slice_get}
use Rattle.std.specs.List.{range_with_len}
use Rattle.ksql_types.specs.Lane.{lane}
use Rattle.ksql_types.specs.declared.relation.TaskName.{TaskName}
use Rattle.ksql_types.specs.declared.topic.TopicSpec.{TopicSpec}
use Rattle.ksql_types.specs.declared.topic.Writer.{Writer}
use Rattle.ksql_place.specs.Ascending.{ascending}
use Rattle.ksql_place.specs.Routing.{change_cmp, partitions_of}
use Rattle.ksql_place.specs.declared.change.Change.{Change}

-- the topic that a task writes, the tasks that write a topic, and the partition to which a task sends a change
pub record Routes : Type 0 where
  pub output : TaskName → ℕ
  pub writers : ℕ → List TaskName
  pub lane_of : TaskName → Change → ℕ

-- a task is a writer of its topic
abbrev pub IsWriter : Routes → TaskName → Type 0
IsWriter r t = Contains (r.writers (r.output t)) t

-- the changes of a task that go to a partition
abbrev pub sent_to : Routes → TaskName → ℕ → List Change → List Change
sent_to r t q xs = filter (λ x. r.lane_of t x == q) xs

-- the changes of several lists in the order of their places; on equal places, in the order of the lists
abbrev pub merged : List (List Change) → List Change
merged ls = ascending change_cmp (flat_map (λ xs. xs) ls)

-- ---- the routes of topics

-- the tasks of a topic's writer: one for each of its partitions
abbrev pub tasks_of_writer : Option Writer → List TaskName
tasks_of_writer None = []
tasks_of_writer (Some w) = map (λ part. record { sub = w.sub; part = part }) (range_with_len 0 w.partitions)

-- whether a topic is written by a sub-topology
abbrev pub is_written_by : ℕ → Option Writer → Bool
is_written_by sub None = false
is_written_by sub (Some w) = w.sub == sub

-- the number of the first topic that a sub-topology writes, where the first of these topics has this number
abbrev pub topic_from : ℕ → List TopicSpec → ℕ → ℕ
topic_from number [] sub = number
topic_from number (topic ∷ topics) sub = if is_written_by sub topic.writer then number else topic_from (suc number) topics sub

abbrev pub routes_of : List TopicSpec → Routes
routes_of topics = record {
  output = λ t. topic_from 0 topics t.sub;
  writers = λ topic. tasks_of_writer (option_and_then (λ t. t.writer) (slice_get topics topic));
  lane_of = λ t x. lane x.key (partitions_of topics (topic_from 0 topics t.sub)) x.place.stamp.part;
}
