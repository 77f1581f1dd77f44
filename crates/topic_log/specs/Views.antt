-- The data of a broker without their room in memory.
use Rattle.std.specs.Prelude.{ℕ, ◌<◌, List, length, map, slice_index_or}
use Rattle.ksql_types.specs.declared.relation.StoreEntry.{StoreEntry}
use Rattle.ksql_types.specs.declared.topic.TopicSpec.{TopicSpec}
use Rattle.ksql_place.specs.declared.change.Change.{Change}
use Rattle.ksql_place.specs.declared.change.SourceRecord.{SourceRecord}
use Rattle.topic_log.specs.declared.shelves.PartShelf.{PartShelf}
use Rattle.topic_log.specs.declared.shelves.Shelves.{Shelves}
use Rattle.topic_log.specs.declared.shelves.TaskShelf.{TaskShelf}
use Rattle.topic_log.specs.declared.shelves.TopicShelf.{TopicShelf}

-- a partition: what was fed to it, what it shows of what tasks sent, and what waits, by the partition of the task
pub record PartView : Type 0 where
  pub fed : List SourceRecord
  pub said : List Change
  pub waiting : List (List Change)

-- the data kept for a task
pub record TaskView : Type 0 where
  pub done : ℕ
  pub newest : ℕ
  pub logs : List StoreEntry

-- a topic, its partitions, and the tasks that write it
pub record TopicView : Type 0 where
  pub spec : TopicSpec
  pub parts : List PartView
  pub tasks : List TaskView

abbrev pub part_view : PartShelf → PartView
part_view p = record { fed = p.fed.items; said = p.said.items; waiting = map (λ w. w.items) p.waiting.items }

abbrev pub task_view : TaskShelf → TaskView
task_view k = record { done = k.done; newest = k.newest; logs = k.logs.items }

abbrev pub topic_view : TopicShelf → TopicView
topic_view t = record { spec = t.spec; parts = map part_view t.parts.items; tasks = map task_view t.tasks.items }

abbrev pub topic_views : Shelves → List TopicView
topic_views s = map topic_view s.topics.items

-- a property of each member at its index
abbrev pub EachAt : {A : Type 0} → (ℕ → A → Type 0) → List A → Type 0
EachAt {A} P xs = (k : ℕ) (d : A) → k < length xs → P k (slice_index_or xs k d)
