-- The topics of a broker before any feed and commit.
use Rattle.std.specs.Prelude.{◌≡◌, ℕ, [], length, All}
use Rattle.ksql_types.specs.declared.topic.TopicSpec.{TopicSpec}
use Rattle.core_state.specs.Routes.{tasks_of_writer}
use Rattle.topic_log.specs.declared.shelves.PartShelf.{PartShelf}
use Rattle.topic_log.specs.declared.shelves.TaskShelf.{TaskShelf}
use Rattle.topic_log.specs.declared.shelves.TopicShelf.{TopicShelf}

-- a partition where nothing waits of n tasks
pub record IsEmptyPart (tasks : ℕ) (p : PartShelf) : Type 0 where
  pub fed : p.fed.items ≡ []
  pub said : p.said.items ≡ []
  pub writers : length p.waiting.items ≡ tasks
  pub waiting : All (λ w. w.items ≡ []) p.waiting.items

-- generations begin at 1
pub record IsFreshTask (k : TaskShelf) : Type 0 where
  pub done : k.done ≡ 0
  pub newest : k.newest ≡ 1
  pub logs : k.logs.items ≡ []

-- the number of tasks that write a topic
abbrev pub task_count : TopicSpec → ℕ
task_count topic = length (tasks_of_writer topic.writer)

-- a topic with empty partitions and fresh tasks
pub record IsFreshTopic (topic : TopicSpec) (t : TopicShelf) : Type 0 where
  pub spec : t.spec ≡ topic
  pub parts : length t.parts.items ≡ topic.partitions
  pub tasks : length t.tasks.items ≡ task_count topic
  pub empty : All (IsEmptyPart (task_count topic)) t.parts.items
  pub fresh : All IsFreshTask t.tasks.items
