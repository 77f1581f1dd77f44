-- The meaning of a broker's data, and its invariants.
use Rattle.std.specs.Prelude.{◌≡◌, ℕ, ◌<◌, ◌≤◌, List, [], length, map, All, Option, IfSome, IsSome, option_and_then, option_map, unwrap_or, slice_get}
use Rattle.std.specs.List.{AllPairs, AllZip}
use Rattle.ksql_types.specs.declared.relation.TaskName.{TaskName}
use Rattle.ksql_types.specs.declared.topic.TopicSpec.{TopicSpec}
use Rattle.ksql_place.specs.Ascending.{Rises}
use Rattle.ksql_place.specs.Routing.{change_cmp}
use Rattle.ksql_place.specs.declared.change.Change.{Change}
use Rattle.core_state.specs.Routes.{Routes, routes_of, tasks_of_writer}
use Rattle.core_state.specs.Shelf.{Shelf}
use Rattle.core_state.specs.State.{feed_of, lowest}
use Rattle.topic_log.specs.declared.shelves.PartShelf.{PartShelf}
use Rattle.topic_log.specs.declared.shelves.Shelves.{Shelves}
use Rattle.topic_log.specs.declared.shelves.TaskShelf.{TaskShelf}
use Rattle.topic_log.specs.declared.shelves.TopicShelf.{TopicShelf}
use Rattle.topic_log.specs.Entries.{shown_in}
use Rattle.topic_log.specs.Order.{IsInPlaceOrder, feed_in}

-- ---- reading

-- the topics of a broker
abbrev pub topics_of : Shelves → List TopicSpec
topics_of s = map (λ t. t.spec) s.topics.items

abbrev pub routes_in : Shelves → Routes
routes_in s = routes_of (topics_of s)

-- a partition of a topic
abbrev pub part_at : Shelves → ℕ → ℕ → Option PartShelf
part_at s topic q = option_and_then (λ t. slice_get t.parts.items q) (slice_get s.topics.items topic)

-- the data kept for a task
abbrev pub task_at : Shelves → TaskName → Option TaskShelf
task_at s t = option_and_then (λ k. slice_get k.tasks.items t.part) (slice_get s.topics.items ((routes_in s).output t))

-- the waiting changes in a partition from the task of a partition
abbrev pub waiting_in : ℕ → PartShelf → List Change
waiting_in writer p = unwrap_or (option_map (λ w. w.items) (slice_get p.waiting.items writer)) []

-- the broker's state
abbrev pub shelf_of : Shelves → Shelf
shelf_of s = record {
  fed = s.fed;
  shown = λ topic q. unwrap_or (option_map shown_in (part_at s topic q)) [];
  waiting = λ t q. unwrap_or (option_map (waiting_in t.part) (part_at s ((routes_in s).output t) q)) [];
  done = λ t. unwrap_or (option_map (λ k. k.done) (task_at s t)) 0;
  newest = λ t. unwrap_or (option_map (λ k. k.newest) (task_at s t)) 0;
  logs = λ t. unwrap_or (option_map (λ k. k.logs.items) (task_at s t)) [];
}

-- a partition of a topic that no task writes
abbrev pub IsSourcePart : Shelves → ℕ → ℕ → Type 0
IsSourcePart s topic q = ((routes_in s).writers topic ≡ []) × IsSome (part_at s topic q)

-- ---- invariants

-- a topic has 1 to 64 partitions, and so has its writer
pub record IsTopic (t : TopicSpec) : Type 0 where
  pub some : 1 ≤ t.partitions
  pub few : t.partitions ≤ 64
  pub writer_some : IfSome t.writer (λ w. 1 ≤ w.partitions)
  pub writer_few : IfSome t.writer (λ w. w.partitions ≤ 64)

-- topics: the number of each is its index, and a sub-topology writes at most one of them
pub record AreTopics (topics : List TopicSpec) : Type 0 where
  pub numbered : (i : ℕ) → IfSome (slice_get topics i) (λ t. t.number ≡ i)
  pub each : All IsTopic topics
  pub apart : AllPairs (λ a b. IfSome a.writer (λ w. IfSome b.writer (λ v. ¬ (w.sub ≡ v.sub)))) topics

-- the waiting changes of a task that is done up to a feed, in a topic closed up to another, ascend and lie between the
-- two
abbrev pub Waits : ℕ → ℕ → List Change → Type 0
Waits closed done xs = Rises change_cmp xs × All (λ x. (closed < feed_of x) × (feed_of x ≤ done)) xs

-- a partition of a topic that is closed up to a feed, and whose writers are done up to these; without writers it has no
-- change
pub record IsPartShelf (closed : ℕ) (dones : List ℕ) (p : PartShelf) : Type 0 where
  pub in_order : IsInPlaceOrder (shown_in p)
  pub is_closed : All (λ x. feed_in x ≤ closed) (shown_in p)
  pub unwritten : dones ≡ [] → p.said.items ≡ []
  pub waits : AllZip (λ done w. Waits closed done w.items) dones p.waiting.items

abbrev pub dones_of : TopicShelf → List ℕ
dones_of t = map (λ k. k.done) t.tasks.items

-- the feed up to which a topic is closed, given the last feed
abbrev pub closed_in : ℕ → TopicShelf → ℕ
closed_in fed t = lowest fed (λ k. k.done) t.tasks.items

pub record IsTopicShelf (fed : ℕ) (t : TopicShelf) : Type 0 where
  pub parts : length t.parts.items ≡ t.spec.partitions
  pub tasks : length t.tasks.items ≡ length (tasks_of_writer t.spec.writer)
  pub each : All (IsPartShelf (closed_in fed t) (dones_of t)) t.parts.items

pub record AreShelves (s : Shelves) : Type 0 where
  pub topics : AreTopics (topics_of s)
  pub each : All (IsTopicShelf s.fed) s.topics.items
