-- The memory allocated before a commit.
use Rattle.std.specs.Prelude.{◌≡◌, ℕ, ◌+◌, ◌<◌, ◌≤◌, List, [], length, filter, slice_get, Option, Some, None, IfSome, vec_capacity}
use Rattle.std.specs.Global.{Vec}
use Rattle.std.specs.List.{AllZip}
use Rattle.std.specs.VecDeque.{deque_capacity}
use Rattle.ksql_place.specs.Routing.{is_to}
use Rattle.ksql_place.specs.declared.change.Change.{Change}
use Rattle.core_state.specs.declared.log.Proposal.{Proposal}
use Rattle.topic_log.specs.declared.prepared.Rooms.{Rooms}
use Rattle.topic_log.specs.declared.shelves.PartShelf.{PartShelf}
use Rattle.topic_log.specs.declared.shelves.TaskShelf.{TaskShelf}
use Rattle.topic_log.specs.declared.shelves.TopicShelf.{TopicShelf}
use Rattle.topic_log.specs.Ready.{HasRoom}
use Rattle.topic_log.specs.Views.{EachAt}

-- the number of changes that go to a partition among n
abbrev pub count_to : ℕ → List Change → ℕ → ℕ
count_to n xs part = length (filter (is_to n part) xs)

-- an empty list with room for n changes
abbrev pub IsEmptyRoom : ℕ → Vec Change → Type 0
IsEmptyRoom more xs = (xs.items ≡ []) × (more ≤ vec_capacity xs)

-- the room that a list of n changes needs: none if one partition gets the list of all
abbrev pub room_beside : Option ℕ → ℕ → ℕ
room_beside None count = count
room_beside (Some part) count = 0

-- lists for changes by their partitions among n: all go to one of them, or each list has room for those that go there
pub record AreRooms (n : ℕ) (xs : List Change) (rooms : Rooms) : Type 0 where
  pub len : length rooms.lists.items ≡ n
  pub whole : IfSome rooms.whole (λ part. (part < n) × (count_to n xs part ≡ length xs))
  pub lists : EachAt (λ q list. IsEmptyRoom (room_beside rooms.whole (count_to n xs q)) list) rooms.lists.items

-- the topic that a proposal's task writes has room for its commit
pub record HasRoomFor (p : Proposal) (t : TopicShelf) : Type 0 where
  pub parts : EachAt (λ q part. HasRoom p.task.part (count_to t.spec.partitions p.outputs q) part) t.parts.items
  pub logs : IfSome (slice_get t.tasks.items p.task.part) (λ k. length k.logs.items + length p.entries ≤ vec_capacity k.logs)

-- each list of a partition has at least the room that it had
pub record KeepsRoom (was now : PartShelf) : Type 0 where
  pub shown : vec_capacity was.said ≤ vec_capacity now.said
  pub waiting : AllZip (λ w v. deque_capacity w ≤ deque_capacity v) was.waiting.items now.waiting.items

-- so has a task's changelog
abbrev pub KeepsLogRoom : TaskShelf → TaskShelf → Type 0
KeepsLogRoom was now = vec_capacity was.logs ≤ vec_capacity now.logs

-- so has each list of a topic
pub record KeepsRooms (was now : TopicShelf) : Type 0 where
  pub parts : AllZip KeepsRoom was.parts.items now.parts.items
  pub logs : AllZip KeepsLogRoom was.tasks.items now.tasks.items
