-- A commit that takes no memory.
use Rattle.std.specs.Prelude.{◌≡◌, ℕ, ◌+◌, ◌<◌, ◌≤◌, ◌⊎◌, [], length, map, sum, All, IfSome, slice_get, vec_capacity}
use Rattle.std.specs.VecDeque.{deque_capacity}
use Rattle.ksql_place.specs.Ascending.{Rises}
use Rattle.ksql_place.specs.Routing.{change_cmp, partitions_of}
use Rattle.core_state.specs.Routes.{IsWriter, sent_to}
use Rattle.core_state.specs.State.{feed_of}
use Rattle.core_state.specs.declared.log.Proposal.{Proposal}
use Rattle.topic_log.specs.declared.prepared.Prepared.{Prepared}
use Rattle.topic_log.specs.declared.shelves.PartShelf.{PartShelf}
use Rattle.topic_log.specs.declared.shelves.Shelves.{Shelves}
use Rattle.topic_log.specs.Shelves.{part_at, routes_in, task_at, topics_of}

-- a proposal that can be committed: its outputs ascend, and are of the feeds after `from` up to `to`
pub record IsProposal (p : Proposal) : Type 0 where
  pub rises : p.from < p.to
  pub ascends : Rises change_cmp p.outputs
  pub within : All (λ x. (p.from < feed_of x) × (feed_of x ≤ p.to)) p.outputs

-- the number of changes that wait in a partition
abbrev pub waiting_len : PartShelf → ℕ
waiting_len p = sum (map (λ w. length w.items) p.waiting.items)

-- a partition has room for what waits there and n more changes of a task
pub record HasRoom (writer more : ℕ) (p : PartShelf) : Type 0 where
  pub shown : length p.said.items + waiting_len p + more ≤ vec_capacity p.said
  pub waiting : IfSome (slice_get p.waiting.items writer) (λ w. (w.items ≡ []) ⊎ (length w.items + more ≤ deque_capacity w))

-- what was prepared is this proposal, with its outputs by partition, and the broker has room for it
pub record IsReady (s : Shelves) (made : Prepared) (p : Proposal) : Type 0 where
  pub writer : IsWriter (routes_in s) p.task
  pub proposal : IsProposal p
  pub task : made.task ≡ p.task
  pub generation : made.generation ≡ p.generation
  pub from : made.from ≡ p.from
  pub to : made.to ≡ p.to
  pub entries : made.entries.items ≡ p.entries
  pub sent : (q : ℕ) → IfSome (part_at s ((routes_in s).output p.task) q) (λ part.
      IfSome (slice_get made.sent.items q) (λ xs. xs.items ≡ sent_to (routes_in s) p.task q p.outputs))
  pub parts : length made.sent.items ≡ partitions_of (topics_of s) ((routes_in s).output p.task)
  pub room : IfSome (task_at s p.task) (λ k. length k.logs.items + length p.entries ≤ vec_capacity k.logs)
  pub rooms : (q : ℕ) → IfSome (part_at s ((routes_in s).output p.task) q) (HasRoom p.task.part (length (sent_to (routes_in s) p.task q p.outputs)))
