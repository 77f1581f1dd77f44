-- A round: each task processes what the broker has when the round begins, and then each proposal is committed.
use Rattle.std.specs.Prelude.{◌≡◌, ◌<◌, ℕ, true, false, List, [], ◌∷◌, IfSome, IsSome, Option, Some, None, option_map, slice_get}
use Rattle.ksql_types.specs.declared.topic.TopicSpec.{TopicSpec}
use Rattle.core_state.specs.Routes.{IsWriter, Routes}
use Rattle.core_state.specs.Shelf.{Shelf, ShelfApplies}
use Rattle.core_state.specs.declared.journal.JournalEntry.{JournalEntry}
use Rattle.core_state.specs.declared.journal.JournalEntry.TheVariants as entry
use Rattle.core_state.specs.declared.log.Proposal.{Proposal}
use Rattle.task_core.specs.Advancing.{CanAdvance, IsAdvanced}
use Rattle.task_core.specs.Tasks.{CanRead, TaskView}
use Rattle.assignor.specs.Rule.{is_with}
use Rattle.topic_log.specs.Ready.{IsProposal}
use Rattle.topic_log.specs.Shelves.{part_at, routes_in, shelf_of, topics_of}
use Rattle.topic_log.specs.declared.shelves.Shelves.{Shelves}
use Rattle.cluster_laws.specs.Tasks.{idle}
use Rattle.cluster_laws.specs.declared.seats.Ran.{Ran}
use Rattle.cluster_laws.specs.declared.seats.Seat.{Seat}

-- ---- what a broker has

-- the number of partitions of a topic, if it exists
abbrev pub count_at : List TopicSpec → ℕ → Option ℕ
count_at topics topic = option_map (λ t. t.partitions) (slice_get topics topic)

-- a broker has all partitions of its topics
abbrev pub HasParts : Shelves → Type 0
HasParts b = (topic part n : ℕ) → count_at (topics_of b) topic ≡ Some n → part < n → IsSome (part_at b topic part)

-- a task can read and process what a broker shows
pub record CanGo (b : Shelves) (t : TaskView) : Type 0 where
  pub advance : CanAdvance (routes_in b) (shelf_of b) t
  pub readable : CanRead b t

-- ---- proposals that are committed

-- a proposal of the newest generation that begins where its task's last commit ended
pub record CanCommit (r : Routes) (b : Shelf) (p : Proposal) : Type 0 where
  pub writer : IsWriter r p.task
  pub proposal : IsProposal p
  pub newest : p.generation ≡ b.newest p.task
  pub begins : b.done p.task ≡ p.from

-- ---- tasks at their owners

-- a task at its owner after a round: it processed what the broker has, or waits as before if its owner is lost
pub record HasRun (lost : Option ℕ) (r : Routes) (b : Shelf) (s : Seat) (x : Ran) : Type 0 where
  pub worker : x.worker ≡ s.worker
  pub waits : is_with s.worker lost ≡ true → x.moved ≡ idle s.task
  pub moved : is_with s.worker lost ≡ false → IsAdvanced r b s.task x.moved

abbrev pub seat_of : Ran → Seat
seat_of r = record { worker = r.worker; task = r.moved.task }

-- what a task offers to commit
abbrev pub offered : Ran → Option Proposal
offered r = r.moved.proposal

-- two proposals are of different tasks
abbrev pub ProposeApart : Option Proposal → Option Proposal → Type 0
ProposeApart o q = IfSome o (λ a. IfSome q (λ b. ¬ (a.task ≡ b.task)))

-- the broker after the commit of a task's proposal, if any
abbrev pub Settles : Routes → Option Proposal → Shelf → Shelf → Type 0
Settles r None b next = next ≡ b
Settles r (Some p) b next = ShelfApplies r p.task p b next

-- the broker after all commits, one after another
abbrev pub AllSettle : Routes → List (Option Proposal) → Shelf → Shelf → Type 0
AllSettle r [] b next = next ≡ b
AllSettle r (o ∷ os) b next = (mid : Shelf) × Settles r o b mid × AllSettle r os mid next

-- the journal entry of a commit
abbrev pub noted : Option Proposal → List JournalEntry
noted None = []
noted (Some p) = entry.Committed p.task p.from p.to ∷ []
