-- The progress of a run in numbers alone: what each step of a schedule does to the last feed, to the workers and the
-- tasks that they own, to what the tasks are done with, and to the remaining records of the files.
use Rattle.std.specs.Prelude.{ℕ, zero, suc, ◌+◌, ◌==◌, ◌&&◌, Bool, true, false, not, nat_lt, if◌then◌else◌, List, [], ◌∷◌, ◌++◌, filter, length, map, flat_map, Option, Some, None, is_some}
use Rattle.std.specs.List.{range_with_len}
use Rattle.ksql_types.specs.declared.relation.TaskName.{TaskName}
use Rattle.ksql_place.specs.declared.change.SourceRecord.{SourceRecord}
use Rattle.ksql_program.specs.declared.program.Item.{Item}
use Rattle.topic_files.specs.declared.topic.TopicLines.{TopicLines}
use Rattle.feed_laws.specs.Feeds.{Source, after_feed, records_of, sources_of}
use Rattle.topology.specs.Tasks.{chain_of, tasks_of}
use Rattle.topology.specs.declared.schedule.Count.{Count}
use Rattle.topology.specs.declared.schedule.Lined.{Lined}
use Rattle.topology.specs.declared.schedule.Step.{Step}
use Rattle.topology.specs.declared.schedule.Step.TheVariants as step
use Rattle.topology.specs.declared.topology.Topology.{Topology}
use Rattle.core_state.specs.Routes.{routes_of}
use Rattle.core_state.specs.State.{lowest}
use Rattle.core_state.specs.declared.journal.JournalEntry.{JournalEntry}
use Rattle.core_state.specs.declared.journal.JournalEntry.TheVariants as entry
use Rattle.assignor.specs.Rule.{assignment, is_with, owner_of}
use Rattle.assignor.specs.declared.assignment.Owned.{Owned}
use Rattle.task_core.specs.Core.{inputs_at}

-- the last feed; the live workers in ascending order, and which of them owns which task; the newest generation and the
-- progress of each task; the rounds, the sources, the order of consumption, and the journal
pub record Progress : Type 0 where
  pub fed : ℕ
  pub live : List ℕ
  pub owners : List Owned
  pub newest : TaskName → ℕ
  pub done : TaskName → ℕ
  pub rounds : ℕ
  pub sources : List Source
  pub order : List SourceRecord
  pub journal : List JournalEntry

-- ---- a feed

-- a feed that takes this many records from each source, at most as many as remain
abbrev pub feed : (Source → ℕ) → Progress → Progress
feed count p =
    let records = records_of (p.fed + 1) count p.sources in
    record p {
      fed = p.fed + 1;
      sources = map (after_feed (p.fed + 1) count) p.sources;
      order = p.order ++ records;
      journal = p.journal ++ entry.Fed (p.fed + 1) (length records) ∷ [];
    }

-- all remaining records of a source
abbrev pub whole : Source → ℕ
whole s = length s.left

-- the number of records that a step asks for from the source's topic, 0 if it isn't named
abbrev pub counted : List Count → Source → ℕ
counted [] s = 0
counted (c ∷ cs) s = if c.topic == s.relation.number then c.n else counted cs s

-- the number of records that the feed of a step takes from a source
abbrev pub taken : Step → Source → ℕ
taken step.FeedAll = whole
taken (step.Feed counts) = counted counts
taken _ = λ s. 0

-- ---- a round

-- the feed up to which a topic is closed
abbrev pub closed : Topology → Progress → ℕ → ℕ
closed t p topic = lowest p.fed p.done ((routes_of t.topics).writers topic)

-- the feed up to which all inputs of a task are closed
abbrev pub bound : Topology → Progress → TaskName → ℕ
bound t p u = lowest p.fed (λ i. closed t p i.topic) (inputs_at t u)

-- whether the proposals of an owner's tasks in a round are committed: there is an owner, and it isn't the worker that
-- is lost in the round
abbrev pub takes_part : Option ℕ → Option ℕ → Bool
takes_part lost None = false
takes_part lost (Some worker) = not (is_with worker lost)

-- what a task commits in a round: nothing if it is done with all that its inputs are closed for
abbrev pub committed : Topology → Progress → TaskName → List JournalEntry
committed t p u = if bound t p u == p.done u then [] else entry.Committed u (p.done u) (bound t p u) ∷ []

-- Each task processes what its inputs were closed for when the round began. The proposals of a worker that is lost in
-- the round are lost.
abbrev pub round : Option ℕ → Topology → Progress → Progress
round lost t p = record p {
  done = λ u. if takes_part lost (owner_of p.owners u) then bound t p u else p.done u;
  rounds = p.rounds + 1;
  journal = p.journal ++ entry.Round (p.rounds + 1) ∷ flat_map (λ o. if takes_part lost (Some o.worker) then committed t p o.task else []) p.owners;
}

abbrev pub rounds : Topology → ℕ → Progress → Progress
rounds t zero p = p
rounds t (suc n) p = rounds t n (round None t p)

-- ---- tasks that move

-- whether a task has an owner
abbrev pub is_owned : List Owned → TaskName → Bool
is_owned owners u = is_some (owner_of owners u)

-- the newest generation of a task after some tasks left their owners
abbrev pub newest_after : (TaskName → Bool) → Progress → TaskName → ℕ
newest_after leaves p u = if is_owned p.owners u && leaves u then p.newest u + 1 else p.newest u

-- the journal entries when some tasks leave their owners, each with a new generation of its own, and when tasks without
-- an instance are restored from their changelogs at their owners
abbrev pub notes_of_left : (TaskName → Bool) → Progress → List JournalEntry
notes_of_left leaves p = flat_map (λ o. if leaves o.task then entry.Left o.task (newest_after leaves p o.task) ∷ [] else []) p.owners

abbrev pub notes_of_restored : (TaskName → Bool) → List Owned → Progress → List JournalEntry
notes_of_restored leaves owners p =
    flat_map (λ o. if is_owned p.owners o.task && not (leaves o.task) then [] else entry.Restored o.task o.worker (newest_after leaves p o.task) (p.done o.task) ∷ []) owners

-- some tasks leave their owners, and then tasks have these owners
abbrev pub after_moves : (TaskName → Bool) → List Owned → Progress → Progress
after_moves leaves owners p = record p {
  owners = owners;
  newest = newest_after leaves p;
  journal = p.journal ++ notes_of_left leaves p ++ notes_of_restored leaves owners p;
}

-- whether a task has another owner, or none, among these
abbrev pub has_left : List Owned → List Owned → TaskName → Bool
has_left before now u = not (is_same_owner (owner_of before u) (owner_of now u))
  where
    is_same_owner : Option ℕ → Option ℕ → Bool
    is_same_owner None other = true
    is_same_owner (Some worker) other = is_with worker other

-- other workers are live: the tasks are reassigned
abbrev pub after_assignment : Topology → List ℕ → Progress → Progress
after_assignment t live p =
    let owners = assignment p.owners live (tasks_of t.subs) in
    after_moves (has_left p.owners owners) owners (record p { live = live })

-- ---- workers

-- the live workers with lower numbers and with higher ones, with another one between them, or none
abbrev pub with_worker : ℕ → List ℕ → List ℕ
with_worker worker live = filter (λ w. nat_lt w worker) live ++ worker ∷ filter (λ w. nat_lt worker w) live

abbrev pub without_worker : ℕ → List ℕ → List ℕ
without_worker worker live = filter (λ w. nat_lt w worker) live ++ filter (λ w. nat_lt worker w) live

-- whether two names are those of the same task
abbrev pub is_task : TaskName → TaskName → Bool
is_task u v = (u.sub == v.sub) && (u.part == v.part)

-- after a round in which a worker is lost, the worker is gone
abbrev pub after_loss : Option ℕ → Topology → Progress → Progress
after_loss None t p = p
after_loss (Some worker) t p = after_assignment t (without_worker worker p.live) p

-- ---- the beginning

-- nothing was fed or done, and no worker is live
abbrev pub before_workers : List Item → List TopicLines → Progress
before_workers items files = record {
  fed = 0;
  live = [];
  owners = [];
  newest = λ u. 1;
  done = λ u. 0;
  rounds = 0;
  sources = sources_of items files;
  order = [];
  journal = entry.Step 0 ∷ [];
}

-- then n workers are live, and each task is made at its owner
abbrev pub opening : Topology → List Item → List TopicLines → ℕ → Progress
opening t items files workers = after_assignment t (range_with_len 1 workers) (before_workers items files)

-- ---- the steps

-- A step: a feed; a round, in which a worker may be lost; a worker that comes or goes; a task that is lost and restored
-- at its owner; or a drain, which is as many rounds as the topology's chain.
abbrev pub after_step : Topology → Progress → Step → Progress
after_step t p step.FeedAll = feed whole p
after_step t p (step.Feed counts) = feed (counted counts) p
after_step t p (step.Round lost stalled) = after_loss lost t (round lost t p)
after_step t p (step.Start worker) = after_assignment t (with_worker worker p.live) p
after_step t p (step.Stop worker) = after_assignment t (without_worker worker p.live) p
after_step t p (step.Lose task) = after_moves (is_task task) p.owners p
after_step t p step.Drain = rounds t (chain_of t.subs) p
after_step t p (step.Wake worker) = p

-- a step with its line
abbrev pub after_line : Topology → Progress → Lined → Progress
after_line t p l = after_step t (record p { journal = p.journal ++ entry.Step l.line ∷ [] }) l.step

-- the steps of a schedule
abbrev pub after_steps : Topology → Progress → List Lined → Progress
after_steps t p [] = p
after_steps t p (l ∷ ls) = after_steps t (after_line t p l) ls
