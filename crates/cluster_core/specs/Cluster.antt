-- A cluster during a run: its numbers are those of the steps taken, and its state is good.
use Rattle.std.specs.Prelude.{◌≡◌, ◌+◌, ◌≤◌, ◌^◌, Bool, false, not, IfSome, List, [], ◌++◌, length, map, All, Some, None}
use Rattle.std.specs.List.{AllZip}
use Rattle.std.specs.List.Sorted.{IsStrictlyIncreasing}
use Rattle.ksql_types.specs.declared.relation.TaskName.{TaskName}
use Rattle.ksql_place.specs.declared.change.SourceRecord.{SourceRecord}
use Rattle.ksql_program.specs.declared.program.Item.{Item}
use Rattle.short_laws.specs.Short.{HoldTexts}
use Rattle.topic_feeds.specs.Reaching.{Reaches}
use Rattle.topology.specs.Tasks.{chain_of, tasks_of}
use Rattle.topology.specs.Topologies.{topology_of}
use Rattle.topology.specs.declared.schedule.Step.{Step}
use Rattle.topology.specs.declared.schedule.Step.TheVariants as step
use Rattle.topology.specs.declared.topology.Topology.{Topology}
use Rattle.core_state.specs.Good.{Good}
use Rattle.core_state.specs.Law.{AllHappen}
use Rattle.core_state.specs.declared.journal.JournalEntry.{JournalEntry}
use Rattle.core_laws.specs.Core.{meaning_in_core}
use Rattle.topic_log.specs.Shelves.{shelf_of, topics_of}
use Rattle.task_core.specs.Core.{core_of}
use Rattle.task_core.specs.declared.task.Moved.{Moved}
use Rattle.assignor.specs.declared.assignment.Owned.{Owned}
use Rattle.feed_laws.specs.Feeds.{Source}
use Rattle.feed_laws.specs.Fitting.{AreSourcesOf, Fits}
use Rattle.cluster_laws.specs.Moves.{kept_of, owned_of}
use Rattle.cluster_laws.specs.Progress.{Progress}
use Rattle.cluster_laws.specs.Tasks.{IsOwned, IsTaskIn, KeepPlaces, core_state_of, idle}
use Rattle.cluster_laws.specs.Told.{committing, told}
use Rattle.cluster_core.specs.declared.cluster.Cluster.{Cluster}
use Rattle.cluster_laws.specs.declared.seats.Seat.{Seat}
use Rattle.cluster_core.specs.declared.sources.Source.{Source as Kept}

-- ---- the cluster

-- a source as it is stored in a run; the records of its file fit into memory
pub record IsKept (kept : Kept) (s : Source) : Type 0 where
  pub relation : kept.relation ≡ s.relation
  pub reached : Reaches s.relation s.before kept.reached
  pub left : kept.left.items ≡ s.left
  pub few : length s.before + length s.left ≤ 2 ^ 63

-- The progress of a run is valid: its sources are those of the program, the order of consumption fits the program, and
-- the live workers own the tasks
pub record IsProgress (items : List Item) (p : Progress) : Type 0 where
  pub sources : AreSourcesOf items p.fed p.sources
  pub order : Fits items p.order
  pub none_later : All (λ r. r.stamp.feed ≤ p.fed) p.order
  pub live : IsStrictlyIncreasing p.live
  pub owned : IsOwned (topology_of items) p.owners

-- a cluster of a program has this progress, and its tasks run with these proposals
pub record HasComeWith (items : List Item) (p : Progress) (ms : List Moved) (c : Cluster) : Type 0 where
  pub texts : HoldTexts items
  pub progress : IsProgress items p
  pub topology : c.topology ≡ topology_of items
  pub chain : c.chain ≡ chain_of c.topology.subs
  pub topics : topics_of c.broker ≡ c.topology.topics
  pub live : c.live.items ≡ p.live
  pub owners : map owned_of c.seats.items ≡ p.owners
  pub running : map (λ m. m.task) ms ≡ map (λ s. s.task) c.seats.items
  pub named : All (λ m. IfSome m.proposal (λ q. q.task ≡ m.task.name)) ms
  pub tasks : All (λ s. IsTaskIn c.topology s.task) c.seats.items
  pub instances : All (λ s. s.task.generation ≡ (shelf_of c.broker).newest s.task.name) c.seats.items
  pub good : Good (core_of c.topology) (meaning_in_core items p.order) (core_state_of c.broker ms)
  pub fed : c.broker.fed ≡ p.fed
  pub newest : All (λ u. (shelf_of c.broker).newest u ≡ p.newest u) (tasks_of c.topology.subs)
  pub done : All (λ u. (shelf_of c.broker).done u ≡ p.done u) (tasks_of c.topology.subs)
  pub rounds : c.rounds ≡ p.rounds
  pub journal : c.journal.items ≡ p.journal
  pub sources : AllZip IsKept c.sources.items p.sources

-- a cluster of a program has this progress, and no task waits with a proposal
abbrev pub HasCome : List Item → Progress → Cluster → Type 0
HasCome items p c = HasComeWith items p (map (λ s. idle s.task) c.seats.items) c

-- What led from one cluster to a later one is what the later one's further journal entries tell of: the events happened
-- one after another, and nothing else did. A feed was of these records.
pub record HasHappenedWith (items : List Item) (records : List SourceRecord) (running : List Moved) (c next : Cluster) : Type 0 where
  pub notes : List JournalEntry
  pub journal : next.journal.items ≡ c.journal.items ++ notes
  -- they begin with no commit, since each commit is told of after its round
  pub in_round : committing notes ≡ []
  pub happen : AllHappen (core_of (topology_of items)) (told records notes)
      (core_state_of c.broker running) (core_state_of next.broker (map (λ s. idle s.task) next.seats.items))

-- the same from a cluster in which no task waits with a proposal
abbrev pub HasHappened : List Item → List SourceRecord → Cluster → Cluster → Type 0
HasHappened items records c next = HasHappenedWith items records (map (λ s. idle s.task) c.seats.items) c next

-- tasks can leave their owners, and then have these owners
pub record CanMove (t : Topology) (leaves : TaskName → Bool) (staying : List Bool) (owners : List Owned) (seats : List Seat) (running : List Moved) : Type 0 where
  pub stays : staying ≡ map (λ s. not (leaves s.task.name)) seats
  pub owned : IsOwned t owners
  pub places : KeepPlaces owners (kept_of staying seats)
  pub idle : AllZip (λ s m. leaves s.task.name ≡ false → m ≡ idle s.task) seats running

-- a step that a cluster can take now: one in which no worker stalls or wakes
abbrev pub IsBuilt : Step → Type 0
IsBuilt step.FeedAll = Unit {0}
IsBuilt (step.Feed counts) = Unit {0}
IsBuilt (step.Round lost None) = Unit {0}
IsBuilt (step.Round lost (Some stalled)) = ⊥
IsBuilt (step.Start worker) = Unit {0}
IsBuilt (step.Stop worker) = Unit {0}
IsBuilt (step.Lose task) = Unit {0}
IsBuilt (step.Wake worker) = ⊥
IsBuilt step.Drain = Unit {0}
