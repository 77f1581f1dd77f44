-- What the feeds of a schedule are, and when it ends drained.
use Rattle.std.specs.Prelude.{◌≡◌, ◌≢◌, ℕ, Bool, true, false, List, [], ◌∷◌, ◌++◌, Contains}
use Rattle.ksql_types.specs.declared.relation.TaskName.{TaskName}
use Rattle.ksql_program.specs.declared.program.Item.{Item}
use Rattle.topology.specs.Tasks.{tasks_of}
use Rattle.topology.specs.Topologies.{subs, topology_of}
use Rattle.topology.specs.declared.schedule.Lined.{Lined}
use Rattle.topology.specs.declared.schedule.Step.{Step}
use Rattle.topology.specs.declared.schedule.Step.TheVariants as step
use Rattle.topology.specs.declared.topology.Topology.{Topology}
use Rattle.cluster_laws.specs.Progress.{Progress, after_line, closed}

-- ---- feeds

-- a feed gives itself, any other step nothing
abbrev pub fed_by : Step → List Step
fed_by step.FeedAll = step.FeedAll ∷ []
fed_by (step.Feed counts) = step.Feed counts ∷ []
fed_by _ = []

-- the feeds of a schedule, in their order
abbrev pub feeds_of : List Lined → List Step
feeds_of [] = []
feeds_of (l ∷ ls) = fed_by l.step ++ feeds_of ls

-- ---- drains

-- whether all that was fed is drained after a step: a feed makes it false, a drain true, other steps leave it
abbrev pub drained_after : Bool → Step → Bool
drained_after before step.FeedAll = false
drained_after before (step.Feed counts) = false
drained_after before step.Drain = true
drained_after before _ = before

-- the same after the steps of a schedule
abbrev pub drained_by : Bool → List Lined → Bool
drained_by before [] = before
drained_by before (l ∷ ls) = drained_by (drained_after before l.step) ls

-- whether a schedule ends drained: a drain comes after its last feed, or it has no feed
abbrev pub is_drained : List Lined → Bool
is_drained steps = drained_by true steps

-- a drain can bring all tasks to the last feed: a worker is live
abbrev pub CanDrain : Progress → Type 0
CanDrain p = p.live ≢ []

-- a worker is live at each drain of a schedule
abbrev pub DrainsHaveWorkers : Topology → Progress → List Lined → Type 0
DrainsHaveWorkers t p [] = Unit {0}
DrainsHaveWorkers t p (l ∷ ls) = (l.step ≡ step.Drain → CanDrain p) × DrainsHaveWorkers t (after_line t p l) ls

-- a schedule followed by a drain, whose line has this number
abbrev pub then_drain : List Lined → ℕ → List Lined
then_drain steps line = steps ++ record { line = line; step = step.Drain } ∷ []

-- each task is done with this feed, and each topic is closed for it
pub record IsDone (items : List Item) (feed : ℕ) (p : Progress) : Type 0 where
  pub done : (u : TaskName) → Contains (tasks_of (subs items)) u → p.done u ≡ feed
  pub closed : (topic : ℕ) → closed (topology_of items) p topic ≡ feed
