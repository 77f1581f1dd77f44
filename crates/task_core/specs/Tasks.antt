-- Tasks, and what they propose.
use Rattle.std.specs.Prelude.{◌≡◌, ℕ, ◌≤◌, List, map, All, IsSome, length}
use Rattle.ksql_types.specs.declared.relation.TaskName.{TaskName}
use Rattle.ksql_nodes.specs.declared.node.Node.{Node}
use Rattle.ksql_nodes.specs.Entries.{Entry}
use Rattle.operator.specs.Holding.{Maps}
use Rattle.topology.specs.declared.topology.SubInput.{SubInput}
use Rattle.core_state.specs.Routes.{Routes}
use Rattle.core_state.specs.Shelf.{Shelf, shelf_closed}
use Rattle.core_state.specs.State.{lowest}
use Rattle.core_state.specs.declared.log.LogEntry.{LogEntry}
use Rattle.core_state.specs.declared.log.Proposal.{Proposal}
use Rattle.topic_log.specs.Shelves.{part_at}
use Rattle.topic_log.specs.declared.shelves.Shelves.{Shelves}
use Rattle.op_chain.specs.Chain.{AreStorable, Runs, StandAlong}
use Rattle.task_core.specs.Reading.{takes}

-- a task as contracts see it: its generation, the last feed that it processed, what it reads, its nodes, and the
-- content of their stores
pub record TaskView : Type 0 where
  pub name : TaskName
  pub generation : ℕ
  pub done : ℕ
  pub inputs : List SubInput
  pub nodes : List Node
  pub maps : List Maps

-- ---- what is shown to a task

-- what a broker shows of the topics at a task's partition
abbrev pub shown_to : Shelf → TaskView → ℕ → List LogEntry
shown_to s t topic = s.shown topic t.name.part

-- the feed up to which all inputs of a task are closed
abbrev pub bound_of : Routes → Shelf → TaskView → ℕ
bound_of r s t = lowest s.fed (shelf_closed r s) (map (λ i. i.topic) t.inputs)

-- the entries that a task takes next
abbrev pub next_entries : Routes → Shelf → TaskView → List Entry
next_entries r s t = takes t.nodes t.inputs (shown_to s t) t.done (bound_of r s t)

-- a task has one input or two, and the broker has them at the task's partition
pub record CanRead (b : Shelves) (t : TaskView) : Type 0 where
  pub some : 1 ≤ length t.inputs
  pub two : length t.inputs ≤ 2
  pub parts : All (λ i. IsSome (part_at b i.topic t.name.part)) t.inputs

-- a task's stores stand for some entries, after which its nodes can store what comes of these
abbrev pub CanTake : TaskView → List Entry → Type 0
CanTake t es = (earlier : List Entry) × StandAlong t.nodes t.maps earlier × AreStorable t.nodes earlier es

-- the same for the entries that it takes next
abbrev pub CanStore : Routes → Shelf → TaskView → Type 0
CanStore r s t = CanTake t (next_entries r s t)

-- ---- steps

-- the same task, perhaps further on
pub record IsSameTask (t next : TaskView) : Type 0 where
  pub name : next.name ≡ t.name
  pub generation : next.generation ≡ t.generation
  pub inputs : next.inputs ≡ t.inputs
  pub nodes : next.nodes ≡ t.nodes

-- what a task proposes after processing some entries, up to a feed
pub record IsProposedOver (bound : ℕ) (es : List Entry) (t next : TaskView) (p : Proposal) : Type 0 where
  pub task : p.task ≡ t.name
  pub generation : p.generation ≡ t.generation
  pub from : p.from ≡ t.done
  pub to : p.to ≡ bound
  pub runs : Runs t.nodes t.maps es p.outputs p.entries next.maps

-- the same for its next entries
abbrev pub IsProposedBy : Routes → Shelf → TaskView → TaskView → Proposal → Type 0
IsProposedBy r s t next p = IsProposedOver (bound_of r s t) (next_entries r s t) t next p
