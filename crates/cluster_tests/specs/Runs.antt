-- A script that ran on a cluster.
use Rattle.std.specs.Prelude.{◌≡◌, ◌+◌, ℕ, List, [], ◌∷◌, map, string_bytes}
use Rattle.ksql_types.specs.declared.relation.Relation.{Relation}
use Rattle.ksql_types.specs.declared.relation.TaskName.{TaskName}
use Rattle.ksql_program.specs.declared.program.Item.{Item}
use Rattle.ksql_program.specs.Program.{relations}
use Rattle.ksql_script.specs.Script.{IsScriptOf}
use Rattle.topology.specs.Tasks.{tasks_of}
use Rattle.topology.specs.Topologies.{subs, topology_of}
use Rattle.topology.specs.declared.schedule.Lined.{Lined}
use Rattle.topology.specs.declared.schedule.Step.{Step}
use Rattle.topic_files.specs.declared.topic.TopicLines.{TopicLines}
use Rattle.core_state.specs.Shelf.{shelf_closed}
use Rattle.topic_log.specs.Shelves.{routes_in, shelf_of}
use Rattle.topic_log.specs.declared.shelves.Shelves.{Shelves}
use Rattle.run_text.specs.Shown.{shown_report}
use Rattle.cluster_core.specs.Cluster.{HasCome}
use Rattle.cluster_laws.specs.Progress.{after_steps, opening}
use Rattle.cluster_tests.specs.declared.running.Ran.{Ran}
use Rattle.cluster_tests.specs.declared.standing.Standing.{Standing}

-- steps with their lines, the first of which is this one
abbrev pub numbered : ℕ → List Step → List Lined
numbered line [] = []
numbered line (step ∷ steps) = record { line = line; step = step } ∷ numbered (line + 1) steps

-- the feed up to which a relation's topic is closed
abbrev pub closed_at : Shelves → Relation → ℕ
closed_at broker r = shelf_closed (routes_in broker) (shelf_of broker) r.number

-- the state of a task
abbrev pub standing_at : Shelves → TaskName → Standing
standing_at broker u = record { task = u; done = (shelf_of broker).done u; newest = (shelf_of broker).newest u }

-- what is told of a cluster is what its broker has
pub record IsTold (items : List Item) (ran : Ran) : Type 0 where
  pub closed : ran.closed.items ≡ map (closed_at ran.cluster.broker) (relations items)
  pub tasks : ran.tasks.items ≡ map (standing_at ran.cluster.broker) (tasks_of (subs items))
  pub report : string_bytes ran.report ≡ shown_report items ran.cluster.broker []

-- A script is accepted as these items, and their cluster, which had this many live workers at first and these topic
-- files, took these steps.
pub record HasRun (script : List ℕ) (workers : ℕ) (steps : List Step) (ran : Ran) : Type 0 where
  pub items : List Item
  pub files : List TopicLines
  pub accepted : IsScriptOf script items
  pub come : HasCome items (after_steps (topology_of items) (opening (topology_of items) items files workers) (numbered 1 steps)) ran.cluster
  pub told : IsTold items ran
