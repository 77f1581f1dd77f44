-- A topology as the core sees it: its tasks, what they read and write, and what they make of entries.
use Rattle.std.specs.Prelude.{ℕ, suc, ◌==◌, if◌then◌else◌, List, [], ◌∷◌, map, option_map, slice_get, unwrap_or}
use Rattle.ksql_types.specs.declared.relation.TaskName.{TaskName}
use Rattle.ksql_nodes.specs.declared.node.Node.{Node}
use Rattle.ksql_nodes.specs.Entries.{Entry}
use Rattle.operator.specs.Holding.{Maps}
use Rattle.query_meaning.specs.Queries.{entry_cmp}
use Rattle.topology.specs.Tasks.{tasks_of}
use Rattle.topology.specs.declared.topology.SubInput.{SubInput}
use Rattle.topology.specs.declared.topology.Topology.{Topology}
use Rattle.core_state.specs.declared.log.LogEntry.{LogEntry}
use Rattle.core_state.specs.Routes.{routes_of}
use Rattle.core_state.specs.State as core
use Rattle.core_state.specs.Wired.{Wiring, wired}
use Rattle.op_chain.specs.Chain.{MayLoad, StandAlong, given, maps_after}
use Rattle.task_core.specs.Reading.{relation_of, taken}

-- the nodes and the inputs of a task's sub-topology
abbrev pub nodes_at : Topology → TaskName → List Node
nodes_at t u = unwrap_or (option_map (λ s. s.nodes) (slice_get t.subs u.sub)) []

abbrev pub inputs_at : Topology → TaskName → List SubInput
inputs_at t u = unwrap_or (option_map (λ s. s.inputs) (slice_get t.subs u.sub)) []

-- what a task takes of an entry of a topic, which is the input of the first side that reads it
abbrev pub taken_of : List Node → ℕ → List SubInput → ℕ → LogEntry → List Entry
taken_of nodes side [] topic x = []
taken_of nodes side (i ∷ is) topic x = if i.topic == topic then taken nodes side i x else taken_of nodes (suc side) is topic x

abbrev pub wiring_of : Topology → Wiring Entry
wiring_of t = record {
  names = tasks_of t.subs;
  inputs = λ u. map (λ i. i.topic) (inputs_at t u);
  routes = routes_of t.topics;
  entry_cmp = λ u. entry_cmp (relation_of (inputs_at t u) 0) (relation_of (inputs_at t u) 1);
  feed = λ e. e.change.place.stamp.feed;
  entry = λ u topic x. taken_of (nodes_at t u) 0 (inputs_at t u) topic x;
  gives = λ u. given (nodes_at t u);
}

abbrev pub core_of : Topology → core.Topology Entry (List Maps)
core_of t = wired (wiring_of t) (λ u. StandAlong (nodes_at t u)) (λ u. maps_after (nodes_at t u)) (λ u. MayLoad (nodes_at t u))
