-- A task that waits with no proposal can process what a broker has, and its outcome keeps a good state.
use Rattle.std.proofs.Common.{◌≡◌, ◌∙◌, ap, ap₂, sym, subst, ℕ, ◌<◌, ◌≤◌, List, [], ◌∷◌, ◌++◌, map, length, arith}
use Rattle.std.proofs.lemmas.List.{append_cancel_left}
use Rattle.std.proofs.lemmas.List.Elements.{All-from_recursion}
use Rattle.std.specs.Prelude.{All, IsSome, Some}
use Rattle.ksql_types.specs.declared.relation.TaskName.{TaskName}
use Rattle.ksql_place.specs.declared.change.SourceRecord.{SourceRecord}
use Rattle.ksql_program.specs.Sound.{IsSound}
use Rattle.ksql_program.specs.declared.program.Item.{Item}
use Rattle.ksql_nodes.specs.declared.node.Node.{Node}
use Rattle.operator.specs.Holding.{Maps}
use Rattle.meaning_laws.proofs.Lists.{All-weaker}
use Rattle.topology.specs.Topologies.{subs, topology_of}
use Rattle.topology.specs.declared.topology.SubInput.{SubInput}
use Rattle.sending_laws.proofs.Paths.{holds-of}
use Rattle.core_state.specs.Routes.{Routes}
use Rattle.core_state.specs.Shelf.{Shelf, shelf_closed}
use Rattle.core_state.specs.State.{IsTask, State, bound, closed, lowest}
use Rattle.core_state.specs.Wired.{between, log_feed}
use Rattle.core_state.specs.declared.log.LogEntry.{LogEntry}
use Rattle.core_state.proofs.Instances.{shown-all}
use Rattle.core_state.proofs.Lists.{lowest-le}
use Rattle.storing_laws.specs.Stored.{CanBeStored}
use Rattle.op_chain.specs.Chain as chain
use Rattle.op_chain.specs.Chain.{AreStorable, HaveOwnStores, StandAlong}
use Rattle.topic_log.specs.Shelves.{part_at, topics_of}
use Rattle.topic_log.specs.declared.shelves.Shelves.{Shelves}
use Rattle.task_core.specs.Core.{inputs_at, nodes_at}
use Rattle.task_core.specs.Reading.{reads}
use Rattle.task_core.specs.Tasks.{CanRead, CanStore, TaskView, bound_of, next_entries}
use Rattle.task_core.specs.declared.task.Moved.{Moved}
use Rattle.core_laws.proofs.StageNodes.{task-stores}
use Rattle.wiring_laws.proofs.SubReads.{ReadsIn}
use Rattle.feed_laws.specs.Fitting.{Fits}
use Rattle.cluster_laws.specs.Tasks.{IsTaskIn, idle}
use Rattle.task_core.specs.Advancing.{CanAdvance}
use Rattle.cluster_laws.specs.Rounds.{HasParts, count_at}
use Rattle.cluster_laws.proofs.Inputs.{ReadsAlike, subs-alike}
use Rattle.cluster_laws.proofs.Reading.{inputs-are, part-within, reads-in, reads-same, sub-at}
use Rattle.cluster_laws.proofs.Running.{on_shelf}
use Rattle.cluster_core.proofs.Storing.{next-storable, parts, some_of}
use Rattle.cluster_core.proofs.Tasks.{AreRunning, d, good-task, in-step, is-task, means, mine, top}

-- one input or two
sides : (items : List Item) (sound : IsSound items) (nodes : List Node) (inputs : List SubInput) → ReadsIn items sound nodes inputs → (1 ≤ length inputs) × (length inputs ≤ 2)
sides items sound nodes [] is = absurd is
sides items sound nodes (a ∷ []) is = (omega arith, omega arith)
sides items sound nodes (a ∷ b ∷ []) is = (omega arith, omega arith)
sides items sound nodes (a ∷ b ∷ c ∷ more) is = absurd is

module _ (items : List Item) (order : List SourceRecord) (sound : IsSound items) (fits : Fits items order) where
  module _ (b : Shelf) (front : List Moved) (task : TaskView) (back : List Moved) (run : AreRunning items order b (front ++ idle task ∷ back)) where
    abbrev routes : Routes
    routes = (top items order sound fits).routes

    abbrev name : TaskName
    name = task.name

    abbrev pub state : State (List Maps)
    state = on_shelf b (front ++ idle task ∷ back)

    pub is : IsTask (top items order sound fits) task.name
    is = is-task items order sound fits b front (idle task) back run

    pub in-topology : IsTaskIn (topology_of items) task
    in-topology = mine items order sound fits b front (idle task) back run

    pub step : (task.done ≡ b.done task.name) × (task.maps ≡ chain.maps_after (nodes_at (topology_of items) task.name) (b.logs task.name))
    step = in-step items order sound fits b front (idle task) back run

    -- ---- how far it may go

    pub bound-same : bound_of routes b task ≡ bound (top items order sound fits) state task.name
    bound-same =
        ap (λ (is : List SubInput). lowest b.fed (shelf_closed routes b) (map (λ (i : SubInput). i.topic) is)) in-topology.inputs

    pub within : task.done ≤ bound_of routes b task
    within = rw (bound-same, step.0) (good-task items order sound fits b front (idle task) back run).done_within_inputs

    -- ---- what it reads

    pub readable : (broker : Shelves) → topics_of broker ≡ (topology_of items).topics → HasParts broker → CanRead broker task
    readable broker topics has =
        let found = sub-at items sound task.name is in
        let inputs : task.inputs ≡ found.0.inputs = in-topology.inputs ∙ inputs-are items sound task.name is in
        let count = sides items sound (nodes_at (topology_of items) task.name) (inputs_at (topology_of items) task.name) (reads-in items sound task.name is) in
        let low : task.name.part < found.0.partitions = part-within items sound task.name is in
        let alike : ReadsAlike (topology_of items).topics found.0 = holds-of (ReadsAlike (topology_of items).topics) (subs items) found.0 (subs-alike items sound) found.1 in
        record {
          some = subst (λ (is : List SubInput). 1 ≤ length is) (sym in-topology.inputs) count.0;
          two = subst (λ (is : List SubInput). length is ≤ 2) (sym in-topology.inputs) count.1;
          parts = subst (All (λ (i : SubInput). IsSome (part_at broker i.topic task.name.part))) (sym inputs)
              (All-from_recursion (λ (i : SubInput). IsSome (part_at broker i.topic task.name.part)) found.0.inputs
              (All-weaker (λ (i : SubInput). count_at (topology_of items).topics i.topic ≡ Some found.0.partitions) (λ (i : SubInput). IsSome (part_at broker i.topic task.name.part))
              (λ i at. has i.topic task.name.part found.0.partitions (ap (λ ts. count_at ts i.topic) topics ∙ at) low) found.0.inputs alike));
        }

    -- what it shows at its partition
    abbrev pub shown : ℕ → List LogEntry
    shown topic = b.shown topic task.name.part

    -- what it takes next is what the core says
    pub takes-same : next_entries routes b task ≡ (top items order sound fits).takes task.name shown task.done (bound_of routes b task)
    takes-same =
        ap₂ (λ (ns : List Node) (is : List SubInput). reads ns is (λ topic. between log_feed task.done (bound_of routes b task) (shown topic))) in-topology.nodes in-topology.inputs
        ∙ reads-same items sound (nodes_at (topology_of items) task.name) (inputs_at (topology_of items) task.name) (reads-in items sound task.name is)
        (λ topic. between log_feed task.done (bound_of routes b task) (shown topic))

    takes-next : next_entries routes b task ≡ some_of items order sound fits task.name task.done (bound_of routes b task)
    takes-next =
        let mean = d items order sound fits in
        let taken : mean.entries task.name (bound_of routes b task) ≡ mean.entries task.name task.done ++ (top items order sound fits).takes task.name shown task.done (bound_of routes b task) =
        (means items order sound fits).taken task.name is shown task.done (bound_of routes b task) within
        (λ topic at. (
          closed (top items order sound fits).routes state topic,
          rw bound-same (lowest-le state.fed (closed (top items order sound fits).routes state) ((top items order sound fits).inputs task.name) topic at),
          shown-all (top items order sound fits) mean (means items order sound fits) state run.good topic task.name.part,
        )) in
        takes-same
        ∙ append_cancel_left (mean.entries task.name task.done) ((top items order sound fits).takes task.name shown task.done (bound_of routes b task))
        (some_of items order sound fits task.name task.done (bound_of routes b task))
        (sym taken ∙ parts items order sound fits task.name 0 task.done (bound_of routes b task) (omega arith) within)

    -- ---- what it can store

    can-store : CanBeStored items (topology_of items) order → CanStore routes b task
    can-store law =
        let mean = d items order sound fits in
        let nodes : List Node = nodes_at (topology_of items) task.name in
        let logs = (good-task items order sound fits b front (idle task) back run).logs_stand in
        let stands : StandAlong nodes task.maps (mean.entries task.name task.done) =
        subst (λ (ms : List Maps). StandAlong nodes ms (mean.entries task.name task.done)) (sym step.1)
        (subst (λ (n : ℕ). StandAlong nodes (chain.maps_after nodes (b.logs task.name)) (mean.entries task.name n)) (sym step.0) logs) in
        let storable : AreStorable nodes (mean.entries task.name task.done) (next_entries routes b task) =
        subst (AreStorable nodes (mean.entries task.name task.done)) (sym takes-next)
        (next-storable items order sound fits task.name is law task.done (bound_of routes b task) within) in (
          mean.entries task.name task.done,
          subst (λ (ns : List Node). StandAlong ns task.maps (mean.entries task.name task.done)) (sym in-topology.nodes) stands,
          subst (λ (ns : List Node). AreStorable ns (mean.entries task.name task.done) (next_entries routes b task)) (sym in-topology.nodes) storable,
        )

    -- it can process what the broker has
    pub can-advance : CanBeStored items (topology_of items) order → CanAdvance routes b task
    can-advance law = record {
      within = within;
      stores = subst HaveOwnStores (sym in-topology.nodes) (task-stores items task.name);
      storable = can-store law;
    }
