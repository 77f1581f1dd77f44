-- The outcome of a task that processed what the broker has keeps a good state.
use Rattle.std.proofs.Common.{◌≡◌, ◌∙◌, ap, ap₂, refl, sym, subst, ℕ, ◌<◌, ◌≤◌, List, ◌∷◌, ◌++◌, false, true≢false, eq-eqb, arith}
use Rattle.std.specs.Prelude.{Contains, IfNone, IfSome, Option, Some, None, ◌==◌, is_none}
use Rattle.ksql_place.specs.declared.change.SourceRecord.{SourceRecord}
use Rattle.ksql_program.specs.Sound.{IsSound}
use Rattle.ksql_program.specs.declared.program.Item.{Item}
use Rattle.ksql_nodes.specs.declared.node.Node.{Node}
use Rattle.ksql_nodes.specs.Entries.{Entry}
use Rattle.meaning_laws.proofs.Lists.{Pairwise}
use Rattle.topology.specs.Tasks.{tasks_of}
use Rattle.topology.specs.Topologies.{subs, topology_of}
use Rattle.core_state.specs.Events.{Happens, Runs, advance}
use Rattle.core_state.specs.Good.{Good}
use Rattle.core_state.specs.Routes.{Routes}
use Rattle.core_state.specs.Shelf.{Shelf}
use Rattle.core_state.specs.declared.log.Proposal.{Proposal}
use Rattle.core_state.proofs.Instances.{advance-keeps}
use Rattle.core_state.proofs.Lifting.{advanced}
use Rattle.op_chain.specs.Chain as chain
use Rattle.task_core.specs.Core.{inputs_at, nodes_at}
use Rattle.task_core.specs.Tasks.{IsProposedBy, IsSameTask, TaskView, bound_of, next_entries}
use Rattle.task_core.specs.declared.task.Moved.{Moved}
use Rattle.feed_laws.specs.Fitting.{Fits}
use Rattle.cluster_laws.specs.Tasks.{IsTaskIn, idle, instance_in, instance_of}
use Rattle.task_core.specs.Advancing.{IsAdvanced}
use Rattle.cluster_core.proofs.Advancing.{bound-same, in-topology, is, shown, takes-same, within}
use Rattle.cluster_laws.proofs.Lists.{all-instead, map-instead}
use Rattle.cluster_laws.proofs.Names.{AreApart}
use Rattle.cluster_laws.proofs.Running.{on_shelf, parts_of}
use Rattle.cluster_core.proofs.Tasks.{AreRunning, IsNamed, IsNewest, d, here, means, newest, next-here, same-else, top}

module _ (items : List Item) (order : List SourceRecord) (sound : IsSound items) (fits : Fits items order)
    (b : Shelf) (front : List Moved) (task : TaskView) (back : List Moved) (run : AreRunning items order b (front ++ idle task ∷ back)) (next : Moved) where
  abbrev routes : Routes
  routes = (top items order sound fits).routes

  module _ (p : Proposal) (offers : next.proposal ≡ Some p) (same : IsSameTask task next.task) (done : next.task.done ≡ bound_of routes b task)
      (none : false ≡ (bound_of routes b task == task.done)) (proposed : IsProposedBy routes b task next.task p) where
    rises : p.from < p.to
    rises =
        let up : task.done ≤ bound_of routes b task = within items order sound fits b front task back run in
        let apart : bound_of routes b task ≡ task.done → ⊥ = λ equal. true≢false (sym (eq-eqb (bound_of routes b task) task.done equal) ∙ sym none) in
        let from : p.from ≡ task.done = proposed.from in
        let to : p.to ≡ bound_of routes b task = proposed.to in
        omega (arith, up, apart, from, to)

    runs : Runs (top items order sound fits) task.name task.maps
        ((top items order sound fits).takes task.name (shown items order sound fits b front task back run) p.from p.to) p.outputs p.entries next.task.maps
    runs =
        let more : next_entries routes b task ≡ (top items order sound fits).takes task.name (shown items order sound fits b front task back run) p.from p.to =
        takes-same items order sound fits b front task back run
        ∙ ap₂ (λ (x y : ℕ). (top items order sound fits).takes task.name (shown items order sound fits b front task back run) x y) (sym proposed.from) (sym proposed.to) in
        let ran : chain.Runs (nodes_at (topology_of items) task.name) task.maps
        ((top items order sound fits).takes task.name (shown items order sound fits b front task back run) p.from p.to) p.outputs p.entries next.task.maps =
        subst (λ (es : List Entry). chain.Runs (nodes_at (topology_of items) task.name) task.maps es p.outputs p.entries next.task.maps) more
        (subst (λ (ns : List Node). chain.Runs ns task.maps (next_entries routes b task) p.outputs p.entries next.task.maps) (in-topology items order sound fits b front task back run).nodes proposed.runs) in
        record { stands = ran.stands; replays = ran.replays; loads = ran.loads }

    made : instance_in (front ++ next ∷ back) task.name ≡ Some (record { generation = task.generation; done = p.to; stores = next.task.maps; proposal = Some p })
    made =
        let done_is : next.task.done ≡ p.to = done ∙ sym proposed.to in
        next-here items order sound fits b front (idle task) back run next same.name
        ∙ (λ i. Some (record { generation = same.generation i; done = done_is i; stores = next.task.maps; proposal = offers i }))

    event : Happens (top items order sound fits) (advance task.name) (on_shelf b (front ++ idle task ∷ back)) (on_shelf b (front ++ next ∷ back))
    event =
        advanced (top items order sound fits) (means items order sound fits).writes task.name (is items order sound fits b front task back run)
        (parts_of b (front ++ idle task ∷ back)) (parts_of b (front ++ next ∷ back))
        (same-else items order sound fits b front (idle task) back run next b same.name)
        (instance_of (idle task)) next.task.maps p (here items order sound fits b front (idle task) back run)
        (newest items order sound fits b front (idle task) back run) refl proposed.generation proposed.from rises
        (proposed.to ∙ bound-same items order sound fits b front task back run) runs refl made refl

    good : Good (top items order sound fits) (d items order sound fits) (on_shelf b (front ++ next ∷ back))
    good =
        advance-keeps (top items order sound fits) (d items order sound fits) (means items order sound fits) task.name
        (is items order sound fits b front task back run)
        (on_shelf b (front ++ idle task ∷ back)) (on_shelf b (front ++ next ∷ back)) run.good event.1

  -- the state stays good
  module _ (has : IsAdvanced routes b task next) where
    -- a task that proposes nothing waits as before
    pub still-waits : next.proposal ≡ None → idle task ≡ next
    still-waits none =
        let still : next.task ≡ task = subst (λ (o : Option Proposal). IfNone o (next.task ≡ task)) none has.still in
        λ i. record { task = sym still i; proposal = sym none i }

    -- and that a task processed what the broker has, and proposes this, is an event of the core
    pub advance-happens : (p : Proposal) → next.proposal ≡ Some p →
        Happens (top items order sound fits) (advance task.name) (on_shelf b (front ++ idle task ∷ back)) (on_shelf b (front ++ next ∷ back))
    advance-happens p offers =
        event p offers has.same has.done (ap is_none (sym offers) ∙ has.none)
        (subst (λ (o : Option Proposal). IfSome o (IsProposedBy routes b task next.task)) offers has.proposal)

    good-next : Good (top items order sound fits) (d items order sound fits) (on_shelf b (front ++ next ∷ back))
    good-next = by next.proposal refl has.none has.still has.proposal
      where
        by : (o : Option Proposal) → next.proposal ≡ o → is_none o ≡ (bound_of routes b task == task.done) → IfNone o (next.task ≡ task) → IfSome o (IsProposedBy routes b task next.task) →
            Good (top items order sound fits) (d items order sound fits) (on_shelf b (front ++ next ∷ back))
        by None is none still proposal =
            let same : idle task ≡ next = λ i. record { task = sym still i; proposal = sym is i } in
            subst (λ (m : Moved). Good (top items order sound fits) (d items order sound fits) (on_shelf b (front ++ m ∷ back))) same run.good
        by (Some p) is none still proposal = good p is has.same has.done none proposal

    named-next : IsNamed next
    named-next = by next.proposal has.proposal
      where
        by : (o : Option Proposal) → IfSome o (IsProposedBy routes b task next.task) → IfSome o (λ p. p.task ≡ next.task.name)
        by None proposal = tt
        by (Some p) proposal = proposal.task ∙ sym has.same.name

    in-next : IsTaskIn (topology_of items) next.task
    in-next =
        let mine = in-topology items order sound fits b front task back run in
        record {
          nodes = has.same.nodes ∙ mine.nodes ∙ ap (nodes_at (topology_of items)) (sym has.same.name);
          inputs = has.same.inputs ∙ mine.inputs ∙ ap (inputs_at (topology_of items)) (sym has.same.name);
        }

    -- the task in its place, with what it proposes
    pub advanced-task : AreRunning items order b (front ++ next ∷ back)
    advanced-task = record {
      apart = subst (Pairwise AreApart) (sym (map-instead (λ (x : Moved). x.task.name) front (idle task) next back has.same.name)) run.apart;
      among = all-instead (λ (x : Moved). Contains (tasks_of (subs items)) x.task.name) front (idle task) next back
          (subst (Contains (tasks_of (subs items))) (sym has.same.name) (is items order sound fits b front task back run)) run.among;
      tasks = all-instead (λ (x : Moved). IsTaskIn (topology_of items) x.task) front (idle task) next back in-next run.tasks;
      named = all-instead IsNamed front (idle task) next back named-next run.named;
      newest = all-instead (IsNewest b) front (idle task) next back
          (has.same.generation ∙ newest items order sound fits b front (idle task) back run ∙ ap b.newest (sym has.same.name)) run.newest;
      good = good-next;
    }
