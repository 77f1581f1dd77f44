-- The commit of what a task proposes keeps a good state.
use Rattle.std.proofs.Common.{◌≡◌, ◌∙◌, refl, sym, subst, List, [], ◌∷◌, ◌++◌, append_assoc}
use Rattle.std.specs.Prelude.{Contains, IfSome, Option, Some, None}
use Rattle.std.specs.List.{AllByRecursion}
use Rattle.ksql_types.specs.declared.relation.TaskName.{TaskName}
use Rattle.ksql_place.specs.declared.change.SourceRecord.{SourceRecord}
use Rattle.ksql_program.specs.Sound.{IsSound}
use Rattle.ksql_program.specs.declared.program.Item.{Item}
use Rattle.meaning_laws.proofs.Lists.{Pairwise}
use Rattle.topology.specs.Tasks.{tasks_of}
use Rattle.topology.specs.Topologies.{subs, topology_of}
use Rattle.core_state.specs.Events.{Happens, commit}
use Rattle.core_state.specs.Good.{Good}
use Rattle.core_state.specs.Shelf.{Shelf, ShelfApplies}
use Rattle.core_state.specs.declared.log.Proposal.{Proposal}
use Rattle.core_state.proofs.Committing.{commit-keeps}
use Rattle.core_state.proofs.Lifting.{committed}
use Rattle.task_core.specs.declared.task.Moved.{Moved}
use Rattle.feed_laws.specs.Fitting.{Fits}
use Rattle.cluster_laws.specs.Tasks.{IsTaskIn, idle, instance_of}
use Rattle.cluster_laws.specs.Rounds.{Settles}
use Rattle.cluster_laws.proofs.Lists.{all-instead, all-middle, map-instead}
use Rattle.cluster_laws.proofs.Names.{AreApart}
use Rattle.cluster_laws.proofs.Running.{on_shelf, parts_of}
use Rattle.cluster_core.proofs.Tasks.{AreRunning, IsNamed, IsNewest, d, here, is-task, means, mine, newest, next-here, same-else, top}

-- what holds of each task at its place holds of all
all-placed : (P : Moved → Type 0) (front : List Moved) (running : List Moved) → ((before : List Moved) (m : Moved) (back : List Moved) → front ++ running ≡ before ++ m ∷ back → P m) → AllByRecursion P running
all-placed P front [] each = tt
all-placed P front (m ∷ back) each = (each front m back refl, all-placed P (front ++ m ∷ []) back (λ before x later is. each before x later (sym (append_assoc front (m ∷ []) back) ∙ is)))

module _ (items : List Item) (order : List SourceRecord) (sound : IsSound items) (fits : Fits items order) where
  -- nothing was proposed
  stays : (b c : Shelf) (front : List Moved) (m : Moved) (back : List Moved) → m.proposal ≡ None → c ≡ b → AreRunning items order b (front ++ m ∷ back) →
      AreRunning items order c (front ++ idle m.task ∷ back)
  stays b c front m back none same run =
      let free : m ≡ idle m.task = λ i. record { task = m.task; proposal = none i } in
      subst (λ (x : Shelf). AreRunning items order x (front ++ idle m.task ∷ back)) (sym same) (subst (λ (x : Moved). AreRunning items order b (front ++ x ∷ back)) free run)

  module _ (b c : Shelf) (front : List Moved) (m : Moved) (back : List Moved) (p : Proposal) (offers : m.proposal ≡ Some p)
      (does : ShelfApplies (top items order sound fits).routes p.task p b c) (run : AreRunning items order b (front ++ m ∷ back)) where
    pub own : p.task ≡ m.task.name
    own = subst (λ (o : Option Proposal). IfSome o (λ q. q.task ≡ m.task.name)) offers (all-middle IsNamed front m back run.named)

    applies : ShelfApplies (top items order sound fits).routes m.task.name p b c
    applies = subst (λ (v : TaskName). ShelfApplies (top items order sound fits).routes v p b c) own does

    -- the commit is an event of the core
    pub commit-happens : Happens (top items order sound fits) (commit m.task.name) (on_shelf b (front ++ m ∷ back)) (on_shelf c (front ++ idle m.task ∷ back))
    commit-happens =
        let is = is-task items order sound fits b front m back run in
        committed (top items order sound fits) (means items order sound fits).writes m.task.name is (parts_of b (front ++ m ∷ back)) (parts_of c (front ++ idle m.task ∷ back))
        (same-else items order sound fits b front m back run (idle m.task) c refl)
        (instance_of m) p (here items order sound fits b front m back run) (newest items order sound fits b front m back run) offers applies
        (next-here items order sound fits b front m back run (idle m.task) refl) refl

    good : Good (top items order sound fits) (d items order sound fits) (on_shelf c (front ++ idle m.task ∷ back))
    good =
        commit-keeps (top items order sound fits) (d items order sound fits) (means items order sound fits) m.task.name (is-task items order sound fits b front m back run)
        (on_shelf b (front ++ m ∷ back)) (on_shelf c (front ++ idle m.task ∷ back)) run.good commit-happens.1

    newer : (front' : List Moved) (x : Moved) (back' : List Moved) → front ++ m ∷ back ≡ front' ++ x ∷ back' → IsNewest c x
    newer front' x back' is =
        let there : AreRunning items order b (front' ++ x ∷ back') = subst (AreRunning items order b) is run in
        newest items order sound fits b front' x back' there
        ∙ sym (applies.newest x.task.name ((means items order sound fits).writes x.task.name (is-task items order sound fits b front' x back' there)))

    applied : AreRunning items order c (front ++ idle m.task ∷ back)
    applied = record {
      apart = subst (Pairwise AreApart) (sym (map-instead (λ (x : Moved). x.task.name) front m (idle m.task) back refl)) run.apart;
      among = all-instead (λ (x : Moved). Contains (tasks_of (subs items)) x.task.name) front m (idle m.task) back (is-task items order sound fits b front m back run) run.among;
      tasks = all-instead (λ (x : Moved). IsTaskIn (topology_of items) x.task) front m (idle m.task) back (mine items order sound fits b front m back run) run.tasks;
      named = all-instead IsNamed front m (idle m.task) back tt run.named;
      newest = all-instead (IsNewest c) front m (idle m.task) back (newer front m back refl) (all-placed (IsNewest c) [] (front ++ m ∷ back) newer);
      good = good;
    }

  -- a task after its commit
  pub settled : (b c : Shelf) (front : List Moved) (m : Moved) (back : List Moved) → Settles (top items order sound fits).routes m.proposal b c → AreRunning items order b (front ++ m ∷ back) →
      AreRunning items order c (front ++ idle m.task ∷ back)
  settled b c front m back does run = by m.proposal refl does
    where
      by : (o : Option Proposal) → m.proposal ≡ o → Settles (top items order sound fits).routes o b c → AreRunning items order c (front ++ idle m.task ∷ back)
      by None is same = stays b c front m back is same run
      by (Some p) is does = applied b c front m back p is does run
