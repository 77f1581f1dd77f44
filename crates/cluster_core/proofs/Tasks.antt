-- Tasks that run on a broker, whose state is good: what each of them may do, and that the state stays good.
use Rattle.std.proofs.Common.{◌≡◌, ◌∙◌, ap, refl, sym, subst, ◌<◌, ◌≤◌, List, [], ◌∷◌, ◌++◌, map, arith}
use Rattle.std.specs.Prelude.{All, Contains, IfSome, Option, Some}
use Rattle.std.specs.List.{AllByRecursion}
use Rattle.ksql_types.specs.declared.relation.TaskName.{TaskName}
use Rattle.ksql_place.specs.Ascending.{Rises}
use Rattle.ksql_place.specs.Routing.{change_cmp}
use Rattle.ksql_place.specs.declared.change.SourceRecord.{SourceRecord}
use Rattle.ksql_program.specs.Sound.{IsSound}
use Rattle.ksql_program.specs.declared.program.Item.{Item}
use Rattle.ksql_nodes.specs.Entries.{Entry}
use Rattle.operator.specs.Holding.{Maps}
use Rattle.meaning_laws.proofs.Lists.{Pairwise}
use Rattle.topology.specs.Tasks.{tasks_of}
use Rattle.topology.specs.Topologies.{subs, topology_of}
use Rattle.topology.specs.declared.topology.Topology.{Topology}
use Rattle.core_state.specs.Good.{Good, GoodTask, InStep, IsDue}
use Rattle.core_state.specs.Meaning.{Meaning, Means}
use Rattle.core_state.specs.Routes.{IsWriter}
use Rattle.core_state.specs.Shelf.{SameElse, Shelf}
use Rattle.core_state.specs.State as core
use Rattle.core_state.specs.State.{IsTask, State, bound, feed_of}
use Rattle.core_state.specs.declared.log.Proposal.{Proposal}
use Rattle.storing_laws.specs.Stored.{ResultsRise}
use Rattle.task_core.specs.Core.{core_of}
use Rattle.task_core.specs.declared.task.Moved.{Moved}
use Rattle.core_laws.specs.Core.{meaning_in_core}
use Rattle.core_laws.proofs.Fitting.{core-meaning}
use Rattle.feed_laws.specs.Fitting.{Fits}
use Rattle.cluster_laws.specs.Tasks.{IsTaskIn, instance_in, instance_of}
use Rattle.cluster_laws.specs.Rounds.{CanCommit}
use Rattle.cluster_laws.proofs.Lists.{all-mapped, all-middle}
use Rattle.cluster_laws.proofs.Names.{AreApart}
use Rattle.cluster_laws.proofs.Running.{instance-else, instance-here, on_shelf, parts_of}
use Rattle.cluster_core.proofs.Storing.{results-rising}

-- the proposal of a task has its name
abbrev pub IsNamed : Moved → Type 0
IsNamed m = IfSome m.proposal (λ p. p.task ≡ m.task.name)

-- a task is of its newest generation
abbrev pub IsNewest : Shelf → Moved → Type 0
IsNewest b m = m.task.generation ≡ b.newest m.task.name

-- tasks of a program that run on a broker: no two are of one name, each is of the newest generation, and the state is
-- good
pub record AreRunning (items : List Item) (order : List SourceRecord) (b : Shelf) (running : List Moved) : Type 0 where
  pub apart : Pairwise AreApart (map (λ (m : Moved). m.task.name) running)
  pub among : AllByRecursion (λ (m : Moved). Contains (tasks_of (subs items)) m.task.name) running
  pub tasks : AllByRecursion (λ (m : Moved). IsTaskIn (topology_of items) m.task) running
  pub named : AllByRecursion IsNamed running
  pub newest : AllByRecursion (IsNewest b) running
  pub good : Good (core_of (topology_of items)) (meaning_in_core items order) (on_shelf b running)

-- no earlier task has the name of one
front-apart : (front : List Moved) (m : Moved) (back : List Moved) → Pairwise AreApart (map (λ (x : Moved). x.task.name) (front ++ m ∷ back)) →
    AllByRecursion (λ (x : Moved). x.task.name ≡ m.task.name → ⊥) front
front-apart [] m back pairs = tt
front-apart (x ∷ front) m back pairs = (
  all-middle (λ (y : Moved). x.task.name ≡ y.task.name → ⊥) front m back (all-mapped (AreApart x.task.name) (λ (y : Moved). y.task.name) (front ++ m ∷ back) pairs.0),
  front-apart front m back pairs.1,
)

module _ (items : List Item) (order : List SourceRecord) (sound : IsSound items) (fits : Fits items order) where
  abbrev pub t : Topology
  t = topology_of items

  abbrev pub top : core.Topology Entry (List Maps)
  top = core_of t

  abbrev pub d : Meaning Entry
  d = meaning_in_core items order

  pub means : Means top d
  means = (core-meaning items sound).means order fits.counted

  -- ---- one of the tasks

  module _ (b : Shelf) (front : List Moved) (m : Moved) (back : List Moved) (run : AreRunning items order b (front ++ m ∷ back)) where
    abbrev pub s : State (List Maps)
    s = on_shelf b (front ++ m ∷ back)

    pub is-task : IsTask top m.task.name
    is-task = all-middle (λ (x : Moved). Contains (tasks_of (subs items)) x.task.name) front m back run.among

    pub apart : AllByRecursion (λ (x : Moved). x.task.name ≡ m.task.name → ⊥) front
    apart = front-apart front m back run.apart

    pub here : instance_in (front ++ m ∷ back) m.task.name ≡ Some (instance_of m)
    here = instance-here front m back apart

    pub mine : IsTaskIn t m.task
    mine = all-middle (λ (x : Moved). IsTaskIn t x.task) front m back run.tasks

    pub newest : m.task.generation ≡ b.newest m.task.name
    newest = all-middle (IsNewest b) front m back run.newest

    pub good-task : GoodTask top d m.task.name (bound top s m.task.name) (s.tasks m.task.name)
    good-task = run.good.good_tasks m.task.name is-task

    pub in-step : InStep top m.task.name (s.tasks m.task.name) (instance_of m) m.proposal
    in-step = good-task.one_instance (instance_of m) here newest

    -- another outcome of the same task
    pub same-else : (next : Moved) (c : Shelf) → next.task.name ≡ m.task.name → SameElse top.routes m.task.name (parts_of b (front ++ m ∷ back)) (parts_of c (front ++ next ∷ back))
    same-else next c same = record { instance = λ v writes other. instance-else front m next back v same other; held = λ v writes other. refl }

    pub next-here : (next : Moved) → next.task.name ≡ m.task.name → instance_in (front ++ next ∷ back) m.task.name ≡ Some (instance_of next)
    next-here next same =
        subst (λ (v : TaskName). instance_in (front ++ next ∷ back) v ≡ Some (instance_of next)) same
        (instance-here front next back (subst (λ (v : TaskName). AllByRecursion (λ (x : Moved). x.task.name ≡ v → ⊥) front) (sym same) apart))

    -- ---- a proposal

    module _ (p : Proposal) (offers : m.proposal ≡ Some p) (rises : ResultsRise items t order) where
      pub stepped : InStep top m.task.name (s.tasks m.task.name) (instance_of m) (Some p)
      stepped = subst (InStep top m.task.name (s.tasks m.task.name) (instance_of m)) offers in-step

      pub due : IsDue top d m.task.name (bound top s m.task.name) (s.tasks m.task.name) p
      due = good-task.proposal_is_due p (instance_of m, here, offers) (stepped.0 ∙ newest)

      pub name : p.task ≡ m.task.name
      name = subst (λ (o : Option Proposal). IfSome o (λ q. q.task ≡ m.task.name)) offers (all-middle IsNamed front m back run.named)

      -- it can be committed
      pub can-commit : CanCommit top.routes b p
      can-commit = record {
        writer = subst (IsWriter top.routes) (sym name) (means.writes m.task.name is-task);
        proposal = record {
          rises = due.rises;
          ascends = subst (Rises change_cmp) (sym due.outputs) (results-rising items order sound fits m.task.name is-task rises p.from p.to (omega (arith, due.rises)));
          within = subst (All (λ x. (p.from < feed_of x) × (feed_of x ≤ p.to))) (sym due.outputs) (means.within m.task.name is-task p.from p.to);
        };
        newest = stepped.0 ∙ newest ∙ sym (ap b.newest name);
        begins = ap b.done name ∙ sym due.begins;
      }
