-- A cluster that has come so far: the tasks that run on its broker, and its numbers.
use Rattle.std.proofs.Common.{◌≡◌, ◌∙◌, ap, refl, sym, subst, ℕ, List, [], ◌∷◌, map, inl, inr}
use Rattle.std.proofs.lemmas.List.Elements.{All-contains_itself, All-from_recursion, recursion_from_All}
use Rattle.std.specs.Prelude.{All, Contains}
use Rattle.std.specs.List.{AllByRecursion, AllZip}
use Rattle.std.specs.List.Sorted.{IsStrictlyIncreasing}
use Rattle.ksql_types.specs.declared.relation.TaskName.{TaskName}
use Rattle.ksql_program.specs.declared.program.Item.{Item}
use Rattle.meaning_laws.proofs.Lists.{All-map, Pairwise}
use Rattle.topology.specs.Tasks.{chain_of, tasks_of}
use Rattle.topology.specs.Topologies.{subs, topology_of}
use Rattle.topology.specs.declared.topology.Topology.{Topology}
use Rattle.sending_laws.proofs.Paths.{holds-of}
use Rattle.core_state.specs.Good.{Good}
use Rattle.core_state.specs.declared.journal.JournalEntry.{JournalEntry}
use Rattle.short_laws.specs.Short.{HoldTexts}
use Rattle.topic_log.specs.Shelves.{shelf_of, topics_of}
use Rattle.topic_log.specs.declared.shelves.Shelves.{Shelves}
use Rattle.task_core.specs.Core.{core_of}
use Rattle.task_core.specs.Tasks.{TaskView}
use Rattle.task_core.specs.declared.task.Moved.{Moved}
use Rattle.core_laws.specs.Core.{meaning_in_core}
use Rattle.assignor.specs.declared.assignment.Owned.{Owned}
use Rattle.cluster_core.specs.Cluster.{HasComeWith, IsKept, IsProgress}
use Rattle.cluster_laws.specs.Tasks.{IsOwned, IsTaskIn, core_state_of, idle}
use Rattle.cluster_laws.specs.Moves.{owned_of}
use Rattle.cluster_laws.specs.Progress.{Progress}
use Rattle.cluster_core.specs.declared.cluster.Cluster.{Cluster}
use Rattle.cluster_laws.specs.declared.seats.Seat.{Seat}
use Rattle.cluster_core.specs.declared.sources.Source.{Source as Kept}
use Rattle.cluster_laws.proofs.Lists.{all-mapped}
use Rattle.cluster_laws.proofs.Names.{AreApart}
use Rattle.cluster_laws.proofs.Owners.{owned-apart}
use Rattle.cluster_core.proofs.Tasks.{AreRunning, IsNamed}

-- ---- names

names-of-tasks : (ms : List Moved) → map (λ (m : Moved). m.task.name) ms ≡ map (λ (t : TaskView). t.name) (map (λ (m : Moved). m.task) ms)
names-of-tasks [] = refl
names-of-tasks (m ∷ ms) = ap (λ us. m.task.name ∷ us) (names-of-tasks ms)

names-of-seats : (ss : List Seat) → map (λ (t : TaskView). t.name) (map (λ (s : Seat). s.task) ss) ≡ map (λ (o : Owned). o.task) (map owned_of ss)
names-of-seats [] = refl
names-of-seats (s ∷ ss) = ap (λ us. s.task.name ∷ us) (names-of-seats ss)

pub idle-tasks : (ss : List Seat) → map (λ (m : Moved). m.task) (map (λ (s : Seat). idle s.task) ss) ≡ map (λ (s : Seat). s.task) ss
idle-tasks [] = refl
idle-tasks (s ∷ ss) = ap (λ ts. s.task ∷ ts) (idle-tasks ss)

-- ---- owners

module _ (items : List Item) where
  -- tasks that have owners are tasks of the program
  pub owned-among : (owners : List Owned) → IsOwned (topology_of items) owners → AllByRecursion (Contains (tasks_of (subs items))) (map (λ (o : Owned). o.task) owners)
  owned-among owners (inl none) = subst (λ (os : List Owned). AllByRecursion (Contains (tasks_of (subs items))) (map (λ (o : Owned). o.task) os)) (sym none) tt
  owned-among owners (inr whole) =
      subst (AllByRecursion (Contains (tasks_of (subs items)))) (sym whole)
      (recursion_from_All (Contains (tasks_of (subs items))) (tasks_of (subs items)) (All-contains_itself (tasks_of (subs items))))

-- ---- a cluster

module _ (items : List Item) (p : Progress) (ms : List Moved) (c : Cluster) where
  module _ (h : HasComeWith items p ms c) where
    pub names-come : map (λ (m : Moved). m.task.name) ms ≡ map (λ (o : Owned). o.task) p.owners
    names-come =
        names-of-tasks ms ∙ ap (map (λ (t : TaskView). t.name)) h.running ∙ names-of-seats c.seats.items ∙ ap (map (λ (o : Owned). o.task)) h.owners

    of-tasks : (P : TaskView → Type 0) → AllByRecursion (λ (s : Seat). P s.task) c.seats.items → AllByRecursion (λ (m : Moved). P m.task) ms
    of-tasks P all = all-mapped P (λ (m : Moved). m.task) ms (subst (AllByRecursion P) (sym h.running) (All-map P (λ (s : Seat). s.task) c.seats.items all))

    -- the tasks of a cluster run
    pub running-of : AreRunning items p.order (shelf_of c.broker) ms
    running-of = record {
      apart = subst (Pairwise AreApart) (sym names-come) (owned-apart items p.owners h.progress.owned);
      among = all-mapped (Contains (tasks_of (subs items))) (λ (m : Moved). m.task.name) ms
          (subst (AllByRecursion (Contains (tasks_of (subs items)))) (sym names-come) (owned-among items p.owners h.progress.owned));
      tasks = of-tasks (IsTaskIn (topology_of items))
          (subst (λ (t : Topology). AllByRecursion (λ (s : Seat). IsTaskIn t s.task) c.seats.items) h.topology (recursion_from_All (λ (s : Seat). IsTaskIn c.topology s.task) c.seats.items h.tasks));
      named = recursion_from_All IsNamed ms h.named;
      newest = of-tasks (λ (t : TaskView). t.generation ≡ (shelf_of c.broker).newest t.name)
          (recursion_from_All (λ (s : Seat). s.task.generation ≡ (shelf_of c.broker).newest s.task.name) c.seats.items h.instances);
      good = subst (λ (t : Topology). Good (core_of t) (meaning_in_core items p.order) (core_state_of c.broker ms)) h.topology h.good;
    }

    at-tasks : (P : TaskName → Type 0) → All P (tasks_of c.topology.subs) → (u : TaskName) → Contains (tasks_of (subs items)) u → P u
    at-tasks P all u is =
        holds-of P (tasks_of (subs items)) u (subst (λ (t : Topology). AllByRecursion P (tasks_of t.subs)) h.topology (recursion_from_All P (tasks_of c.topology.subs) all)) is

    -- the broker has of each task what the numbers say
    pub done-come : (u : TaskName) → Contains (tasks_of (subs items)) u → (shelf_of c.broker).done u ≡ p.done u
    done-come = at-tasks (λ u. (shelf_of c.broker).done u ≡ p.done u) h.done

    pub newest-come : (u : TaskName) → Contains (tasks_of (subs items)) u → (shelf_of c.broker).newest u ≡ p.newest u
    newest-come = at-tasks (λ u. (shelf_of c.broker).newest u ≡ p.newest u) h.newest

    pub topics-come : topics_of c.broker ≡ (topology_of items).topics
    topics-come = h.topics ∙ ap (λ (t : Topology). t.topics) h.topology

  to-tasks : (P : TaskName → Type 0) → ((u : TaskName) → Contains (tasks_of (subs items)) u → P u) → All P (tasks_of (subs items))
  to-tasks P each =
      All-from_recursion P (tasks_of (subs items))
      (own (tasks_of (subs items)) (recursion_from_All (Contains (tasks_of (subs items))) (tasks_of (subs items)) (All-contains_itself (tasks_of (subs items)))))
    where
      own : (us : List TaskName) → AllByRecursion (Contains (tasks_of (subs items))) us → AllByRecursion P us
      own [] all = tt
      own (u ∷ us) all = (each u all.0, own us all.1)

  -- what makes up a cluster that has come so far
  pub record Comes : Type 0 where
    pub texts : HoldTexts items
    pub progress : IsProgress items p
    pub topology : c.topology ≡ topology_of items
    pub chain : c.chain ≡ chain_of c.topology.subs
    pub topics : topics_of c.broker ≡ c.topology.topics
    pub live : c.live.items ≡ p.live
    pub owners : map owned_of c.seats.items ≡ p.owners
    pub running : map (λ (m : Moved). m.task) ms ≡ map (λ (s : Seat). s.task) c.seats.items
    pub run : AreRunning items p.order (shelf_of c.broker) ms
    pub fed : c.broker.fed ≡ p.fed
    pub newest : (u : TaskName) → Contains (tasks_of (subs items)) u → (shelf_of c.broker).newest u ≡ p.newest u
    pub done : (u : TaskName) → Contains (tasks_of (subs items)) u → (shelf_of c.broker).done u ≡ p.done u
    pub rounds : c.rounds ≡ p.rounds
    pub journal : c.journal.items ≡ p.journal
    pub sources : AllZip IsKept c.sources.items p.sources

  pub come-of : Comes → HasComeWith items p ms c
  come-of is = record {
    texts = is.texts;
    progress = is.progress;
    topology = is.topology;
    chain = is.chain;
    topics = is.topics;
    live = is.live;
    owners = is.owners;
    running = is.running;
    named = All-from_recursion IsNamed ms is.run.named;
    tasks = All-from_recursion (λ (s : Seat). IsTaskIn c.topology s.task) c.seats.items
        (subst (λ (t : Topology). AllByRecursion (λ (s : Seat). IsTaskIn t s.task) c.seats.items) (sym is.topology) (from-tasks (IsTaskIn (topology_of items)) is.run.tasks));
    instances = All-from_recursion (λ (s : Seat). s.task.generation ≡ (shelf_of c.broker).newest s.task.name) c.seats.items
        (from-tasks (λ (t : TaskView). t.generation ≡ (shelf_of c.broker).newest t.name) is.run.newest);
    good = subst (λ (t : Topology). Good (core_of t) (meaning_in_core items p.order) (core_state_of c.broker ms)) (sym is.topology) is.run.good;
    fed = is.fed;
    newest = subst (λ (t : Topology). All (λ u. (shelf_of c.broker).newest u ≡ p.newest u) (tasks_of t.subs)) (sym is.topology) (to-tasks (λ u. (shelf_of c.broker).newest u ≡ p.newest u) is.newest);
    done = subst (λ (t : Topology). All (λ u. (shelf_of c.broker).done u ≡ p.done u) (tasks_of t.subs)) (sym is.topology) (to-tasks (λ u. (shelf_of c.broker).done u ≡ p.done u) is.done);
    rounds = is.rounds;
    journal = is.journal;
    sources = is.sources;
  }
    where
      from-tasks : (P : TaskView → Type 0) → AllByRecursion (λ (m : Moved). P m.task) ms → AllByRecursion (λ (s : Seat). P s.task) c.seats.items
      from-tasks P all = all-mapped P (λ (s : Seat). s.task) c.seats.items (subst (AllByRecursion P) is.running (All-map P (λ (m : Moved). m.task) ms all))

-- ---- workers and notes

-- a cluster has other live workers or another journal, and else what it had
pub record IsSameBut (live : List ℕ) (journal : List JournalEntry) (c next : Cluster) : Type 0 where
  pub topology : next.topology ≡ c.topology
  pub chain : next.chain ≡ c.chain
  pub broker : next.broker ≡ c.broker
  pub these : next.live.items ≡ live
  pub seats : next.seats.items ≡ c.seats.items
  pub sources : next.sources.items ≡ c.sources.items
  pub rounds : next.rounds ≡ c.rounds
  pub notes : next.journal.items ≡ journal

pub same-come : (items : List Item) (p : Progress) (ms : List Moved) (c next : Cluster) (live : List ℕ) (journal : List JournalEntry) → IsSameBut live journal c next → IsStrictlyIncreasing live →
    HasComeWith items p ms c → HasComeWith items (record p { live = live; journal = journal }) ms next
same-come items p ms c next live journal is rises h =
    come-of items (record p { live = live; journal = journal }) ms next (record {
      texts = h.texts;
      progress = record { sources = h.progress.sources; order = h.progress.order; none_later = h.progress.none_later; live = rises; owned = h.progress.owned };
      topology = is.topology ∙ h.topology;
      chain = is.chain ∙ h.chain ∙ ap (λ (t : Topology). chain_of t.subs) (sym is.topology);
      topics = ap topics_of is.broker ∙ h.topics ∙ ap (λ (t : Topology). t.topics) (sym is.topology);
      live = is.these;
      owners = ap (map owned_of) is.seats ∙ h.owners;
      running = h.running ∙ sym (ap (map (λ (s : Seat). s.task)) is.seats);
      run = subst (λ (b : Shelves). AreRunning items p.order (shelf_of b) ms) (sym is.broker) (running-of items p ms c h);
      fed = ap (λ (b : Shelves). b.fed) is.broker ∙ h.fed;
      newest = λ u among. ap (λ (b : Shelves). (shelf_of b).newest u) is.broker ∙ newest-come items p ms c h u among;
      done = λ u among. ap (λ (b : Shelves). (shelf_of b).done u) is.broker ∙ done-come items p ms c h u among;
      rounds = is.rounds ∙ h.rounds;
      journal = is.notes;
      sources = subst (λ (xs : List Kept). AllZip IsKept xs p.sources) (sym is.sources) h.sources;
    })
