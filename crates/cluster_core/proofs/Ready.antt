-- What a round asks for, of a cluster that has come so far, and what the cluster is after it.
use Rattle.std.proofs.Common.{◌≡◌, ◌∙◌, ap, ap₂, refl, sym, subst, ℕ, ◌+◌, List, [], ◌∷◌, ◌++◌, map, append_assoc}
use Rattle.std.proofs.lemmas.List.Elements.{All-from_recursion}
use Rattle.std.specs.Prelude.{All, Contains, IfSome, if◌then◌else◌, flat_map, Option, Some}
use Rattle.std.specs.List.{AllByRecursion, AllPairs, AllZip}
use Rattle.ksql_types.specs.declared.relation.TaskName.{TaskName}
use Rattle.ksql_place.specs.declared.change.SourceRecord.{SourceRecord}
use Rattle.ksql_program.specs.Sound.{IsSound}
use Rattle.ksql_program.specs.declared.program.Item.{Item}
use Rattle.meaning_laws.proofs.Lists.{Pairwise, all-from_pairwise}
use Rattle.topology.specs.Tasks.{chain_of, tasks_of}
use Rattle.topology.specs.Topologies.{subs, topology_of}
use Rattle.topology.specs.declared.topology.Topology.{Topology}
use Rattle.core_state.specs.Events.{advance as advance_event}
use Rattle.core_state.specs.Law.{AllHappen}
use Rattle.core_state.specs.Routes.{Routes, routes_of}
use Rattle.core_state.specs.Shelf.{Shelf}
use Rattle.core_state.specs.declared.journal.JournalEntry.{JournalEntry}
use Rattle.core_state.specs.declared.journal.JournalEntry.TheVariants as entry
use Rattle.core_state.specs.declared.log.Proposal.{Proposal}
use Rattle.storing_laws.proofs.RisingResults.{results-rising}
use Rattle.storing_laws.proofs.Storing.{can-be-stored}
use Rattle.topic_log.specs.Shelves.{routes_in, shelf_of, topics_of}
use Rattle.assignor.specs.Rule.{owner_of}
use Rattle.assignor.specs.declared.assignment.Owned.{Owned}
use Rattle.task_core.specs.Core.{core_of}
use Rattle.task_core.specs.Tasks.{CanRead, TaskView}
use Rattle.task_core.specs.declared.task.Moved.{Moved}
use Rattle.cluster_core.specs.Cluster.{HasCome, HasComeWith, HasHappened, IsKept}
use Rattle.cluster_laws.specs.Tasks.{idle}
use Rattle.cluster_laws.specs.Moves.{owned_of}
use Rattle.cluster_laws.specs.Progress.{Progress, bound, committed, round, takes_part}
use Rattle.task_core.specs.Advancing.{CanAdvance}
use Rattle.cluster_laws.specs.Rounds.{AllSettle, CanCommit, CanGo, HasParts, HasRun, ProposeApart, noted, offered, seat_of}
use Rattle.cluster_laws.specs.Told.{committing, told}
use Rattle.cluster_core.specs.declared.cluster.Cluster.{Cluster}
use Rattle.cluster_laws.specs.declared.seats.Ran.{Ran}
use Rattle.cluster_laws.specs.declared.seats.Seat.{Seat}
use Rattle.cluster_core.specs.declared.sources.Source.{Source as Kept}
use Rattle.cluster_core.proofs.Coming.{come-of, done-come, newest-come, running-of, topics-come}
use Rattle.cluster_core.proofs.AllTasks.{after_commit, all-advance, all-advanced, all-can-advance, all-can-commit, all-commit, all-readable, all-settled, offers-apart, settle-fed}
use Rattle.cluster_laws.proofs.Lists.{all-mapped}
use Rattle.cluster_laws.proofs.Names.{AreApart}
use Rattle.cluster_core.proofs.Numbers.{IsReady, all-newest, all-noted, all-ready, commits-done, same-name}
use Rattle.cluster_laws.proofs.Running.{on_shelf}
use Rattle.cluster_laws.proofs.Telling.{happen-append}
use Rattle.cluster_core.proofs.Tasks.{AreRunning, IsNamed, means}

-- what a round leaves as it was, and what it does to the tasks and to the broker
pub record IsRound (lost : Option ℕ) (c : Cluster) (rs : List Ran) (next : Cluster) : Type 0 where
  pub ran : AllZip (HasRun lost (routes_in c.broker) (shelf_of c.broker)) c.seats.items rs
  pub settled : AllSettle (routes_in c.broker) (map offered rs) (shelf_of c.broker) (shelf_of next.broker)
  pub seats : next.seats.items ≡ map seat_of rs
  pub topics : topics_of next.broker ≡ topics_of c.broker
  pub topology : next.topology ≡ c.topology
  pub chain : next.chain ≡ c.chain
  pub live : next.live.items ≡ c.live.items
  pub sources : next.sources.items ≡ c.sources.items
  pub rounds : next.rounds ≡ c.rounds + 1
  pub journal : next.journal.items ≡ (c.journal.items ++ entry.Round (c.rounds + 1) ∷ []) ++ flat_map noted (map offered rs)

-- ---- lists

-- the tasks after a round have the owners that they had
ran-owners : (lost : Option ℕ) (r : Routes) (b : Shelf) (ss : List Seat) (rs : List Ran) → AllZip (HasRun lost r b) ss rs → map owned_of (map seat_of rs) ≡ map owned_of ss
ran-owners lost r b [] [] zip = refl
ran-owners lost r b [] (x ∷ rs) zip = absurd zip
ran-owners lost r b (s ∷ ss) [] zip = absurd zip
ran-owners lost r b (s ∷ ss) (x ∷ rs) zip =
    ap₂ (λ (o : Owned) (os : List Owned). o ∷ os) (λ i. record { task = same-name lost r b s x zip.0 i; worker = zip.0.worker i }) (ran-owners lost r b ss rs zip.1)

ran-tasks : (rs : List Ran) → map (λ (m : Moved). m.task) (map after_commit rs) ≡ map (λ (s : Seat). s.task) (map seat_of rs)
ran-tasks [] = refl
ran-tasks (x ∷ rs) = ap (λ (ts : List TaskView). x.moved.task ∷ ts) (ran-tasks rs)

-- and no proposal waits
ran-idle : (rs : List Ran) → map after_commit rs ≡ map (λ (s : Seat). idle s.task) (map seat_of rs)
ran-idle [] = refl
ran-idle (x ∷ rs) = ap (λ (ms : List Moved). idle x.moved.task ∷ ms) (ran-idle rs)

pairs-of-seats : (ss : List Seat) → Pairwise AreApart (map (λ (m : Moved). m.task.name) (map (λ (s : Seat). idle s.task) ss)) → Pairwise (λ (x y : Seat). AreApart x.task.name y.task.name) ss
pairs-of-seats [] pairs = tt
pairs-of-seats (s ∷ ss) pairs = (
  all-mapped (λ (m : Moved). AreApart s.task.name m.task.name) (λ (x : Seat). idle x.task) ss
      (all-mapped (AreApart s.task.name) (λ (m : Moved). m.task.name) (map (λ (x : Seat). idle x.task) ss) pairs.0),
  pairs-of-seats ss pairs.1,
)

module _ (items : List Item) (p : Progress) (c : Cluster) (sound : IsSound items) (h : HasCome items p c) where
  abbrev t : Topology
  t = topology_of items

  abbrev routes : Routes
  routes = routes_of t.topics

  abbrev all : Shelf
  all = shelf_of c.broker

  abbrev waiting : List Moved
  waiting = map (λ (s : Seat). idle s.task) c.seats.items

  topics : topics_of c.broker ≡ t.topics
  topics = topics-come items p waiting c h

  same-routes : routes_in c.broker ≡ routes
  same-routes = ap routes_of topics

  runs : AreRunning items p.order all waiting
  runs = running-of items p waiting c h

  seats-among : AllByRecursion (λ (s : Seat). Contains (tasks_of (subs items)) s.task.name) c.seats.items
  seats-among = all-mapped (λ (m : Moved). Contains (tasks_of (subs items)) m.task.name) (λ (s : Seat). idle s.task) c.seats.items runs.among

  ready : AllByRecursion (IsReady routes all (bound t p)) c.seats.items
  ready = all-ready items p.order sound h.progress.order all p h.fed (done-come items p waiting c h) [] c.seats.items runs

  -- each task can read and process what the broker shows
  each-go : (ss : List Seat) → AllByRecursion (λ (s : Seat). CanAdvance routes all s.task) ss → AllByRecursion (λ (s : Seat). CanRead c.broker s.task) ss →
      AllByRecursion (λ (s : Seat). CanGo c.broker s.task) ss
  each-go [] advance readable = tt
  each-go (s ∷ ss) advance readable =
      (record { advance = subst (λ (r : Routes). CanAdvance r all s.task) (sym same-routes) advance.0; readable = readable.0 }, each-go ss advance.1 readable.1)

  pub can-go : HasParts c.broker → All (λ (s : Seat). CanGo c.broker s.task) c.seats.items
  can-go has =
      let fits = h.progress.order in
      All-from_recursion (λ (s : Seat). CanGo c.broker s.task) c.seats.items
      (each-go c.seats.items
      (all-can-advance items p.order sound fits all (can-be-stored items p.order sound fits.fed h.texts fits.in_time fits.short fits.text) [] c.seats.items runs)
      (all-readable items p.order sound fits all c.broker topics has [] c.seats.items runs))

  module _ (lost : Option ℕ) (rs : List Ran) (has : AllZip (HasRun lost (routes_in c.broker) (shelf_of c.broker)) c.seats.items rs) where
    ran : AllZip (HasRun lost routes all) c.seats.items rs
    ran = subst (λ (r : Routes). AllZip (HasRun lost r all) c.seats.items rs) same-routes has

    run : AreRunning items p.order all (map (λ (r : Ran). r.moved) rs)
    run = all-advanced items p.order sound h.progress.order all lost [] c.seats.items rs ran runs

    -- each proposal can be committed
    pub commit-ready : All (λ o. IfSome o (CanCommit (routes_in c.broker) (shelf_of c.broker))) (map offered rs)
    commit-ready =
        All-from_recursion (λ (o : Option Proposal). IfSome o (CanCommit (routes_in c.broker) (shelf_of c.broker))) (map offered rs)
        (subst (λ (r : Routes). AllByRecursion (λ (o : Option Proposal). IfSome o (CanCommit r all)) (map offered rs)) (sym same-routes)
        (all-can-commit items p.order sound h.progress.order all (results-rising items p.order sound h.progress.order.fed) [] rs run))

    pub commit-apart : AllPairs ProposeApart (map offered rs)
    commit-apart = all-from_pairwise ProposeApart (map offered rs) (offers-apart items p.order sound h.progress.order all rs run)

  -- ---- after the commits

  module _ (lost : Option ℕ) (rs : List Ran) (next : Cluster) (is : IsRound lost c rs next) where
    abbrev after : Shelf
    after = shelf_of next.broker

    went : AllZip (HasRun lost routes all) c.seats.items rs
    went = ran lost rs is.ran

    moved : AreRunning items p.order all (map (λ (r : Ran). r.moved) rs)
    moved = run lost rs is.ran

    -- the steps of the routes of the program
    settles : AllSettle routes (map offered rs) all after
    settles = subst (λ (r : Routes). AllSettle r (map offered rs) all after) same-routes is.settled

    same-done : (ss : List Seat) → AllByRecursion (λ (s : Seat). all.done s.task.name ≡ all.done s.task.name) ss
    same-done [] = tt
    same-done (s ∷ ss) = (refl, same-done ss)

    own-done : (ss : List Seat) → AllByRecursion (λ (s : Seat). Contains (tasks_of (subs items)) s.task.name) ss → AllByRecursion (IsReady routes all (bound t p)) ss →
        AllByRecursion (λ (s : Seat). s.task.done ≡ p.done s.task.name) ss
    own-done [] among steps = tt
    own-done (s ∷ ss) among steps = (steps.0.step ∙ done-come items p waiting c h s.task.name among.0, own-done ss among.1 steps.1)

    done-next : (u : TaskName) → Contains (tasks_of (subs items)) u → (shelf_of next.broker).done u ≡ (round lost t p).done u
    done-next u among =
        commits-done routes lost all (bound t p) c.seats.items rs went ready
        (all-mapped IsNamed (λ (r : Ran). r.moved) rs moved.named) (pairs-of-seats c.seats.items runs.apart) all after
        (same-done c.seats.items) settles u ((means items p.order sound h.progress.order).writes u among)
        ∙ ap (λ (os : List Owned). if takes_part lost (owner_of os u) then bound t p u else all.done u) h.owners
        ∙ ap (λ (n : ℕ). if takes_part lost (owner_of p.owners u) then bound t p u else n) (done-come items p waiting c h u among)

    run-next : AreRunning items p.order after (map after_commit rs)
    run-next = all-settled items p.order sound h.progress.order [] rs all after settles moved

    next-waits : map after_commit rs ≡ map (λ (s : Seat). idle s.task) next.seats.items
    next-waits = ran-idle rs ∙ sym (ap (map (λ (s : Seat). idle s.task)) is.seats)

    -- what happened: tasks advanced, and then each committed
    pub round-happened : (records : List SourceRecord) → HasHappened items records c next
    round-happened records = record {
      notes = entry.Round (c.rounds + 1) ∷ commits;
      journal = is.journal ∙ append_assoc c.journal.items (entry.Round (c.rounds + 1) ∷ []) commits;
      in_round = refl;
      happen =
          happen-append (core_of t) (map advance_event (committing commits)) (told records commits) (on_shelf all waiting) (on_shelf all (map (λ (r : Ran). r.moved) rs))
          (on_shelf after (map (λ (s : Seat). idle s.task) next.seats.items)) (all-advance items p.order sound h.progress.order all lost [] c.seats.items rs went runs)
          (subst (λ (ms : List Moved). AllHappen (core_of t) (told records commits) (on_shelf all (map (λ (r : Ran). r.moved) rs)) (on_shelf after ms)) next-waits
          (all-commit items p.order sound h.progress.order records [] rs all after settles moved));
    }
      where
        commits : List JournalEntry
        commits = flat_map noted (map offered rs)

    -- how far the cluster has come then
    pub after-round : HasCome items (round lost c.topology p) next
    after-round =
        subst (λ (ms : List Moved). HasComeWith items (round lost c.topology p) ms next) next-waits
        (subst (λ (t : Topology). HasComeWith items (round lost t p) (map after_commit rs) next) (sym h.topology)
        (come-of items (round lost t p) (map after_commit rs) next (record {
          texts = h.texts;
          progress = record { sources = h.progress.sources; order = h.progress.order; none_later = h.progress.none_later; live = h.progress.live; owned = h.progress.owned };
          topology = is.topology ∙ h.topology;
          chain = is.chain ∙ h.chain ∙ ap (λ (t : Topology). chain_of t.subs) (sym is.topology);
          topics = is.topics ∙ h.topics ∙ ap (λ (t : Topology). t.topics) (sym is.topology);
          live = is.live ∙ h.live;
          owners = ap (map owned_of) is.seats ∙ ran-owners lost routes all c.seats.items rs went ∙ h.owners;
          running = ran-tasks rs ∙ sym (ap (map (λ (s : Seat). s.task)) is.seats);
          run = run-next;
          fed = settle-fed routes (map offered rs) all after settles ∙ h.fed;
          newest = λ u among.
              all-newest routes (map offered rs) all after u ((means items p.order sound h.progress.order).writes u among) settles
              ∙ newest-come items p waiting c h u among;
          done = done-next;
          rounds = is.rounds ∙ ap (λ n. n + 1) h.rounds;
          journal = is.journal
              ∙ append_assoc c.journal.items (entry.Round (c.rounds + 1) ∷ []) (flat_map noted (map offered rs))
              ∙ (λ i. h.journal i ++ entry.Round (h.rounds i + 1) ∷ noted-next i);
          sources = subst (λ (xs : List Kept). AllZip IsKept xs p.sources) (sym is.sources) h.sources;
        })))
      where
        noted-next : flat_map noted (map offered rs) ≡ flat_map (λ (o : Owned). if takes_part lost (Some o.worker) then committed t p o.task else []) p.owners
        noted-next =
            all-noted items p.order sound h.progress.order all p h.fed (done-come items p waiting c h) lost c.seats.items rs went ready
            (own-done c.seats.items seats-among ready)
            ∙ ap (flat_map (λ (o : Owned). if takes_part lost (Some o.worker) then committed t p o.task else [])) h.owners
