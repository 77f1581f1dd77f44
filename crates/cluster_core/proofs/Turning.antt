-- What moves tasks: other live workers, or a task that is lost.
use Rattle.std.proofs.Common.{◌≡◌, ◌∙◌, ap, refl, sym, subst, ℕ, Bool, false, List, [], ◌∷◌, ◌++◌, length, map, Result, Ok, Err, IfOk}
use Rattle.std.proofs.lemmas.List.{length-map}
use Rattle.std.specs.Prelude.{IsTrue, not}
use Rattle.std.specs.List.{AllByRecursion, AllZip}
use Rattle.std.specs.List.Sorted.{IsStrictlyIncreasing}
use Rattle.ksql_types.specs.declared.relation.TaskName.{TaskName}
use Rattle.ksql_program.specs.declared.program.Item.{Item}
use Rattle.topology.specs.Tasks.{tasks_of}
use Rattle.topology.specs.Topologies.{topology_of}
use Rattle.topology.specs.declared.topology.Topology.{Topology}
use Rattle.core_state.specs.declared.journal.JournalEntry.{JournalEntry}
use Rattle.core_state.specs.declared.journal.JournalEntry.TheVariants as entry
use Rattle.assignor.specs.Rule.{assignment, is_live}
use Rattle.assignor.specs.declared.assignment.Owned.{Owned}
use Rattle.task_core.specs.declared.task.Moved.{Moved}
use Rattle.cluster_core.specs.Cluster.{CanMove, HasCome, HasComeWith}
use Rattle.cluster_laws.specs.Tasks.{IsIdleAt, IsOwned, KeepPlaces, idle}
use Rattle.cluster_laws.specs.Moves.{are_at, kept_of, owned_of}
use Rattle.cluster_laws.specs.Progress.{Progress, has_left, is_task}
use Rattle.cluster_core.specs.declared.cluster.Cluster.{Cluster}
use Rattle.cluster_laws.specs.declared.seats.Seat.{Seat}
use Rattle.cluster_core.proofs.Coming.{IsSameBut, same-come}
use Rattle.cluster_laws.proofs.Owners.{assignment-live, assignment-owned, own-places, staying-idle, staying-places, staying-same}

-- a property of what a call returns
pub ok-more : {A E : Type 0} {P Q : A → Type 0} (r : Result A E) → ((a : A) → P a → Q a) → IfOk r P → IfOk r Q
ok-more (Ok a) f h = f a h
ok-more (Err e) f h = tt

-- tasks that wait without proposals, whoever leaves
all-idle : (leaves : TaskName → Bool) (ss : List Seat) → AllZip (λ (s : Seat) (m : Moved). leaves s.task.name ≡ false → m ≡ idle s.task) ss (map (λ (s : Seat). idle s.task) ss)
all-idle leaves [] = tt
all-idle leaves (s ∷ ss) = ((λ stays. refl), all-idle leaves ss)

pub idle-live : (live : List ℕ) (ss : List Seat) → AllZip (IsIdleAt live) ss (map (λ (s : Seat). idle s.task) ss)
idle-live live [] = tt
idle-live live (s ∷ ss) = ((λ is. refl), idle-live live ss)

module _ (items : List Item) (p : Progress) (ms : List Moved) (c : Cluster) (h : HasComeWith items p ms c) where
  owned-now : IsOwned (topology_of items) (map owned_of c.seats.items)
  owned-now = subst (IsOwned (topology_of items)) (sym h.owners) h.progress.owned

  -- the tasks as they are assigned anew to live workers
  abbrev pub assigned-to : List ℕ → List Owned
  assigned-to live = assignment (map owned_of c.seats.items) live (tasks_of c.topology.subs)

  same-tasks : (live : List ℕ) → assigned-to live ≡ assignment (map owned_of c.seats.items) live (tasks_of (topology_of items).subs)
  same-tasks live = ap (λ (t : Topology). assignment (map owned_of c.seats.items) live (tasks_of t.subs)) h.topology

  -- they can move so
  pub can-assign : (live : List ℕ) → IsStrictlyIncreasing live → AllZip (IsIdleAt live) c.seats.items ms → (owners : List Owned) → owners ≡ assigned-to live →
      CanMove c.topology (has_left p.owners owners) (are_at owners c.seats.items) owners c.seats.items ms
  can-assign live rises idle owners is =
      subst (λ (os : List Owned). CanMove c.topology (has_left os owners) (are_at owners c.seats.items) owners c.seats.items ms) h.owners (record {
        stays = staying-same items c.seats.items owners owned-now owned;
        owned = subst (λ (t : Topology). IsOwned t owners) (sym h.topology) owned;
        places = staying-places items c.seats.items owners owned-now owned;
        idle = staying-idle items live c.seats.items ms owners owned-now owned
            (subst (AllByRecursion (λ (o : Owned). IsTrue (is_live live o.worker))) (sym whole) (assignment-live items (map owned_of c.seats.items) live rises)) idle;
      })
    where
      whole : owners ≡ assignment (map owned_of c.seats.items) live (tasks_of (topology_of items).subs)
      whole = is ∙ same-tasks live

      owned : IsOwned (topology_of items) owners
      owned = subst (IsOwned (topology_of items)) (sym whole) (assignment-owned items (map owned_of c.seats.items) live rises)

  pub assign-moves : (live : List ℕ) → IsStrictlyIncreasing live → AllZip (IsIdleAt live) c.seats.items ms → (owners : List Owned) (stays : List Bool) → owners ≡ assigned-to live →
      stays ≡ are_at owners c.seats.items → CanMove c.topology (has_left p.owners owners) stays owners c.seats.items ms
  assign-moves live rises idle owners stays is same =
      subst (λ (bs : List Bool). CanMove c.topology (has_left p.owners owners) bs owners c.seats.items ms) (sym same) (can-assign live rises idle owners is)

-- a step begins: its line is noted
pub begun : (items : List Item) (p : Progress) (c next : Cluster) (line : ℕ) → IsSameBut c.live.items (c.journal.items ++ entry.Step line ∷ []) c next → HasCome items p c →
    HasComeWith items (record p { journal = p.journal ++ entry.Step line ∷ [] }) (map (λ (s : Seat). idle s.task) c.seats.items) next
begun items p c next line is h =
    same-come items p (map (λ (s : Seat). idle s.task) c.seats.items) c next p.live (p.journal ++ entry.Step line ∷ [])
    (record {
      topology = is.topology;
      chain = is.chain;
      broker = is.broker;
      these = is.these ∙ h.live;
      seats = is.seats;
      sources = is.sources;
      rounds = is.rounds;
      notes = is.notes ∙ ap (λ (es : List JournalEntry). es ++ entry.Step line ∷ []) h.journal;
    }) h.progress.live h

-- a task that is lost can leave, and have its owner again
pub can-lose : (items : List Item) (p : Progress) (c : Cluster) → HasCome items p c → (task : TaskName) (stays : List Bool) (owners : List Owned) →
    stays ≡ map (λ (s : Seat). not (is_task task s.task.name)) c.seats.items → owners ≡ map owned_of c.seats.items →
    CanMove c.topology (is_task task) stays owners c.seats.items (map (λ (s : Seat). idle s.task) c.seats.items)
can-lose items p c h task stays owners same whole = record {
  stays = same;
  owned = subst (λ (t : Topology). IsOwned t owners) (sym h.topology) (subst (IsOwned (topology_of items)) (sym (whole ∙ h.owners)) h.progress.owned);
  places = subst (λ (os : List Owned). KeepPlaces os (kept_of stays c.seats.items)) (sym whole)
      (own-places c.seats.items stays (ap length same ∙ length-map c.seats.items (λ (s : Seat). not (is_task task s.task.name))));
  idle = all-idle (is_task task) c.seats.items;
}
