-- A cluster after some tasks left their owners and tasks were restored.
use Rattle.std.proofs.Common.{◌≡◌, ◌∙◌, ap, ap₂, refl, sym, subst, ℕ, ◌+◌, Bool, true, false, List, [], ◌∷◌, ◌++◌, length, map, append_assoc}
use Rattle.std.proofs.lemmas.List.{length-map}
use Rattle.std.proofs.lemmas.List.Elements.{All-from_recursion}
use Rattle.std.specs.Prelude.{◌&&◌, All, Contains, if◌then◌else◌, not, flat_map, Option, None, Some}
use Rattle.std.specs.List.{AllByRecursion, AllZip}
use Rattle.ksql_types.specs.declared.relation.TaskName.{TaskName}
use Rattle.ksql_types.specs.declared.topic.TopicSpec.{TopicSpec}
use Rattle.ksql_place.specs.declared.change.SourceRecord.{SourceRecord}
use Rattle.ksql_program.specs.Sound.{IsSound}
use Rattle.ksql_program.specs.declared.program.Item.{Item}
use Rattle.meaning_laws.proofs.Lists.{Pairwise}
use Rattle.topology.specs.Tasks.{chain_of, tasks_of}
use Rattle.topology.specs.Topologies.{subs, topology_of}
use Rattle.topology.specs.declared.topology.Topology.{Topology}
use Rattle.core_state.specs.Events.{Event}
use Rattle.core_state.specs.Law.{AllHappen}
use Rattle.core_state.specs.Routes.{IsWriter, routes_of}
use Rattle.core_state.specs.Shelf.{Shelf}
use Rattle.core_state.specs.declared.journal.JournalEntry.{JournalEntry}
use Rattle.core_state.specs.declared.journal.JournalEntry.TheVariants as entry
use Rattle.topic_log.specs.Shelves.{routes_in, shelf_of, topics_of}
use Rattle.assignor.specs.declared.assignment.Owned.{Owned}
use Rattle.task_core.specs.Core.{core_of}
use Rattle.task_core.specs.declared.task.Moved.{Moved}
use Rattle.cluster_core.specs.Cluster.{CanMove, HasCome, HasComeWith, HasHappenedWith, IsKept}
use Rattle.cluster_laws.specs.Tasks.{IsOwned, idle}
use Rattle.cluster_laws.specs.Moves.{AllLeave, CanRestore, kept_of, owned_of, seat_notes, seated}
use Rattle.cluster_laws.specs.Progress.{Progress, after_moves, is_owned, newest_after, notes_of_left, notes_of_restored}
use Rattle.cluster_laws.specs.Told.{told}
use Rattle.cluster_core.specs.declared.cluster.Cluster.{Cluster}
use Rattle.cluster_laws.specs.declared.seats.Seat.{Seat}
use Rattle.cluster_core.specs.declared.sources.Source.{Source as Kept}
use Rattle.cluster_core.proofs.Coming.{come-of, done-come, idle-tasks, newest-come, owned-among, running-of, topics-come}
use Rattle.cluster_core.proofs.Leaving.{all-leave, all-left, leave-committing, staying_of}
use Rattle.cluster_laws.proofs.Leavings.{flat-same, left-done, left-fed, left-newest, left-notes, seated-notes, seated-owners}
use Rattle.cluster_laws.proofs.Lists.{all-mapped}
use Rattle.cluster_laws.proofs.Names.{AreApart}
use Rattle.cluster_laws.proofs.Owners.{owned-apart, seats-apart}
use Rattle.cluster_laws.proofs.Running.{on_shelf}
use Rattle.cluster_laws.proofs.Telling.{happen-append, none-committing, told-append}
use Rattle.cluster_core.proofs.Restoring.{all-restore, all-seated, can-restore, idle_kept, seat-committing}
use Rattle.cluster_core.proofs.Tasks.{AreRunning, means}

-- what some moves leave as it was, and what they do to the tasks and to the broker
pub record IsMoved (stays : List Bool) (owners : List Owned) (c : Cluster) (notes : List JournalEntry) (next : Cluster) : Type 0 where
  pub left : AllLeave (routes_in c.broker) stays c.seats.items (shelf_of c.broker) notes (shelf_of next.broker)
  pub seats : next.seats.items ≡ seated c.topology (shelf_of next.broker) owners (kept_of stays c.seats.items)
  pub topics : topics_of next.broker ≡ topics_of c.broker
  pub topology : next.topology ≡ c.topology
  pub chain : next.chain ≡ c.chain
  pub live : next.live.items ≡ c.live.items
  pub sources : next.sources.items ≡ c.sources.items
  pub rounds : next.rounds ≡ c.rounds
  pub journal : next.journal.items ≡ (c.journal.items ++ notes) ++ seat_notes (shelf_of next.broker) owners (kept_of stays c.seats.items)

-- the tasks that stay wait with no proposals
staying-kept : (leaves : TaskName → Bool) (ss : List Seat) (ms : List Moved) → AllZip (λ (s : Seat) (m : Moved). leaves s.task.name ≡ false → m ≡ idle s.task) ss ms →
    staying_of (map (λ (s : Seat). not (leaves s.task.name)) ss) ms ≡ idle_kept (kept_of (map (λ (s : Seat). not (leaves s.task.name)) ss) ss)
staying-kept leaves [] [] zip = refl
staying-kept leaves [] (m ∷ ms) zip = absurd zip
staying-kept leaves (s ∷ ss) [] zip = absurd zip
staying-kept leaves (s ∷ ss) (m ∷ ms) zip = by (leaves s.task.name) zip.0 (staying-kept leaves ss ms zip.1)
  where
    by : (l : Bool) → (l ≡ false → m ≡ idle s.task) →
        staying_of (map (λ (x : Seat). not (leaves x.task.name)) ss) ms ≡ idle_kept (kept_of (map (λ (x : Seat). not (leaves x.task.name)) ss) ss) →
        (if not l then m ∷ staying_of (map (λ (x : Seat). not (leaves x.task.name)) ss) ms else staying_of (map (λ (x : Seat). not (leaves x.task.name)) ss) ms)
        ≡ idle_kept ((if not l then Some s else None) ∷ kept_of (map (λ (x : Seat). not (leaves x.task.name)) ss) ss)
    by true still rest = rest
    by false still rest = ap₂ (λ (x : Moved) (xs : List Moved). x ∷ xs) (still refl) rest

module _ (items : List Item) (p : Progress) (ms : List Moved) (c : Cluster) (sound : IsSound items) (h : HasComeWith items p ms c)
    (leaves : TaskName → Bool) (stays : List Bool) (owners : List Owned) (can : CanMove c.topology leaves stays owners c.seats.items ms) where
  abbrev t : Topology
  t = topology_of items

  abbrev flags : List Bool
  flags = map (λ (s : Seat). not (leaves s.task.name)) c.seats.items

  topics : topics_of c.broker ≡ t.topics
  topics = topics-come items p ms c h

  run : AreRunning items p.order (shelf_of c.broker) ms
  run = running-of items p ms c h

  owned : IsOwned t owners
  owned = subst (λ (x : Topology). IsOwned x owners) h.topology can.owned

  owned-now : IsOwned t (map owned_of c.seats.items)
  owned-now = subst (IsOwned t) (sym h.owners) h.progress.owned

  writer : (u : TaskName) → Contains (tasks_of (subs items)) u → IsWriter (routes_of t.topics) u
  writer u among = (means items p.order sound h.progress.order).writes u among

  -- each task of a seat is one of the program's
  seats-among : AllByRecursion (λ (s : Seat). Contains (tasks_of (subs items)) s.task.name) c.seats.items
  seats-among =
      all-mapped (λ (o : Owned). Contains (tasks_of (subs items)) o.task) owned_of c.seats.items
      (all-mapped (Contains (tasks_of (subs items))) (λ (o : Owned). o.task) (map owned_of c.seats.items) (owned-among items (map owned_of c.seats.items) owned-now))

  writers-of : (ss : List Seat) → AllByRecursion (λ (s : Seat). Contains (tasks_of (subs items)) s.task.name) ss → AllByRecursion (λ (s : Seat). IsWriter (routes_of t.topics) s.task.name) ss
  writers-of [] all = tt
  writers-of (s ∷ ss) all = (writer s.task.name all.0, writers-of ss all.1)

  -- what leaving asks for
  pub leave-ready : All (λ (s : Seat). IsWriter (routes_in c.broker) s.task.name) c.seats.items
  leave-ready =
      All-from_recursion (λ (s : Seat). IsWriter (routes_in c.broker) s.task.name) c.seats.items
      (subst (λ (ts : List TopicSpec). AllByRecursion (λ (s : Seat). IsWriter (routes_of ts) s.task.name) c.seats.items) (sym topics) (writers-of c.seats.items seats-among))

  pub leave-places : length stays ≡ length c.seats.items
  leave-places = ap length can.stays ∙ length-map c.seats.items (λ (s : Seat). not (leaves s.task.name))

  owners-among : AllByRecursion (λ (o : Owned). Contains (tasks_of (subs items)) o.task) owners
  owners-among = all-mapped (Contains (tasks_of (subs items))) (λ (o : Owned). o.task) owners (owned-among items owners owned)

  module _ (after : Shelf) (notes : List JournalEntry) (left : AllLeave (routes_in c.broker) stays c.seats.items (shelf_of c.broker) notes after) where
    leaving : AllLeave (routes_of t.topics) stays c.seats.items (shelf_of c.broker) notes after
    leaving = subst (λ (ts : List TopicSpec). AllLeave (routes_of ts) stays c.seats.items (shelf_of c.broker) notes after) topics left

    left-run : AreRunning items p.order after (staying_of stays ms)
    left-run =
        all-left items p.order sound h.progress.order [] ms c.seats.items stays (shelf_of c.broker) after notes h.running leave-places
        leaving run

    -- what making tasks anew asks for
    pub restore-ready : All (CanRestore c.topology (routes_in c.broker) after) owners
    restore-ready =
        subst (λ (x : Topology). All (CanRestore x (routes_in c.broker) after) owners) (sym h.topology)
        (subst (λ (ts : List TopicSpec). All (CanRestore t (routes_of ts) after) owners) (sym topics)
        (All-from_recursion (CanRestore t (routes_of t.topics) after) owners (each owners owners-among)))
      where
        each : (os : List Owned) → AllByRecursion (λ (o : Owned). Contains (tasks_of (subs items)) o.task) os → AllByRecursion (CanRestore t (routes_of t.topics) after) os
        each [] all = tt
        each (o ∷ os) all = (
          can-restore items p.order sound h.progress.order after (staying_of stays ms) left-run o all.0,
          each os all.1,
        )

  -- ---- after all

  module _ (notes : List JournalEntry) (next : Cluster) (is : IsMoved stays owners c notes next) where
    abbrev after : Shelf
    after = shelf_of next.broker

    abbrev kept : List (Option Seat)
    kept = kept_of stays c.seats.items

    leaves-so : AllLeave (routes_of t.topics) stays c.seats.items (shelf_of c.broker) notes after
    leaves-so = leaving after notes is.left

    kept-same : staying_of stays ms ≡ idle_kept kept
    kept-same =
        ap (λ (bs : List Bool). staying_of bs ms) can.stays ∙ staying-kept leaves c.seats.items ms can.idle ∙ sym (ap (λ (bs : List Bool). idle_kept (kept_of bs c.seats.items)) can.stays)

    kept-run : AreRunning items p.order after (idle_kept kept)
    kept-run = subst (AreRunning items p.order after) kept-same (left-run after notes is.left)

    seats-next : next.seats.items ≡ seated t after owners kept
    seats-next = is.seats ∙ ap (λ (x : Topology). seated x after owners kept) h.topology

    next-run : AreRunning items p.order after (map (λ (s : Seat). idle s.task) next.seats.items)
    next-run =
        subst (λ (ss : List Seat). AreRunning items p.order after (map (λ (s : Seat). idle s.task) ss))
        (sym seats-next)
        (all-seated items p.order sound h.progress.order after [] owners kept
        owners-among (owned-apart items owners owned) can.places kept-run)

    apart : Pairwise AreApart (map (λ (s : Seat). s.task.name) c.seats.items)
    apart = seats-apart items c.seats.items owned-now

    newest-next : (u : TaskName) → Contains (tasks_of (subs items)) u → after.newest u ≡ newest_after leaves p u
    newest-next u among =
        left-newest (routes_of t.topics) leaves stays c.seats.items (shelf_of c.broker) after notes can.stays apart leaves-so u (writer u among)
        ∙ ap₂ (λ (os : List Owned) (n : ℕ). if is_owned os u && leaves u then n + 1 else n) h.owners (newest-come items p ms c h u among)

    still-done : (u : TaskName) → Contains (tasks_of (subs items)) u → after.done u ≡ (shelf_of c.broker).done u
    still-done u among = left-done (routes_of t.topics) stays c.seats.items (shelf_of c.broker) after notes leaves-so u (writer u among)

    done-next : (u : TaskName) → Contains (tasks_of (subs items)) u → after.done u ≡ p.done u
    done-next u among = still-done u among ∙ done-come items p ms c h u among

    notes-left : notes ≡ notes_of_left leaves p
    notes-left =
        left-notes (routes_of t.topics) leaves stays c.seats.items (shelf_of c.broker) after notes can.stays apart (writers-of c.seats.items seats-among) leaves-so
        ∙ flat-same (λ (o : Owned). if leaves o.task then
        entry.Left o.task (if is_owned (map owned_of c.seats.items) o.task && leaves o.task then (shelf_of c.broker).newest o.task + 1 else (shelf_of c.broker).newest o.task) ∷ [] else [])
        (λ (o : Owned). if leaves o.task then entry.Left o.task (newest_after leaves p o.task) ∷ [] else []) (map owned_of c.seats.items)
        (each (map owned_of c.seats.items) (all-mapped (Contains (tasks_of (subs items))) (λ (o : Owned). o.task) (map owned_of c.seats.items) (owned-among items (map owned_of c.seats.items) owned-now)))
        ∙ ap (flat_map (λ (o : Owned). if leaves o.task then entry.Left o.task (newest_after leaves p o.task) ∷ [] else [])) h.owners
      where
        each : (os : List Owned) → AllByRecursion (λ (o : Owned). Contains (tasks_of (subs items)) o.task) os →
            AllByRecursion (λ (o : Owned). (if leaves o.task then
            entry.Left o.task (if is_owned (map owned_of c.seats.items) o.task && leaves o.task then (shelf_of c.broker).newest o.task + 1 else (shelf_of c.broker).newest o.task) ∷ [] else [])
            ≡ (if leaves o.task then entry.Left o.task (newest_after leaves p o.task) ∷ [] else [])) os
        each [] all = tt
        each (o ∷ os) all = (
          (λ i. if leaves o.task then entry.Left o.task (if is_owned (h.owners i) o.task && leaves o.task then newest-come items p ms c h o.task all.0 i + 1 else newest-come items p ms c h o.task all.0 i) ∷ [] else []),
          each os all.1,
        )

    notes-restored : seat_notes after owners kept ≡ notes_of_restored leaves owners p
    notes-restored =
        seated-notes items after leaves stays c.seats.items owners can.stays owned-now owned
        ∙ flat-same (λ (o : Owned). if is_owned (map owned_of c.seats.items) o.task && not (leaves o.task) then [] else entry.Restored o.task o.worker (after.newest o.task) (after.done o.task) ∷ [])
        (λ (o : Owned). if is_owned p.owners o.task && not (leaves o.task) then [] else entry.Restored o.task o.worker (newest_after leaves p o.task) (p.done o.task) ∷ []) owners (each owners owners-among)
      where
        each : (os : List Owned) → AllByRecursion (λ (o : Owned). Contains (tasks_of (subs items)) o.task) os →
            AllByRecursion (λ (o : Owned).
            (if is_owned (map owned_of c.seats.items) o.task && not (leaves o.task) then [] else entry.Restored o.task o.worker (after.newest o.task) (after.done o.task) ∷ [])
            ≡ (if is_owned p.owners o.task && not (leaves o.task) then [] else entry.Restored o.task o.worker (newest_after leaves p o.task) (p.done o.task) ∷ [])) os
        each [] all = tt
        each (o ∷ os) all = (
          (λ i. if is_owned (h.owners i) o.task && not (leaves o.task) then [] else entry.Restored o.task o.worker (newest-next o.task all.0 i) (done-next o.task all.0 i) ∷ []),
          each os all.1,
        )

    -- what happened: some tasks left, and then some were restored
    left-happened : (records : List SourceRecord) → AllHappen (core_of t) (told records notes) (on_shelf (shelf_of c.broker) ms) (on_shelf after (idle_kept kept))
    left-happened records =
        subst (λ (xs : List Moved). AllHappen (core_of t) (told records notes) (on_shelf (shelf_of c.broker) ms) (on_shelf after xs)) kept-same
        (all-leave items p.order sound h.progress.order records [] ms c.seats.items stays (shelf_of c.broker) after notes h.running leave-places leaves-so run)

    seated-happened : (records : List SourceRecord) →
        AllHappen (core_of t) (told records (seat_notes after owners kept)) (on_shelf after (idle_kept kept)) (on_shelf after (map (λ (s : Seat). idle s.task) next.seats.items))
    seated-happened records =
        subst (λ (ss : List Seat). AllHappen (core_of t) (told records (seat_notes after owners kept)) (on_shelf after (idle_kept kept)) (on_shelf after (map (λ (s : Seat). idle s.task) ss)))
        (sym seats-next)
        (all-restore items p.order sound h.progress.order records after [] owners kept owners-among (owned-apart items owners owned) can.places kept-run)

    pub moving-happened : (records : List SourceRecord) → HasHappenedWith items records ms c next
    moving-happened records = record {
      notes = notes ++ seat_notes after owners kept;
      journal = is.journal ∙ append_assoc c.journal.items notes (seat_notes after owners kept);
      in_round = none-committing notes (seat_notes after owners kept) (leave-committing (routes_of t.topics) stays c.seats.items (shelf_of c.broker) after notes leaves-so) (seat-committing after owners kept);
      happen =
          subst (λ (es : List Event). AllHappen (core_of t) es (on_shelf (shelf_of c.broker) ms) (on_shelf after (map (λ (s : Seat). idle s.task) next.seats.items)))
          (sym (told-append records notes (seat_notes after owners kept) (seat-committing after owners kept)))
          (happen-append (core_of t) (told records notes) (told records (seat_notes after owners kept)) (on_shelf (shelf_of c.broker) ms) (on_shelf after (idle_kept kept))
          (on_shelf after (map (λ (s : Seat). idle s.task) next.seats.items)) (left-happened records) (seated-happened records));
    }

    -- how far the cluster has come then
    pub after-moving : HasCome items (after_moves leaves owners p) next
    after-moving = come-of items (after_moves leaves owners p) (map (λ (s : Seat). idle s.task) next.seats.items) next (record {
      texts = h.texts;
      progress = record { sources = h.progress.sources; order = h.progress.order; none_later = h.progress.none_later; live = h.progress.live; owned = owned };
      topology = is.topology ∙ h.topology;
      chain = is.chain ∙ h.chain ∙ ap (λ (x : Topology). chain_of x.subs) (sym is.topology);
      topics = is.topics ∙ h.topics ∙ ap (λ (x : Topology). x.topics) (sym is.topology);
      live = is.live ∙ h.live;
      owners = ap (map owned_of) seats-next ∙ seated-owners t after owners kept can.places;
      running = idle-tasks next.seats.items;
      run = next-run;
      fed = left-fed (routes_of t.topics) stays c.seats.items (shelf_of c.broker) after notes leaves-so ∙ h.fed;
      newest = newest-next;
      done = done-next;
      rounds = is.rounds ∙ h.rounds;
      journal = is.journal ∙ (λ i. h.journal i ++ notes-left i ++ notes-restored i);
      sources = subst (λ (xs : List Kept). AllZip IsKept xs p.sources) (sym is.sources) h.sources;
    })
