-- Tasks that are restored from their changelogs keep a good state.
use Rattle.std.proofs.Common.{◌≡◌, ◌∙◌, ap, refl, sym, subst, List, [], ◌∷◌, ◌++◌, map, append_assoc}
use Rattle.std.proofs.lemmas.Option.{none-some, slice_get_within}
use Rattle.std.specs.Prelude.{Contains, Option, Some, None}
use Rattle.std.specs.List.{AllByRecursion}
use Rattle.ksql_types.specs.declared.relation.TaskName.{TaskName}
use Rattle.ksql_place.specs.declared.change.SourceRecord.{SourceRecord}
use Rattle.ksql_program.specs.Sound.{IsSound}
use Rattle.ksql_program.specs.declared.program.Item.{Item}
use Rattle.ksql_nodes.proofs.Lists.{All-append}
use Rattle.meaning_laws.proofs.Lists.{All-weaker, Pairwise}
use Rattle.topology.specs.Tasks.{tasks_of}
use Rattle.topology.specs.Topologies.{subs, topology_of}
use Rattle.core_state.specs.Events.{Happens, restore}
use Rattle.core_state.specs.Good.{Good}
use Rattle.core_state.specs.Law.{AllHappen}
use Rattle.core_state.specs.Shelf.{Shelf}
use Rattle.core_state.proofs.Instances.{restore-keeps}
use Rattle.core_state.proofs.Lifting.{restored}
use Rattle.core_laws.proofs.StageNodes.{task-operators}
use Rattle.task_core.specs.declared.task.Moved.{Moved}
use Rattle.assignor.specs.declared.assignment.Owned.{Owned}
use Rattle.feed_laws.specs.Fitting.{Fits}
use Rattle.cluster_laws.specs.Tasks.{IsTaskIn, KeepPlaces, idle}
use Rattle.cluster_laws.specs.Moves.{CanRestore, restored_task, seat_notes, seated}
use Rattle.cluster_laws.specs.Told.{committing, told}
use Rattle.cluster_laws.specs.declared.seats.Seat.{Seat}
use Rattle.cluster_laws.proofs.Lists.{all-after, all-before, all-mapped, all-with, pairs-after, pairs-before, pairs-with}
use Rattle.cluster_laws.proofs.Names.{AreApart}
use Rattle.cluster_laws.proofs.Reading.{sub-at, sub-got}
use Rattle.cluster_laws.proofs.Running.{instance-here, instance-none, instance-without, on_shelf, parts_of}
use Rattle.cluster_laws.proofs.Telling.{happen-along}
use Rattle.cluster_core.proofs.Tasks.{AreRunning, IsNamed, IsNewest, d, means, top}

-- the tasks that were kept, as they run
abbrev pub idle_kept : List (Option Seat) → List Moved
idle_kept [] = []
idle_kept (None ∷ kept) = idle_kept kept
idle_kept (Some s ∷ kept) = idle s.task ∷ idle_kept kept

-- if no task has an owner, none was kept
none-kept : (kept : List (Option Seat)) → KeepPlaces [] kept → idle_kept kept ≡ []
none-kept [] places = refl
none-kept (None ∷ kept) places = none-kept kept places
none-kept (Some s ∷ kept) places = absurd places

-- a property of each task with an owner holds of the kept tasks
kept-have : (P : TaskName → Type 0) (owners : List Owned) (kept : List (Option Seat)) → KeepPlaces owners kept → AllByRecursion (λ (o : Owned). P o.task) owners →
    AllByRecursion (λ (m : Moved). P m.task.name) (idle_kept kept)
kept-have P owners [] places all = tt
kept-have P [] (None ∷ kept) places all = kept-have P [] kept places all
kept-have P (o ∷ os) (None ∷ kept) places all = kept-have P os kept places all.1
kept-have P [] (Some s ∷ kept) places all = absurd places
kept-have P (o ∷ os) (Some s ∷ kept) places all = (subst P (ap (λ (x : Owned). x.task) places.0) all.0, kept-have P os kept places.1 all.1)

-- names of tasks and further ones
names-along : (front : List Moved) (m : Moved) (us : List TaskName) → map (λ (x : Moved). x.task.name) (front ++ m ∷ []) ++ us ≡ map (λ (x : Moved). x.task.name) front ++ m.task.name ∷ us
names-along [] m us = refl
names-along (x ∷ front) m us = ap (λ vs. x.task.name ∷ vs) (names-along front m us)

-- no journal entry of tasks that are restored is a commit
pub seat-committing : (b : Shelf) (owners : List Owned) (kept : List (Option Seat)) → committing (seat_notes b owners kept) ≡ []
seat-committing b [] kept = refl
seat-committing b (o ∷ os) [] = refl
seat-committing b (o ∷ os) (Some s ∷ kept) = seat-committing b os kept
seat-committing b (o ∷ os) (None ∷ kept) = refl

module _ (items : List Item) (order : List SourceRecord) (sound : IsSound items) (fits : Fits items order) where
  -- ---- one task

  module _ (b : Shelf) (front back : List Moved) (u : TaskName) (among : Contains (tasks_of (subs items)) u)
      (apart : AllByRecursion (λ (m : Moved). AreApart m.task.name u) (front ++ back)) (run : AreRunning items order b (front ++ back)) where
    abbrev made : Moved
    made = idle (restored_task (topology_of items) b u)

    before : AllByRecursion (λ (m : Moved). AreApart m.task.name u) front
    before = all-before (λ (m : Moved). AreApart m.task.name u) front back apart

    after : AllByRecursion (λ (m : Moved). AreApart u m.task.name) back
    after =
        All-weaker (λ (m : Moved). AreApart m.task.name u) (λ (m : Moved). AreApart u m.task.name) (λ m other same. other (sym same)) back
        (all-after (λ (m : Moved). AreApart m.task.name u) front back apart)

    -- that it is restored is an event of the core
    restore-happens : Happens (top items order sound fits) (restore u) (on_shelf b (front ++ back)) (on_shelf b (front ++ made ∷ back))
    restore-happens =
        restored (top items order sound fits) (means items order sound fits).writes u among (parts_of b (front ++ back)) (parts_of b (front ++ made ∷ back))
        (record { instance = λ v writes other. sym (instance-without front made back v other); held = λ v writes other. refl })
        (λ i is. absurd (none-some i (sym (instance-none (front ++ back) u apart) ∙ is))) refl (instance-here front made back before) refl

    good : Good (top items order sound fits) (d items order sound fits) (on_shelf b (front ++ made ∷ back))
    good =
        restore-keeps (top items order sound fits) (d items order sound fits) (means items order sound fits) u among
        (on_shelf b (front ++ back)) (on_shelf b (front ++ made ∷ back)) run.good restore-happens.1

    -- it is restored
    pub restored-task : AreRunning items order b (front ++ made ∷ back)
    restored-task = record {
      apart = pairs-with AreApart (λ (m : Moved). m.task.name) front made back before after run.apart;
      among = all-with (λ (m : Moved). Contains (tasks_of (subs items)) m.task.name) front made back among run.among;
      tasks = all-with (λ (m : Moved). IsTaskIn (topology_of items) m.task) front made back (record { nodes = refl; inputs = refl }) run.tasks;
      named = all-with IsNamed front made back tt run.named;
      newest = all-with (IsNewest b) front made back refl run.newest;
      good = good;
    }

  -- ---- all that have owners

  -- none that runs has the name of the next one
  next-apart : (front : List Moved) (o : Owned) (os : List Owned) (kept : List (Option Seat)) →
      Pairwise AreApart (map (λ (m : Moved). m.task.name) front ++ o.task ∷ map (λ (x : Owned). x.task) os) → KeepPlaces os kept →
      AllByRecursion (λ (m : Moved). AreApart m.task.name o.task) (front ++ idle_kept kept)
  next-apart front o os kept apart places =
      let names : List TaskName = map (λ (m : Moved). m.task.name) front in
      let others : List TaskName = map (λ (x : Owned). x.task) os in
      let before : AllByRecursion (λ (m : Moved). AreApart m.task.name o.task) front =
      all-mapped (λ (v : TaskName). AreApart v o.task) (λ (m : Moved). m.task.name) front (pairs-before AreApart names o.task others apart) in
      let after : AllByRecursion (λ (x : Owned). AreApart x.task o.task) os =
      All-weaker (λ (x : Owned). AreApart o.task x.task) (λ (x : Owned). AreApart x.task o.task) (λ x other same. other (sym same)) os
      (all-mapped (AreApart o.task) (λ (x : Owned). x.task) os (pairs-after AreApart names o.task others apart)) in
      All-append (λ (m : Moved). AreApart m.task.name o.task) front (idle_kept kept) before (kept-have (λ (v : TaskName). AreApart v o.task) os kept places after)

  -- the first one is restored, and those kept of the others run
  seated-anew : (b : Shelf) (front : List Moved) (o : Owned) (os : List Owned) (kept : List (Option Seat)) → Contains (tasks_of (subs items)) o.task →
      Pairwise AreApart (map (λ (m : Moved). m.task.name) front ++ o.task ∷ map (λ (x : Owned). x.task) os) → KeepPlaces os kept →
      AreRunning items order b (front ++ idle_kept kept) → AreRunning items order b ((front ++ idle (restored_task (topology_of items) b o.task) ∷ []) ++ idle_kept kept)
  seated-anew b front o os kept among apart places run =
      subst (AreRunning items order b) (sym (append_assoc front (idle (restored_task (topology_of items) b o.task) ∷ []) (idle_kept kept)))
      (restored-task b front (idle_kept kept) o.task among (next-apart front o os kept apart places) run)

  -- the names of the running tasks and of those to come, after one of them
  names-on : (front : List Moved) (m : Moved) (u : TaskName) (us : List TaskName) → u ≡ m.task.name → Pairwise AreApart (map (λ (x : Moved). x.task.name) front ++ u ∷ us) →
      Pairwise AreApart (map (λ (x : Moved). x.task.name) (front ++ m ∷ []) ++ us)
  names-on front m u us same apart = subst (Pairwise AreApart) (ap (λ (v : TaskName). map (λ (x : Moved). x.task.name) front ++ v ∷ us) same ∙ sym (names-along front m us)) apart

  -- the tasks at their owners: kept ones stay at their places, and the others are restored
  pub all-seated : (b : Shelf) (front : List Moved) (owners : List Owned) (kept : List (Option Seat)) →
      AllByRecursion (λ (o : Owned). Contains (tasks_of (subs items)) o.task) owners →
      Pairwise AreApart (map (λ (m : Moved). m.task.name) front ++ map (λ (o : Owned). o.task) owners) →
      KeepPlaces owners kept →
      AreRunning items order b (front ++ idle_kept kept) → AreRunning items order b (front ++ map (λ (s : Seat). idle s.task) (seated (topology_of items) b owners kept))
  all-seated b front [] kept among apart places run = subst (λ (ms : List Moved). AreRunning items order b (front ++ ms)) (none-kept kept places) run
  all-seated b front (o ∷ os) [] among apart places run =
      let made : Moved = idle (restored_task (topology_of items) b o.task) in
      subst (AreRunning items order b) (append_assoc front (made ∷ []) (map (λ (s : Seat). idle s.task) (seated (topology_of items) b os [])))
      (all-seated b (front ++ made ∷ []) os [] among.1 (names-on front made o.task (map (λ (x : Owned). x.task) os) refl apart) tt
      (seated-anew b front o os [] among.0 apart tt run))
  all-seated b front (o ∷ os) (None ∷ kept) among apart places run =
      let made : Moved = idle (restored_task (topology_of items) b o.task) in
      subst (AreRunning items order b) (append_assoc front (made ∷ []) (map (λ (s : Seat). idle s.task) (seated (topology_of items) b os kept)))
      (all-seated b (front ++ made ∷ []) os kept among.1 (names-on front made o.task (map (λ (x : Owned). x.task) os) refl apart) places
      (seated-anew b front o os kept among.0 apart places run))
  all-seated b front (o ∷ os) (Some s ∷ kept) among apart places run =
      subst (AreRunning items order b) (append_assoc front (idle s.task ∷ []) (map (λ (x : Seat). idle x.task) (seated (topology_of items) b os kept)))
      (all-seated b (front ++ idle s.task ∷ []) os kept among.1
      (names-on front (idle s.task) o.task (map (λ (x : Owned). x.task) os) (ap (λ (x : Owned). x.task) places.0) apart) places.1
      (subst (AreRunning items order b) (sym (append_assoc front (idle s.task ∷ []) (idle_kept kept))) run))

  -- the events of those that are restored, one after another
  pub all-restore : (records : List SourceRecord) (b : Shelf) (front : List Moved) (owners : List Owned) (kept : List (Option Seat)) →
      AllByRecursion (λ (o : Owned). Contains (tasks_of (subs items)) o.task) owners →
      Pairwise AreApart (map (λ (m : Moved). m.task.name) front ++ map (λ (o : Owned). o.task) owners) →
      KeepPlaces owners kept → AreRunning items order b (front ++ idle_kept kept) →
      AllHappen (top items order sound fits) (told records (seat_notes b owners kept))
      (on_shelf b (front ++ idle_kept kept)) (on_shelf b (front ++ map (λ (s : Seat). idle s.task) (seated (topology_of items) b owners kept)))
  all-restore records b front [] kept among apart places run = ap (λ (ms : List Moved). on_shelf b (front ++ ms)) (none-kept kept places)
  all-restore records b front (o ∷ os) [] among apart places run =
      let made : Moved = idle (restored_task (topology_of items) b o.task) in (
        on_shelf b (front ++ made ∷ []),
        restore-happens b front [] o.task among.0 (next-apart front o os [] apart tt) run,
        happen-along (top items order sound fits) (told records (seat_notes b os [])) b b front made [] (map (λ (s : Seat). idle s.task) (seated (topology_of items) b os []))
            (all-restore records b (front ++ made ∷ []) os [] among.1 (names-on front made o.task (map (λ (x : Owned). x.task) os) refl apart) tt
            (seated-anew b front o os [] among.0 apart tt run)),
      )
  all-restore records b front (o ∷ os) (None ∷ kept) among apart places run =
      let made : Moved = idle (restored_task (topology_of items) b o.task) in (
        on_shelf b (front ++ made ∷ idle_kept kept),
        restore-happens b front (idle_kept kept) o.task among.0 (next-apart front o os kept apart places) run,
        happen-along (top items order sound fits) (told records (seat_notes b os kept)) b b front made (idle_kept kept) (map (λ (s : Seat). idle s.task) (seated (topology_of items) b os kept))
            (all-restore records b (front ++ made ∷ []) os kept among.1 (names-on front made o.task (map (λ (x : Owned). x.task) os) refl apart) places
            (seated-anew b front o os kept among.0 apart places run)),
      )
  all-restore records b front (o ∷ os) (Some s ∷ kept) among apart places run =
      happen-along (top items order sound fits) (told records (seat_notes b os kept)) b b front (idle s.task) (idle_kept kept) (map (λ (x : Seat). idle x.task) (seated (topology_of items) b os kept))
      (all-restore records b (front ++ idle s.task ∷ []) os kept among.1
      (names-on front (idle s.task) o.task (map (λ (x : Owned). x.task) os) (ap (λ (x : Owned). x.task) places.0) apart) places.1
      (subst (AreRunning items order b) (sym (append_assoc front (idle s.task ∷ []) (idle_kept kept))) run))

  -- each task of the program can be restored, whichever tasks run
  pub can-restore : (b : Shelf) (running : List Moved) → AreRunning items order b running → (o : Owned) → Contains (tasks_of (subs items)) o.task →
      CanRestore (topology_of items) (top items order sound fits).routes b o
  can-restore b running run o among = record {
    writer = (means items order sound fits).writes o.task among;
    sub = slice_get_within (subs items) o.task.sub (sub-at items sound o.task among).0 (sub-got items sound o.task among);
    operators = task-operators items sound o.task;
    loadable = (run.good.good_tasks o.task among).logs_load;
  }
