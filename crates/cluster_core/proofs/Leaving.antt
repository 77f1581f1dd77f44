-- Tasks that leave their owners keep a good state.
use Rattle.std.proofs.Common.{◌≡◌, ◌∙◌, ap, refl, sym, subst, suc, Bool, true, false, List, [], ◌∷◌, ◌++◌, map, length, drop, get_or, append_assoc, arith}
use Rattle.std.proofs.lemmas.List.Elements.{All-nil}
use Rattle.std.specs.Prelude.{Contains, if◌then◌else◌}
use Rattle.std.specs.List.{AllByRecursion}
use Rattle.ksql_place.specs.declared.change.SourceRecord.{SourceRecord}
use Rattle.ksql_program.specs.Sound.{IsSound}
use Rattle.ksql_program.specs.declared.program.Item.{Item}
use Rattle.meaning_laws.proofs.Lists.{All-both, All-weaker, Pairwise}
use Rattle.topology.specs.Tasks.{tasks_of}
use Rattle.topology.specs.Topologies.{subs, topology_of}
use Rattle.core_state.specs.Events.{Happens, leave}
use Rattle.core_state.specs.Good.{Good}
use Rattle.core_state.specs.Law.{AllHappen}
use Rattle.core_state.specs.Routes.{Routes}
use Rattle.core_state.specs.Shelf.{Shelf, ShelfRaises}
use Rattle.core_state.specs.State.{Proposes}
use Rattle.core_state.specs.declared.journal.JournalEntry.{JournalEntry}
use Rattle.core_state.proofs.Instances.{leave-keeps}
use Rattle.core_state.proofs.Lifting.{left}
use Rattle.task_core.specs.Tasks.{TaskView}
use Rattle.task_core.specs.declared.task.Moved.{Moved}
use Rattle.feed_laws.specs.Fitting.{Fits}
use Rattle.cluster_laws.specs.Tasks.{IsTaskIn}
use Rattle.cluster_laws.specs.Moves.{AllLeave}
use Rattle.cluster_laws.specs.Told.{committing, told}
use Rattle.cluster_laws.specs.declared.seats.Seat.{Seat}
use Rattle.cluster_laws.proofs.Lists.{all-mapped, all-middle, all-without, pairs-without}
use Rattle.cluster_laws.proofs.Names.{AreApart}
use Rattle.cluster_laws.proofs.Running.{instance-none, instance-without, on_shelf, parts_of}
use Rattle.cluster_laws.proofs.Telling.{happen-along}
use Rattle.cluster_core.proofs.Tasks.{AreRunning, IsNamed, IsNewest, d, is-task, means, top}

-- the running tasks that remain once those that don't stay are gone
abbrev pub staying_of : List Bool → List Moved → List Moved
staying_of (stays ∷ more) (m ∷ ms) = if stays then m ∷ staying_of more ms else staying_of more ms
staying_of stays ms = []

-- no other task has the name of one
others-apart : (front : List Moved) (m : Moved) (back : List Moved) → Pairwise AreApart (map (λ (x : Moved). x.task.name) (front ++ m ∷ back)) →
    AllByRecursion (λ (x : Moved). AreApart x.task.name m.task.name) (front ++ back)
others-apart [] m back pairs =
    All-weaker (λ (x : Moved). AreApart m.task.name x.task.name) (λ (x : Moved). AreApart x.task.name m.task.name) (λ x apart same. apart (sym same)) back
    (all-mapped (AreApart m.task.name) (λ (x : Moved). x.task.name) back pairs.0)
others-apart (x ∷ front) m back pairs = (
  all-middle (λ (y : Moved). AreApart x.task.name y.task.name) front m back (all-mapped (AreApart x.task.name) (λ (y : Moved). y.task.name) (front ++ m ∷ back) pairs.0),
  others-apart front m back pairs.1,
)

-- no journal entry of tasks that leave is a commit
pub leave-committing : (r : Routes) (stays : List Bool) (seats : List Seat) (b c : Shelf) (notes : List JournalEntry) → AllLeave r stays seats b notes c → committing notes ≡ []
leave-committing r [] seats b c notes does = ap committing does.1
leave-committing r (stays ∷ more) [] b c notes does = ap committing does.1
leave-committing r (true ∷ more) (s ∷ ss) b c notes does =
    ap committing (does.5 ∙ ap (λ (ns : List JournalEntry). ns ++ does.2) does.3.1) ∙ leave-committing r more ss does.0 c does.2 does.4
leave-committing r (false ∷ more) (s ∷ ss) b c notes does = ap committing (does.5 ∙ ap (λ (ns : List JournalEntry). ns ++ does.2) does.3.1)

module _ (items : List Item) (order : List SourceRecord) (sound : IsSound items) (fits : Fits items order) where
  -- ---- one of the tasks

  module _ (b c : Shelf) (front : List Moved) (m : Moved) (back : List Moved) (raises : ShelfRaises (top items order sound fits).routes m.task.name b c)
      (run : AreRunning items order b (front ++ m ∷ back)) where
    rest-apart : AllByRecursion (λ (x : Moved). AreApart x.task.name m.task.name) (front ++ back)
    rest-apart = others-apart front m back run.apart

    -- that it leaves is an event of the core
    leave-happens : Happens (top items order sound fits) (leave m.task.name) (on_shelf b (front ++ m ∷ back)) (on_shelf c (front ++ back))
    leave-happens =
        let is = is-task items order sound fits b front m back run in
        left (top items order sound fits) (means items order sound fits).writes m.task.name is (parts_of b (front ++ m ∷ back)) (parts_of c (front ++ back))
        (record { instance = λ u writes other. instance-without front m back u other; held = λ u writes other. refl })
        [] (All-nil (Proposes ((on_shelf b (front ++ m ∷ back)).tasks m.task.name))) raises
        (instance-none (front ++ back) m.task.name rest-apart) refl

    good : Good (top items order sound fits) (d items order sound fits) (on_shelf c (front ++ back))
    good =
        leave-keeps (top items order sound fits) (d items order sound fits) (means items order sound fits) m.task.name (is-task items order sound fits b front m back run)
        (on_shelf b (front ++ m ∷ back)) (on_shelf c (front ++ back)) run.good leave-happens.1

    still-newest : (x : Moved) → (Contains (tasks_of (subs items)) x.task.name × IsNewest b x) × AreApart x.task.name m.task.name → IsNewest c x
    still-newest x has = has.0.1 ∙ sym (raises.newest_else x.task.name ((means items order sound fits).writes x.task.name has.0.0) has.1)

    rest-newest : AllByRecursion (IsNewest c) (front ++ back)
    rest-newest =
        let among = all-without (λ (x : Moved). Contains (tasks_of (subs items)) x.task.name) front m back run.among in
        let newest = all-without (IsNewest b) front m back run.newest in
        All-weaker (λ (x : Moved). (Contains (tasks_of (subs items)) x.task.name × IsNewest b x) × AreApart x.task.name m.task.name) (IsNewest c) still-newest (front ++ back)
        (All-both (λ (x : Moved). Contains (tasks_of (subs items)) x.task.name × IsNewest b x) (λ (x : Moved). AreApart x.task.name m.task.name) (front ++ back)
        (All-both (λ (x : Moved). Contains (tasks_of (subs items)) x.task.name) (IsNewest b) (front ++ back) among newest) rest-apart)

    -- it leaves its owner
    pub left-task : AreRunning items order c (front ++ back)
    left-task = record {
      apart = pairs-without AreApart (λ (x : Moved). x.task.name) front m back run.apart;
      among = all-without (λ (x : Moved). Contains (tasks_of (subs items)) x.task.name) front m back run.among;
      tasks = all-without (λ (x : Moved). IsTaskIn (topology_of items) x.task) front m back run.tasks;
      named = all-without IsNamed front m back run.named;
      newest = rest-newest;
      good = good;
    }

  -- ---- all that don't stay

  pub all-left : (front : List Moved) (ms : List Moved) (seats : List Seat) (stays : List Bool) (b c : Shelf) (notes : List JournalEntry) →
      map (λ (m : Moved). m.task) ms ≡ map (λ (s : Seat). s.task) seats → length stays ≡ length seats →
      AllLeave (top items order sound fits).routes stays seats b notes c →
      AreRunning items order b (front ++ ms) → AreRunning items order c (front ++ staying_of stays ms)
  all-left front [] [] [] b c notes same long does run = subst (λ (x : Shelf). AreRunning items order x (front ++ [])) (sym does.0) run
  all-left front [] [] (stays ∷ more) b c notes same long does run = absurd (omega (arith, long))
  all-left front [] (s ∷ ss) stays b c notes same long does run =
      absurd (let short : 0 ≡ suc (length (map (λ (x : Seat). x.task) ss)) = ap length same in omega (arith, short))
  all-left front (m ∷ ms) [] stays b c notes same long does run =
      absurd (let short : suc (length (map (λ (x : Moved). x.task) ms)) ≡ 0 = ap length same in omega (arith, short))
  all-left front (m ∷ ms) (s ∷ ss) [] b c notes same long does run = absurd (omega (arith, long))
  all-left front (m ∷ ms) (s ∷ ss) (true ∷ more) b c notes same long does run =
      let now : AreRunning items order does.0 (front ++ m ∷ ms) = subst (λ (x : Shelf). AreRunning items order x (front ++ m ∷ ms)) (sym does.3.0) run in
      subst (AreRunning items order c) (append_assoc front (m ∷ []) (staying_of more ms))
      (all-left (front ++ m ∷ []) ms ss more does.0 c does.2 (ap (drop 1) same) (omega (arith, long)) does.4
      (subst (AreRunning items order does.0) (sym (append_assoc front (m ∷ []) ms)) now))
  all-left front (m ∷ ms) (s ∷ ss) (false ∷ more) b c notes same long does run =
      let task : m.task ≡ s.task = ap (λ (ts : List TaskView). get_or ts 0 m.task) same in
      let raises : ShelfRaises (top items order sound fits).routes m.task.name b does.0 =
      subst (λ (t : TaskView). ShelfRaises (top items order sound fits).routes t.name b does.0) (sym task) does.3.0 in
      all-left front ms ss more does.0 c does.2 (ap (drop 1) same) (omega (arith, long)) does.4 (left-task b does.0 front m ms raises run)

  -- the events of those that leave, one after another
  pub all-leave : (records : List SourceRecord) (front : List Moved) (ms : List Moved) (seats : List Seat) (stays : List Bool) (b c : Shelf) (notes : List JournalEntry) →
      map (λ (m : Moved). m.task) ms ≡ map (λ (s : Seat). s.task) seats → length stays ≡ length seats →
      AllLeave (top items order sound fits).routes stays seats b notes c → AreRunning items order b (front ++ ms) →
      AllHappen (top items order sound fits) (told records notes) (on_shelf b (front ++ ms)) (on_shelf c (front ++ staying_of stays ms))
  all-leave records front [] [] [] b c notes same long does run =
      subst (λ (ns : List JournalEntry). AllHappen (top items order sound fits) (told records ns) (on_shelf b (front ++ [])) (on_shelf c (front ++ []))) (sym does.1)
      (ap (λ (x : Shelf). on_shelf x (front ++ [])) (sym does.0))
  all-leave records front [] [] (stays ∷ more) b c notes same long does run = absurd (omega (arith, long))
  all-leave records front [] (s ∷ ss) stays b c notes same long does run =
      absurd (let short : 0 ≡ suc (length (map (λ (x : Seat). x.task) ss)) = ap length same in omega (arith, short))
  all-leave records front (m ∷ ms) [] stays b c notes same long does run =
      absurd (let short : suc (length (map (λ (x : Moved). x.task) ms)) ≡ 0 = ap length same in omega (arith, short))
  all-leave records front (m ∷ ms) (s ∷ ss) [] b c notes same long does run = absurd (omega (arith, long))
  all-leave records front (m ∷ ms) (s ∷ ss) (true ∷ more) b c notes same long does run =
      let now : AreRunning items order does.0 (front ++ m ∷ ms) = subst (λ (x : Shelf). AreRunning items order x (front ++ m ∷ ms)) (sym does.3.0) run in
      subst (λ (x : Shelf). AllHappen (top items order sound fits) (told records notes) (on_shelf x (front ++ m ∷ ms)) (on_shelf c (front ++ m ∷ staying_of more ms))) does.3.0
      (subst (λ (ns : List JournalEntry). AllHappen (top items order sound fits) (told records ns) (on_shelf does.0 (front ++ m ∷ ms)) (on_shelf c (front ++ m ∷ staying_of more ms)))
      (sym (does.5 ∙ ap (λ (ns : List JournalEntry). ns ++ does.2) does.3.1))
      (happen-along (top items order sound fits) (told records does.2) does.0 c front m ms (staying_of more ms)
      (all-leave records (front ++ m ∷ []) ms ss more does.0 c does.2 (ap (drop 1) same) (omega (arith, long)) does.4
      (subst (AreRunning items order does.0) (sym (append_assoc front (m ∷ []) ms)) now))))
  all-leave records front (m ∷ ms) (s ∷ ss) (false ∷ more) b c notes same long does run =
      let task : m.task ≡ s.task = ap (λ (ts : List TaskView). get_or ts 0 m.task) same in
      let raises : ShelfRaises (top items order sound fits).routes m.task.name b does.0 =
      subst (λ (t : TaskView). ShelfRaises (top items order sound fits).routes t.name b does.0) (sym task) does.3.0 in
      subst (λ (ns : List JournalEntry). AllHappen (top items order sound fits) (told records ns) (on_shelf b (front ++ m ∷ ms)) (on_shelf c (front ++ staying_of more ms)))
      (sym (does.5 ∙ ap (λ (ns : List JournalEntry). ns ++ does.2) does.3.1)) (
        on_shelf does.0 (front ++ ms),
        subst (λ (t : TaskView). Happens (top items order sound fits) (leave t.name) (on_shelf b (front ++ m ∷ ms)) (on_shelf does.0 (front ++ ms))) task (leave-happens b does.0 front m ms raises run),
        all-leave records front ms ss more does.0 c does.2 (ap (drop 1) same) (omega (arith, long)) does.4 (left-task b does.0 front m ms raises run),
      )
