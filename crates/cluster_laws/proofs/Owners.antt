-- Which worker owns which task, and which tasks stay at their owners as the owners change.
use Rattle.std.proofs.Common.{◌≡◌, ◌∙◌, ap, ap₂, refl, sym, subst, ℕ, inl, inr, List, [], ◌∷◌, length, map, Bool, true, false, true≢false, arith}
use Rattle.std.proofs.Math.Bool.{not-not}
use Rattle.std.proofs.lemmas.Simd.{map-map}
use Rattle.std.specs.Prelude.{◌&&◌, ◌==◌, not, if◌then◌else◌, IsTrue, Option, Some, None}
use Rattle.std.specs.List.{AllByRecursion, AllZip, list_all}
use Rattle.std.specs.List.Sorted.{IsStrictlyIncreasing}
use Rattle.std.specs.Option.{option_or}
use Rattle.ksql_types.specs.declared.relation.TaskName.{TaskName}
use Rattle.ksql_program.specs.declared.program.Item.{Item}
use Rattle.meaning_laws.proofs.Lists.{All-map, All-weaker, Pairwise}
use Rattle.topology.specs.Tasks.{tasks_of}
use Rattle.topology.specs.Topologies.{topology_of}
use Rattle.assignor.specs.Rule.{assignment, is_live, is_with, owner_of}
use Rattle.assignor.specs.declared.assignment.Owned.{Owned}
use Rattle.assignor.proofs.Counts.{and_parts, bool_cases, same_from_test, test_of_same}
use Rattle.assignor.proofs.Whole.{is_whole}
use Rattle.task_core.specs.declared.task.Moved.{Moved}
use Rattle.cluster_laws.specs.Tasks.{IsIdleAt, IsOwned, KeepPlaces, idle}
use Rattle.cluster_laws.specs.Moves.{are_at, kept_of, owned_of}
use Rattle.cluster_laws.specs.Progress.{has_left, is_task}
use Rattle.cluster_laws.specs.declared.seats.Seat.{Seat}
use Rattle.cluster_laws.proofs.Lists.{all-mapped}
use Rattle.cluster_laws.proofs.Names.{AreApart, tasks-apart}

-- ---- whether two names are of one task

pub task-itself : (u : TaskName) → is_task u u ≡ true
task-itself u = ap₂ (λ (a b : Bool). a && b) (test_of_same u.sub) (test_of_same u.part)

pub task-same : (u v : TaskName) → is_task u v ≡ true → u ≡ v
task-same u v is =
    let tests = and_parts (u.sub == v.sub) (u.part == v.part) is in
    let sub = same_from_test u.sub v.sub tests.0 in
    let part = same_from_test u.part v.part tests.1 in
    λ i. record { sub = sub i; part = part i }

pub task-other : (u v : TaskName) → AreApart u v → is_task u v ≡ false
task-other u v apart = elim (bool_cases (is_task u v)) [
  | inl same ↦ absurd (apart (task-same u v same))
  | inr other ↦ other
]

-- ---- the owner of a task

-- a task that isn't there has no owner
pub owned-none : (owners : List Owned) (u : TaskName) → AllByRecursion (λ (o : Owned). AreApart o.task u) owners → owner_of owners u ≡ None
owned-none [] u apart = refl
owned-none (o ∷ os) u apart =
    ap₂ (λ (rest : Option ℕ) (b : Bool). option_or rest (if b then Some o.worker else None)) (owned-none os u apart.1) (task-other o.task u apart.0)

-- if no two are of one task, each task has the owner in its pair
pub each-owned : (owners : List Owned) → Pairwise AreApart (map (λ (o : Owned). o.task) owners) → AllByRecursion (λ (o : Owned). owner_of owners o.task ≡ Some o.worker) owners
each-owned [] pairs = tt
each-owned (o ∷ os) pairs =
    let later = all-mapped (AreApart o.task) (λ (x : Owned). x.task) os pairs.0 in
    let none : owner_of os o.task ≡ None =
    owned-none os o.task (All-weaker (λ (x : Owned). AreApart o.task x.task) (λ (x : Owned). AreApart x.task o.task) (λ x apart same. apart (sym same)) os later) in (
      ap₂ (λ (rest : Option ℕ) (b : Bool). option_or rest (if b then Some o.worker else None)) none (task-itself o.task),
      All-weaker (λ (x : Owned). owner_of os x.task ≡ Some x.worker) (λ (x : Owned). owner_of (o ∷ os) x.task ≡ Some x.worker)
          (λ x is. ap (λ (rest : Option ℕ). option_or rest (if is_task o.task x.task then Some o.worker else None)) is) os (each-owned os pairs.1),
    )

-- ---- the same of tasks at their owners

pub owner-none : (seats : List Seat) (u : TaskName) → AllByRecursion (λ (x : Seat). AreApart x.task.name u) seats → owner_of (map owned_of seats) u ≡ None
owner-none seats u apart = owned-none (map owned_of seats) u (All-map (λ (o : Owned). AreApart o.task u) owned_of seats apart)

pub each-owner : (seats : List Seat) → Pairwise AreApart (map (λ (x : Seat). x.task.name) seats) →
    AllByRecursion (λ (s : Seat). owner_of (map owned_of seats) s.task.name ≡ Some s.worker) seats
each-owner seats pairs =
    let names : map (λ (o : Owned). o.task) (map owned_of seats) ≡ map (λ (x : Seat). x.task.name) seats = map-map (λ (o : Owned). o.task) owned_of seats in
    all-mapped (λ (o : Owned). owner_of (map owned_of seats) o.task ≡ Some o.worker) owned_of seats
    (each-owned (map owned_of seats) (subst (Pairwise AreApart) (sym names) pairs))

-- if all owners are live, so is that of a task
live-owner : (live : List ℕ) (owners : List Owned) (u : TaskName) (w : ℕ) → AllByRecursion (λ (o : Owned). IsTrue (is_live live o.worker)) owners → owner_of owners u ≡ Some w →
    IsTrue (is_live live w)
live-owner live [] u w all is = absurd (cc)
live-owner live (o ∷ os) u w all is = by (owner_of os u) refl (is_task o.task u) is (live-owner live os u w all.1)
  where
    by : (rest : Option ℕ) → owner_of os u ≡ rest → (b : Bool) → option_or rest (if b then Some o.worker else None) ≡ Some w → (owner_of os u ≡ Some w → IsTrue (is_live live w)) →
        IsTrue (is_live live w)
    by (Some v) found b is ih = ih (found ∙ is)
    by None found true is ih = let same : o.worker ≡ w = cc in subst (λ (v : ℕ). IsTrue (is_live live v)) same all.0
    by None found false is ih = absurd (cc)

-- ---- tasks that keep their owners

with-it : (w : ℕ) (owner : Option ℕ) → is_with w owner ≡ true → owner ≡ Some w
with-it w None is = absurd (true≢false (sym is))
with-it w (Some v) is = ap (λ (n : ℕ). Some n) (same_from_test v w is)

-- a task with an owner stays where it is with this owner
pub stays-with : (before now : List Owned) (u : TaskName) (w : ℕ) (owner : Option ℕ) → owner_of before u ≡ Some w → owner_of now u ≡ owner → not (has_left before now u) ≡ is_with w owner
stays-with before now u w owner had has = rw (had, has) (not-not (is_with w owner))

-- a task that has an owner and doesn't leave it has it then
pub kept-owner : (before now : List Owned) (u : TaskName) (w : ℕ) → owner_of before u ≡ Some w → has_left before now u ≡ false → owner_of now u ≡ Some w
kept-owner before now u w had stays =
    with-it w (owner_of now u) (sym (stays-with before now u w (owner_of now u) had refl) ∙ ap (λ (b : Bool). not b) stays)

-- ---- an assignment

all-true : {A : Type 0} (p : A → Bool) (xs : List A) → list_all p xs ≡ true → AllByRecursion (λ x. IsTrue (p x)) xs
all-true p [] all = tt
all-true p (x ∷ xs) all = let parts = and_parts (p x) (list_all p xs) all in (parts.0, all-true p xs parts.1)

-- all tasks have owners, or none has
pub assignment-owned : (items : List Item) (before : List Owned) (live : List ℕ) → IsStrictlyIncreasing live →
    IsOwned (topology_of items) (assignment before live (tasks_of (topology_of items).subs))
assignment-owned items before [] rises = inl refl
assignment-owned items before (w ∷ ws) rises = inr (is_whole before (w ∷ ws) (tasks_of (topology_of items).subs) (λ none. absurd (cc)) rises).0

-- and each owner is live
pub assignment-live : (items : List Item) (before : List Owned) (live : List ℕ) → IsStrictlyIncreasing live →
    AllByRecursion (λ (o : Owned). IsTrue (is_live live o.worker)) (assignment before live (tasks_of (topology_of items).subs))
assignment-live items before [] rises = tt
assignment-live items before (w ∷ ws) rises =
    all-true (λ (o : Owned). is_live (w ∷ ws) o.worker) (assignment before (w ∷ ws) (tasks_of (topology_of items).subs))
    (is_whole before (w ∷ ws) (tasks_of (topology_of items).subs) (λ none. absurd (cc)) rises).1

-- ---- which tasks stay, place by place

-- with no owners none stays
stay-none : (before : List Owned) (seats : List Seat) → AllByRecursion (λ (s : Seat). owner_of before s.task.name ≡ Some s.worker) seats →
    are_at [] seats ≡ map (λ (s : Seat). not (has_left before [] s.task.name)) seats
stay-none before [] had = refl
stay-none before (s ∷ ss) had = ap₂ (λ (b : Bool) (bs : List Bool). b ∷ bs) (sym (stays-with before [] s.task.name s.worker None had.0 refl)) (stay-none before ss had.1)

stay-same : (before now : List Owned) (seats : List Seat) (owners : List Owned) → AllByRecursion (λ (s : Seat). owner_of before s.task.name ≡ Some s.worker) seats →
    AllByRecursion (λ (o : Owned). owner_of now o.task ≡ Some o.worker) owners → map (λ (o : Owned). o.task) owners ≡ map (λ (s : Seat). s.task.name) seats →
    are_at owners seats ≡ map (λ (s : Seat). not (has_left before now s.task.name)) seats
stay-same before now [] [] had has same = refl
stay-same before now [] (o ∷ os) had has same = absurd (cc)
stay-same before now (s ∷ ss) [] had has same = absurd (cc)
stay-same before now (s ∷ ss) (o ∷ os) had has same =
    let first : o.task ≡ s.task.name = cc in
    let rest : map (λ (x : Owned). x.task) os ≡ map (λ (x : Seat). x.task.name) ss = cc in
    let owner : owner_of now s.task.name ≡ Some o.worker = ap (owner_of now) (sym first) ∙ has.0 in
    ap₂ (λ (b : Bool) (bs : List Bool). b ∷ bs) (sym (stays-with before now s.task.name s.worker (Some o.worker) had.0 owner)) (stay-same before now ss os had.1 has.1 rest)

places-none : (seats : List Seat) → KeepPlaces [] (kept_of (are_at [] seats) seats)
places-none [] = tt
places-none (s ∷ ss) = places-none ss

places-same : (owners : List Owned) (seats : List Seat) → map (λ (o : Owned). o.task) owners ≡ map (λ (s : Seat). s.task.name) seats → KeepPlaces owners (kept_of (are_at owners seats) seats)
places-same owners [] same = tt
places-same [] (s ∷ ss) same = absurd (cc)
places-same (o ∷ os) (s ∷ ss) same =
    let first : o.task ≡ s.task.name = cc in
    let rest : map (λ (x : Owned). x.task) os ≡ map (λ (x : Seat). x.task.name) ss = cc in
    by first (o.worker == s.worker) refl (places-same os ss rest)
  where
    by : o.task ≡ s.task.name → (b : Bool) → (o.worker == s.worker) ≡ b → KeepPlaces os (kept_of (are_at os ss) ss) →
        KeepPlaces (o ∷ os) ((if b then Some s else None) ∷ kept_of (are_at os ss) ss)
    by name true is ih = let worker = same_from_test o.worker s.worker is in (λ i. record { task = name i; worker = worker i }, ih)
    by name false is ih = ih

-- each task keeps its owner, whoever leaves
pub own-places : (seats : List Seat) (stays : List Bool) → length stays ≡ length seats → KeepPlaces (map owned_of seats) (kept_of stays seats)
own-places [] [] same = tt
own-places [] (b ∷ bs) same = tt
own-places (s ∷ ss) [] same = tt
own-places (s ∷ ss) (true ∷ bs) same = (refl, own-places ss bs (omega (arith, same)))
own-places (s ∷ ss) (false ∷ bs) same = own-places ss bs (omega (arith, same))

idle-each : (live : List ℕ) (before owners : List Owned) (seats : List Seat) (ms : List Moved) → AllByRecursion (λ (s : Seat). owner_of before s.task.name ≡ Some s.worker) seats →
    AllByRecursion (λ (o : Owned). IsTrue (is_live live o.worker)) owners → AllZip (IsIdleAt live) seats ms →
    AllZip (λ (s : Seat) (m : Moved). has_left before owners s.task.name ≡ false → m ≡ idle s.task) seats ms
idle-each live before owners [] [] had all idles = tt
idle-each live before owners [] (m ∷ ms) had all idles = absurd idles
idle-each live before owners (s ∷ ss) [] had all idles = absurd idles
idle-each live before owners (s ∷ ss) (m ∷ ms) had all idles = (
  λ stays. idles.0 (live-owner live owners s.task.name s.worker all (kept-owner before owners s.task.name s.worker had.0 stays)),
  idle-each live before owners ss ms had.1 all idles.1,
)

-- ---- who stays as owners change

module _ (items : List Item) where
  -- no two are of one task
  pub owned-apart : (owners : List Owned) → IsOwned (topology_of items) owners → Pairwise AreApart (map (λ (o : Owned). o.task) owners)
  owned-apart owners (inl none) = subst (λ (os : List Owned). Pairwise AreApart (map (λ (o : Owned). o.task) os)) (sym none) tt
  owned-apart owners (inr all) = subst (Pairwise AreApart) (sym all) (tasks-apart items)

  pub seats-apart : (seats : List Seat) → IsOwned (topology_of items) (map owned_of seats) → Pairwise AreApart (map (λ (s : Seat). s.task.name) seats)
  seats-apart seats owned = subst (Pairwise AreApart) (map-map (λ (o : Owned). o.task) owned_of seats) (owned-apart (map owned_of seats) owned)

  pub had-owners : (seats : List Seat) → IsOwned (topology_of items) (map owned_of seats) → AllByRecursion (λ (s : Seat). owner_of (map owned_of seats) s.task.name ≡ Some s.worker) seats
  had-owners seats owned = each-owner seats (seats-apart seats owned)

  -- if tasks have owners, before and after, the same tasks are at the same places
  pub same-tasks : (seats : List Seat) (owners : List Owned) → map (λ (o : Owned). o.task) (map owned_of seats) ≡ tasks_of (topology_of items).subs →
      map (λ (o : Owned). o.task) owners ≡ tasks_of (topology_of items).subs → map (λ (o : Owned). o.task) owners ≡ map (λ (s : Seat). s.task.name) seats
  same-tasks seats owners before now = now ∙ sym before ∙ map-map (λ (o : Owned). o.task) owned_of seats

  -- the tasks that stay are those that don't leave
  pub staying-same : (seats : List Seat) (owners : List Owned) → IsOwned (topology_of items) (map owned_of seats) → IsOwned (topology_of items) owners →
      are_at owners seats ≡ map (λ (s : Seat). not (has_left (map owned_of seats) owners s.task.name)) seats
  staying-same [] owners before now = refl
  staying-same (s ∷ ss) owners (inl none) now = absurd (cc)
  staying-same (s ∷ ss) owners (inr all) (inl none) =
      subst (λ (os : List Owned). are_at os (s ∷ ss) ≡ map (λ (x : Seat). not (has_left (map owned_of (s ∷ ss)) os x.task.name)) (s ∷ ss)) (sym none)
      (stay-none (map owned_of (s ∷ ss)) (s ∷ ss) (had-owners (s ∷ ss) (inr all)))
  staying-same (s ∷ ss) owners (inr all) (inr now) =
      stay-same (map owned_of (s ∷ ss)) owners (s ∷ ss) owners (had-owners (s ∷ ss) (inr all)) (each-owned owners (owned-apart owners (inr now)))
      (same-tasks (s ∷ ss) owners all now)

  -- and they are at their places
  pub staying-places : (seats : List Seat) (owners : List Owned) → IsOwned (topology_of items) (map owned_of seats) → IsOwned (topology_of items) owners →
      KeepPlaces owners (kept_of (are_at owners seats) seats)
  staying-places [] owners before now = tt
  staying-places (s ∷ ss) owners (inl none) now = absurd (cc)
  staying-places (s ∷ ss) owners (inr all) (inl none) =
      subst (λ (os : List Owned). KeepPlaces os (kept_of (are_at os (s ∷ ss)) (s ∷ ss))) (sym none) (places-none (s ∷ ss))
  staying-places (s ∷ ss) owners (inr all) (inr now) = places-same owners (s ∷ ss) (same-tasks (s ∷ ss) owners all now)

  -- a task that stays has a live owner: so it waits with no proposal
  pub staying-idle : (live : List ℕ) (seats : List Seat) (ms : List Moved) (owners : List Owned) → IsOwned (topology_of items) (map owned_of seats) → IsOwned (topology_of items) owners →
      AllByRecursion (λ (o : Owned). IsTrue (is_live live o.worker)) owners → AllZip (IsIdleAt live) seats ms →
      AllZip (λ (s : Seat) (m : Moved). has_left (map owned_of seats) owners s.task.name ≡ false → m ≡ idle s.task) seats ms
  staying-idle live seats ms owners before now all idles = idle-each live (map owned_of seats) owners seats ms (had-owners seats before) all idles
