-- What tasks that leave their owners, and tasks that are restored, do to the numbers of a run.
use Rattle.std.proofs.Common.{◌≡◌, ◌∙◌, ap, ap₂, refl, sym, subst, ℕ, ◌+◌, inl, inr, List, [], ◌∷◌, ◌++◌, map, Bool, true, false, true≢false}
use Rattle.std.specs.Prelude.{◌&&◌, not, if◌then◌else◌, Option, Some, None, flat_map, is_some}
use Rattle.std.specs.List.{AllByRecursion}
use Rattle.std.specs.Option.{option_or}
use Rattle.ksql_types.specs.declared.relation.TaskName.{TaskName}
use Rattle.ksql_program.specs.declared.program.Item.{Item}
use Rattle.meaning_laws.proofs.Lists.{All-both, All-map, All-weaker, Pairwise}
use Rattle.topology.specs.Topologies.{topology_of}
use Rattle.topology.specs.declared.topology.Topology.{Topology}
use Rattle.core_state.specs.Routes.{IsWriter, Routes}
use Rattle.core_state.specs.Shelf.{Shelf}
use Rattle.core_state.specs.declared.journal.JournalEntry.{JournalEntry}
use Rattle.core_state.specs.declared.journal.JournalEntry.TheVariants as entry
use Rattle.assignor.specs.Rule.{owner_of}
use Rattle.assignor.specs.declared.assignment.Owned.{Owned}
use Rattle.cluster_laws.specs.Tasks.{IsOwned, KeepPlaces}
use Rattle.cluster_laws.specs.Moves.{AllLeave, LeavesOrStays, kept_of, note_anew, owned_of, seat_notes, seated}
use Rattle.cluster_laws.specs.Progress.{is_owned, is_task}
use Rattle.cluster_laws.specs.declared.seats.Seat.{Seat}
use Rattle.cluster_laws.proofs.Lists.{all-mapped}
use Rattle.cluster_laws.proofs.Names.{AreApart}
use Rattle.cluster_laws.proofs.Owners.{each-owner, had-owners, owner-none, same-tasks, task-itself, task-other, task-same}

-- ---- one task that leaves or stays

one-fed : (r : Routes) (stays : Bool) (t : TaskName) (b c : Shelf) (notes : List JournalEntry) → LeavesOrStays r stays t b notes c → c.fed ≡ b.fed
one-fed r true t b c notes left = ap (λ (x : Shelf). x.fed) left.0
one-fed r false t b c notes left = left.0.fed

one-done : (r : Routes) (stays : Bool) (t : TaskName) (b c : Shelf) (notes : List JournalEntry) → LeavesOrStays r stays t b notes c → (u : TaskName) → IsWriter r u → c.done u ≡ b.done u
one-done r true t b c notes left u writes = ap (λ (x : Shelf). x.done u) left.0
one-done r false t b c notes left u writes = left.0.done u writes

-- it has the next generation if it leaves
one-newest : (r : Routes) (stays : Bool) (t : TaskName) (b c : Shelf) (notes : List JournalEntry) → LeavesOrStays r stays t b notes c →
    c.newest t ≡ (if stays then b.newest t else b.newest t + 1)
one-newest r true t b c notes left = ap (λ (x : Shelf). x.newest t) left.0
one-newest r false t b c notes left = left.0.newest

-- and no other task has
one-else : (r : Routes) (stays : Bool) (t : TaskName) (b c : Shelf) (notes : List JournalEntry) → LeavesOrStays r stays t b notes c →
    (u : TaskName) → IsWriter r u → AreApart u t → c.newest u ≡ b.newest u
one-else r true t b c notes left u writes apart = ap (λ (x : Shelf). x.newest u) left.0
one-else r false t b c notes left u writes apart = left.0.newest_else u writes apart

one-notes : (r : Routes) (leaves : Bool) (t : TaskName) (b c : Shelf) (notes : List JournalEntry) → LeavesOrStays r (not leaves) t b notes c →
    notes ≡ (if leaves then entry.Left t (b.newest t + 1) ∷ [] else [])
one-notes r false t b c notes left = left.1
one-notes r true t b c notes left = left.1 ∙ ap (λ (n : ℕ). entry.Left t n ∷ []) left.0.newest

-- ---- all of them

-- nothing is fed or done
pub left-fed : (r : Routes) (stays : List Bool) (seats : List Seat) (b c : Shelf) (notes : List JournalEntry) → AllLeave r stays seats b notes c → c.fed ≡ b.fed
left-fed r [] seats b c notes left = ap (λ (x : Shelf). x.fed) left.0
left-fed r (stays ∷ more) [] b c notes left = ap (λ (x : Shelf). x.fed) left.0
left-fed r (stays ∷ more) (s ∷ ss) b c notes left =
    left-fed r more ss left.0 c left.2 left.4 ∙ one-fed r stays s.task.name b left.0 left.1 left.3

pub left-done : (r : Routes) (stays : List Bool) (seats : List Seat) (b c : Shelf) (notes : List JournalEntry) → AllLeave r stays seats b notes c →
    (u : TaskName) → IsWriter r u → c.done u ≡ b.done u
left-done r [] seats b c notes left u writes = ap (λ (x : Shelf). x.done u) left.0
left-done r (stays ∷ more) [] b c notes left u writes = ap (λ (x : Shelf). x.done u) left.0
left-done r (stays ∷ more) (s ∷ ss) b c notes left u writes =
    left-done r more ss left.0 c left.2 left.4 u writes ∙ one-done r stays s.task.name b left.0 left.1 left.3 u writes

-- ---- generations

-- whether a task is one of those at their owners
abbrev is_seated : List Seat → TaskName → Bool
is_seated seats u = is_owned (map owned_of seats) u

seated-first : (s : Seat) (ss : List Seat) (rest : Option ℕ) → owner_of (map owned_of ss) s.task.name ≡ rest → is_seated (s ∷ ss) s.task.name ≡ true
seated-first s ss rest is =
    ap₂ (λ (o : Option ℕ) (b : Bool). is_some (option_or o (if b then Some s.worker else None))) is (task-itself s.task.name) ∙ whichever rest
  where
    whichever : (o : Option ℕ) → is_some (option_or o (Some s.worker)) ≡ true
    whichever None = refl
    whichever (Some w) = refl

seated-else : (s : Seat) (ss : List Seat) (u : TaskName) → AreApart s.task.name u → is_seated (s ∷ ss) u ≡ is_seated ss u
seated-else s ss u apart =
    ap (λ (b : Bool). is_some (option_or (owner_of (map owned_of ss) u) (if b then Some s.worker else None))) (task-other s.task.name u apart) ∙ whichever (owner_of (map owned_of ss) u)
  where
    whichever : (o : Option ℕ) → is_some (option_or o None) ≡ is_some o
    whichever None = refl
    whichever (Some w) = refl

-- none after the first has its name
seated-later : (s : Seat) (ss : List Seat) → AllByRecursion (AreApart s.task.name) (map (λ (x : Seat). x.task.name) ss) → is_seated ss s.task.name ≡ false
seated-later s ss apart =
    ap (λ (o : Option ℕ). is_some o)
    (owner-none ss s.task.name
    (All-weaker (λ (x : Seat). AreApart s.task.name x.task.name) (λ (x : Seat). AreApart x.task.name s.task.name) (λ x differs same. differs (sym same)) ss
    (all-mapped (AreApart s.task.name) (λ (x : Seat). x.task.name) ss apart)))

-- the newest generation of each task once those that leave have the next one
abbrev raised : (TaskName → Bool) → List Seat → Shelf → TaskName → ℕ
raised leaves seats b u = if is_seated seats u && leaves u then b.newest u + 1 else b.newest u

left-newest-by : (r : Routes) (leaves : TaskName → Bool) (seats : List Seat) (b c : Shelf) (notes : List JournalEntry) → Pairwise AreApart (map (λ (s : Seat). s.task.name) seats) →
    AllLeave r (map (λ (s : Seat). not (leaves s.task.name)) seats) seats b notes c → (u : TaskName) → IsWriter r u → c.newest u ≡ raised leaves seats b u
left-newest-by r leaves [] b c notes apart left u writes = ap (λ (x : Shelf). x.newest u) left.0
left-newest-by r leaves (s ∷ ss) b c notes apart left u writes =
    left-newest-by r leaves ss left.0 c left.2 apart.1 left.4 u writes ∙ by (is_task s.task.name u) refl
  where
    mid : Shelf
    mid = left.0

    of_first : raised leaves ss left.0 s.task.name ≡ raised leaves (s ∷ ss) b s.task.name
    of_first =
        ap (λ (x : Bool). if x && leaves s.task.name then left.0.newest s.task.name + 1 else left.0.newest s.task.name) (seated-later s ss apart.0)
        ∙ one-newest r (not (leaves s.task.name)) s.task.name b left.0 left.1 left.3
        ∙ turned (leaves s.task.name)
        ∙ sym (ap (λ (x : Bool). if x && leaves s.task.name then b.newest s.task.name + 1 else b.newest s.task.name) (seated-first s ss (owner_of (map owned_of ss) s.task.name) refl))
      where
        turned : (x : Bool) → (if not x then b.newest s.task.name else b.newest s.task.name + 1) ≡ (if true && x then b.newest s.task.name + 1 else b.newest s.task.name)
        turned true = refl
        turned false = refl

    by : (test : Bool) → is_task s.task.name u ≡ test → raised leaves ss left.0 u ≡ raised leaves (s ∷ ss) b u
    by true is = subst (λ (v : TaskName). raised leaves ss left.0 v ≡ raised leaves (s ∷ ss) b v) (task-same s.task.name u is) of_first
    by false is =
        let other : AreApart s.task.name u = λ same. true≢false (sym (task-itself u) ∙ ap (λ (v : TaskName). is_task v u) (sym same) ∙ is) in
        ap (λ (n : ℕ). if is_seated ss u && leaves u then n + 1 else n) (one-else r (not (leaves s.task.name)) s.task.name b left.0 left.1 left.3 u writes (λ same. other (sym same)))
        ∙ sym (ap (λ (x : Bool). if x && leaves u then b.newest u + 1 else b.newest u) (seated-else s ss u other))

-- each that leaves has the next generation
pub left-newest : (r : Routes) (leaves : TaskName → Bool) (stays : List Bool) (seats : List Seat) (b c : Shelf) (notes : List JournalEntry) →
    stays ≡ map (λ (s : Seat). not (leaves s.task.name)) seats → Pairwise AreApart (map (λ (s : Seat). s.task.name) seats) → AllLeave r stays seats b notes c →
    (u : TaskName) → IsWriter r u → c.newest u ≡ (if is_owned (map owned_of seats) u && leaves u then b.newest u + 1 else b.newest u)
left-newest r leaves stays seats b c notes same apart left =
    left-newest-by r leaves seats b c notes apart (subst (λ (bs : List Bool). AllLeave r bs seats b notes c) same left)

-- ---- the journal entries of those that leave

pub flat-same : {A B : Type 0} (f g : A → List B) (xs : List A) → AllByRecursion (λ x. f x ≡ g x) xs → flat_map f xs ≡ flat_map g xs
flat-same f g [] all = refl
flat-same {B} f g (x ∷ xs) all = ap₂ (λ (ys zs : List B). ys ++ zs) all.0 (flat-same f g xs all.1)

-- of the tasks that leave, with the generation after this one
abbrev noted_left : (TaskName → Bool) → (TaskName → ℕ) → Owned → List JournalEntry
noted_left leaves generation o = if leaves o.task then entry.Left o.task (generation o.task) ∷ [] else []

left-notes-by : (r : Routes) (leaves : TaskName → Bool) (seats : List Seat) (b c : Shelf) (notes : List JournalEntry) → Pairwise AreApart (map (λ (s : Seat). s.task.name) seats) →
    AllByRecursion (λ (s : Seat). IsWriter r s.task.name) seats → AllLeave r (map (λ (s : Seat). not (leaves s.task.name)) seats) seats b notes c →
    notes ≡ flat_map (noted_left leaves (λ u. b.newest u + 1)) (map owned_of seats)
left-notes-by r leaves [] b c notes apart writers left = left.1
left-notes-by r leaves (s ∷ ss) b c notes apart writers left =
    left.5
    ∙ ap₂ (λ (ys zs : List JournalEntry). ys ++ zs) (one-notes r (leaves s.task.name) s.task.name b left.0 left.1 left.3)
    (left-notes-by r leaves ss left.0 c left.2 apart.1 writers.1 left.4
    ∙ flat-same (noted_left leaves (λ u. left.0.newest u + 1)) (noted_left leaves (λ u. b.newest u + 1)) (map owned_of ss) rest)
  where
    same : (x : Seat) → AreApart s.task.name x.task.name × IsWriter r x.task.name →
        noted_left leaves (λ u. left.0.newest u + 1) (owned_of x) ≡ noted_left leaves (λ u. b.newest u + 1) (owned_of x)
    same x h =
        ap (λ (n : ℕ). if leaves x.task.name then entry.Left x.task.name (n + 1) ∷ [] else [])
        (one-else r (not (leaves s.task.name)) s.task.name b left.0 left.1 left.3 x.task.name h.1 (λ equal. h.0 (sym equal)))

    rest : AllByRecursion (λ (o : Owned). noted_left leaves (λ u. left.0.newest u + 1) o ≡ noted_left leaves (λ u. b.newest u + 1) o) (map owned_of ss)
    rest =
        All-map (λ (o : Owned). noted_left leaves (λ u. left.0.newest u + 1) o ≡ noted_left leaves (λ u. b.newest u + 1) o) owned_of ss
        (All-weaker (λ (x : Seat). AreApart s.task.name x.task.name × IsWriter r x.task.name)
        (λ (x : Seat). noted_left leaves (λ u. left.0.newest u + 1) (owned_of x) ≡ noted_left leaves (λ u. b.newest u + 1) (owned_of x)) same ss
        (All-both (λ (x : Seat). AreApart s.task.name x.task.name) (λ (x : Seat). IsWriter r x.task.name) ss
        (all-mapped (AreApart s.task.name) (λ (x : Seat). x.task.name) ss apart.0) writers.1))

-- each that leaves is noted with its next generation
pub left-notes : (r : Routes) (leaves : TaskName → Bool) (stays : List Bool) (seats : List Seat) (b c : Shelf) (notes : List JournalEntry) →
    stays ≡ map (λ (s : Seat). not (leaves s.task.name)) seats → Pairwise AreApart (map (λ (s : Seat). s.task.name) seats) →
    AllByRecursion (λ (s : Seat). IsWriter r s.task.name) seats → AllLeave r stays seats b notes c →
    notes ≡ flat_map (λ (o : Owned). if leaves o.task then
    entry.Left o.task (if is_owned (map owned_of seats) o.task && leaves o.task then b.newest o.task + 1 else b.newest o.task) ∷ [] else []) (map owned_of seats)
left-notes r leaves stays seats b c notes is apart writers left =
    left-notes-by r leaves seats b c notes apart writers (subst (λ (bs : List Bool). AllLeave r bs seats b notes c) is left)
    ∙ flat-same (noted_left leaves (λ u. b.newest u + 1)) (noted_left leaves (raised leaves seats b)) (map owned_of seats)
    (All-map (λ (o : Owned). noted_left leaves (λ u. b.newest u + 1) o ≡ noted_left leaves (raised leaves seats b) o) owned_of seats
    (All-weaker (λ (s : Seat). owner_of (map owned_of seats) s.task.name ≡ Some s.worker)
    (λ (s : Seat). noted_left leaves (λ u. b.newest u + 1) (owned_of s) ≡ noted_left leaves (raised leaves seats b) (owned_of s))
    (λ s has. each s (leaves s.task.name) refl (ap (λ (o : Option ℕ). is_some o) has)) seats (each-owner seats apart)))
  where
    each : (s : Seat) (x : Bool) → leaves s.task.name ≡ x → is_seated seats s.task.name ≡ true →
        noted_left leaves (λ u. b.newest u + 1) (owned_of s) ≡ noted_left leaves (raised leaves seats b) (owned_of s)
    each s true goes at =
        ap (λ (n : ℕ). if leaves s.task.name then entry.Left s.task.name n ∷ [] else [])
        (sym (ap₂ (λ (x y : Bool). if x && y then b.newest s.task.name + 1 else b.newest s.task.name) at goes))
    each s false goes at =
        ap (λ (x : Bool). if x then entry.Left s.task.name (b.newest s.task.name + 1) ∷ [] else []) goes
        ∙ sym (ap (λ (x : Bool). if x then entry.Left s.task.name (raised leaves seats b s.task.name) ∷ [] else []) goes)

-- ---- tasks that are restored

-- the journal entry of a restored task: none for a task that is at its owner and doesn't leave it
abbrev noted_anew : Shelf → List Owned → (TaskName → Bool) → Owned → List JournalEntry
noted_anew c before leaves o = if is_owned before o.task && not (leaves o.task) then [] else note_anew c o ∷ []

anew-all : (c : Shelf) (leaves : TaskName → Bool) (owners : List Owned) → seat_notes c owners [] ≡ flat_map (noted_anew c [] leaves) owners
anew-all c leaves [] = refl
anew-all c leaves (o ∷ os) = ap (λ (rest : List JournalEntry). note_anew c o ∷ rest) (anew-all c leaves os)

anew-same : (c : Shelf) (leaves : TaskName → Bool) (before : List Owned) (seats : List Seat) (owners : List Owned) →
    AllByRecursion (λ (s : Seat). owner_of before s.task.name ≡ Some s.worker) seats → map (λ (o : Owned). o.task) owners ≡ map (λ (s : Seat). s.task.name) seats →
    seat_notes c owners (kept_of (map (λ (s : Seat). not (leaves s.task.name)) seats) seats) ≡ flat_map (noted_anew c before leaves) owners
anew-same c leaves before [] [] had same = refl
anew-same c leaves before [] (o ∷ os) had same = absurd (cc)
anew-same c leaves before (s ∷ ss) [] had same = absurd (cc)
anew-same c leaves before (s ∷ ss) (o ∷ os) had same =
    let first : o.task ≡ s.task.name = cc in
    let rest : map (λ (x : Owned). x.task) os ≡ map (λ (x : Seat). x.task.name) ss = cc in
    let owned : is_owned before o.task ≡ true = ap (is_owned before) first ∙ ap (λ (x : Option ℕ). is_some x) had.0 in
    by (leaves s.task.name) refl (ap leaves first) owned (anew-same c leaves before ss os had.1 rest)
  where
    kept : List (Option Seat)
    kept = kept_of (map (λ (x : Seat). not (leaves x.task.name)) ss) ss

    by : (x : Bool) → leaves s.task.name ≡ x → leaves o.task ≡ leaves s.task.name → is_owned before o.task ≡ true →
        seat_notes c os (kept_of (map (λ (y : Seat). not (leaves y.task.name)) ss) ss) ≡ flat_map (noted_anew c before leaves) os →
        seat_notes c (o ∷ os) ((if not (leaves s.task.name) then Some s else None) ∷ kept_of (map (λ (y : Seat). not (leaves y.task.name)) ss) ss)
        ≡ noted_anew c before leaves o ++ flat_map (noted_anew c before leaves) os
    by x goes alike owned rest =
        ap (λ (y : Bool). seat_notes c (o ∷ os) ((if not y then Some s else None) ∷ kept_of (map (λ (z : Seat). not (leaves z.task.name)) ss) ss)) goes
        ∙ to x
        ∙ sym (ap₂ (λ (y z : Bool). (if y && not z then [] else note_anew c o ∷ []) ++ flat_map (noted_anew c before leaves) os) owned (alike ∙ goes))
      where
        to : (y : Bool) → seat_notes c (o ∷ os) ((if not y then Some s else None) ∷ kept_of (map (λ (z : Seat). not (leaves z.task.name)) ss) ss)
            ≡ (if true && not y then [] else note_anew c o ∷ []) ++ flat_map (noted_anew c before leaves) os
        to true = ap (λ (notes : List JournalEntry). note_anew c o ∷ notes) rest
        to false = rest

-- the journal entries of the restored tasks
pub seated-notes : (items : List Item) (c : Shelf) (leaves : TaskName → Bool) (stays : List Bool) (seats : List Seat) (owners : List Owned) →
    stays ≡ map (λ (s : Seat). not (leaves s.task.name)) seats → IsOwned (topology_of items) (map owned_of seats) → IsOwned (topology_of items) owners →
    seat_notes c owners (kept_of stays seats)
    ≡ flat_map (λ (o : Owned). if is_owned (map owned_of seats) o.task && not (leaves o.task) then [] else entry.Restored o.task o.worker (c.newest o.task) (c.done o.task) ∷ []) owners
seated-notes items c leaves stays seats owners same before now =
    ap (λ (bs : List Bool). seat_notes c owners (kept_of bs seats)) same ∙ by seats owners before now
  where
    by : (ss : List Seat) (os : List Owned) → IsOwned (topology_of items) (map owned_of ss) → IsOwned (topology_of items) os →
        seat_notes c os (kept_of (map (λ (s : Seat). not (leaves s.task.name)) ss) ss) ≡ flat_map (noted_anew c (map owned_of ss) leaves) os
    by [] os before now = anew-all c leaves os
    by (s ∷ ss) os (inl none) now = absurd (cc)
    by (s ∷ ss) os (inr all) (inl none) =
        subst (λ (xs : List Owned). seat_notes c xs (kept_of (map (λ (x : Seat). not (leaves x.task.name)) (s ∷ ss)) (s ∷ ss)) ≡ flat_map (noted_anew c (map owned_of (s ∷ ss)) leaves) xs) (sym none) refl
    by (s ∷ ss) os (inr all) (inr now) =
        anew-same c leaves (map owned_of (s ∷ ss)) (s ∷ ss) os (had-owners items (s ∷ ss) (inr all)) (same-tasks items (s ∷ ss) os all now)

-- the tasks have these owners then
pub seated-owners : (t : Topology) (c : Shelf) (owners : List Owned) (kept : List (Option Seat)) → KeepPlaces owners kept → map owned_of (seated t c owners kept) ≡ owners
seated-owners t c [] kept places = refl
seated-owners t c (o ∷ os) [] places = ap (λ (rest : List Owned). o ∷ rest) (seated-owners t c os [] tt)
seated-owners t c (o ∷ os) (None ∷ kept) places = ap (λ (rest : List Owned). o ∷ rest) (seated-owners t c os kept places)
seated-owners t c (o ∷ os) (Some s ∷ kept) places = ap₂ (λ (first : Owned) (rest : List Owned). first ∷ rest) (sym places.0) (seated-owners t c os kept places.1)
