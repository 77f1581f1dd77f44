-- Tasks that stay where they were.
use Rattle.std.proofs.Common.{◌≡◌, ◌∙◌, ap, ap₂, sym, refl, subst, ℕ, zero, suc, ◌+◌, ◌<◌, ◌≤◌, inl, inr, List, [], ◌∷◌, ◌++◌, length, map, take, Bool, true, false, arith, append_assoc, length-append}
use Rattle.std.specs.Prelude.{Option, None, Some, slice_get, is_some, if◌then◌else◌, nat_lt, ◌&&◌}
use Rattle.std.proofs.lemmas.List.{append-nil, take-map}
use Rattle.ksql_types.specs.declared.relation.TaskName.{TaskName}
use Rattle.assignor.specs.declared.assignment.Owned.{Owned}
use Rattle.assignor.specs.declared.assignment.Share.{Share}
use Rattle.assignor.specs.Rule.{how_many, is_live, is_with, tasks_of, may_keep, first_pass, kept_place, with_fewest, second_pass, owned_at, owner_of, share_of, assignment}
use Rattle.assignor.specs.Laws.{HadAt, Keeps, had_of, kept_before}
use Rattle.std.proofs.lemmas.Bool.Decides.{nat_tests}
use Rattle.assignor.proofs.LoadLemmas.{how_many-append, how_many-le}
use Rattle.assignor.proofs.Counts.{or_left, test_of_same}
use Rattle.assignor.proofs.Shares.{and_both}
use Rattle.assignor.proofs.Whole.{full-end, with_fewest-is}

-- what was decided stays at its place
first_pass-front : (share : Share) (live : List ℕ) (kept owners : List (Option ℕ)) → (rest : List (Option ℕ)) × (first_pass share live kept owners ≡ kept ++ rest)
unfolding first_pass
first_pass-front share live kept [] = ([], sym (append-nil kept))
first_pass-front share live kept (owner ∷ owners) =
    let place : Option ℕ = kept_place share live kept owner in
    let further = first_pass-front share live (kept ++ place ∷ []) owners in
    (place ∷ further.0, further.1 ∙ append_assoc kept (place ∷ []) further.0)

second_pass-front : (live : List ℕ) (before rest : List (Option ℕ)) → (after : List (Option ℕ)) × (second_pass live before rest ≡ before ++ after)
unfolding second_pass
second_pass-front live before [] = ([], sym (append-nil before))
second_pass-front live before (Some w ∷ rest) = let further = second_pass-front live (before ++ Some w ∷ []) rest in (Some w ∷ further.0, further.1 ∙ append_assoc before (Some w ∷ []) further.0)
second_pass-front live before (None ∷ rest) =
    let place : Option ℕ = with_fewest (before ++ None ∷ rest) live in
    let further = second_pass-front live (before ++ place ∷ []) rest in
    (place ∷ further.0, further.1 ∙ append_assoc before (place ∷ []) further.0)

get-behind : {X : Type 0} (before : List X) (x : X) (rest : List X) → slice_get ((before ++ x ∷ []) ++ rest) (length before) ≡ Some x
get-behind [] x rest = refl
get-behind (y ∷ before) x rest = get-behind before x rest

-- a task that stays in the first pass is with its worker after it
first_pass-at : (share : Share) (live : List ℕ) (kept owners : List (Option ℕ)) (i w : ℕ) → slice_get owners i ≡ Some (Some w) → is_live live w ≡ true →
    may_keep share live (first_pass share live kept (take i owners)) w ≡ true → slice_get (first_pass share live kept owners) (length kept + i) ≡ Some (Some w)
unfolding first_pass
first_pass-at share live kept [] i w had live_too may = absurd (cc (had))
first_pass-at share live kept (owner ∷ owners) zero w had live_too may =
    let is : owner ≡ Some w = (let e = had in cc (e)) in
    let stay : kept_place share live kept owner ≡ Some w =
    ap (kept_place share live kept) is ∙ ap (λ (b : Bool). if b then Some w else None) (and_both (is_live live w) (may_keep share live kept w) live_too may) in
    let further = first_pass-front share live (kept ++ kept_place share live kept owner ∷ []) owners in
    let index : length kept + 0 ≡ length kept = omega arith in
    ap₂ (λ (places : List (Option ℕ)) (n : ℕ). slice_get places n) further.1 index
    ∙ get-behind kept (kept_place share live kept owner) further.0 ∙ ap (λ (place : Option ℕ). Some place) stay
first_pass-at share live kept (owner ∷ owners) (suc i) w had live_too may =
    let next : List (Option ℕ) = kept ++ kept_place share live kept owner ∷ [] in
    let long = length-append kept (kept_place share live kept owner ∷ []) in
    let index : length kept + suc i ≡ length next + i = omega (arith, long) in
    ap (slice_get (first_pass share live next owners)) index ∙ first_pass-at share live next owners i w had live_too may

-- and after the second
second_pass-at : (live : List ℕ) (before rest : List (Option ℕ)) (i w : ℕ) → slice_get rest i ≡ Some (Some w) → slice_get (second_pass live before rest) (length before + i) ≡ Some (Some w)
unfolding second_pass
second_pass-at live before [] i w stay = absurd (cc (stay))
second_pass-at live before (None ∷ rest) zero w stay = absurd (cc (stay))
second_pass-at live before (Some v ∷ rest) zero w stay =
    let further = second_pass-front live (before ++ Some v ∷ []) rest in
    let index : length before + 0 ≡ length before = omega arith in
    ap₂ (λ (places : List (Option ℕ)) (n : ℕ). slice_get places n) further.1 index ∙ get-behind before (Some v) further.0 ∙ stay
second_pass-at live before (Some v ∷ rest) (suc i) w stay =
    let next : List (Option ℕ) = before ++ Some v ∷ [] in
    let long = length-append before (Some v ∷ []) in
    let index : length before + suc i ≡ length next + i = omega (arith, long) in
    ap (slice_get (second_pass live next rest)) index ∙ second_pass-at live next rest i w stay
second_pass-at live before (None ∷ rest) (suc i) w stay =
    let place : Option ℕ = with_fewest (before ++ None ∷ rest) live in
    let next : List (Option ℕ) = before ++ place ∷ [] in
    let long = length-append before (place ∷ []) in
    let index : length before + suc i ≡ length next + i = omega (arith, long) in
    ap (slice_get (second_pass live next rest)) index ∙ second_pass-at live next rest i w stay

-- if all tasks have an owner, the pair at an index is the task and the place there
owned-at : (tasks : List TaskName) (places : List (Option ℕ)) (i w : ℕ) (task : TaskName) → how_many is_some places ≡ length places →
    slice_get tasks i ≡ Some task → slice_get places i ≡ Some (Some w) → slice_get (owned_at tasks places) i ≡ Some (record { task = task; worker = w })
unfolding owned_at
owned-at [] places i w task full there place = absurd (cc (there))
owned-at (t ∷ tasks) [] i w task full there place = absurd (cc (place))
owned-at (t ∷ tasks) (None ∷ places) i w task full there place = absurd (let le = how_many-le is_some places in omega (arith, full, le))
owned-at (t ∷ tasks) (Some v ∷ places) zero w task full there place = let a : t ≡ task = cc (there) in let b : v ≡ w = cc (place) in λ k. Some (record { task = a k; worker = b k })
owned-at (t ∷ tasks) (Some v ∷ places) (suc i) w task full there place = owned-at tasks places i w task (omega (arith, full)) there place

-- with a live worker no task is left without a place
second_pass-full : (live : List ℕ) (v : ℕ) (before rest : List (Option ℕ)) → is_live live v ≡ true → how_many is_some before ≡ length before → how_many is_some (second_pass live before rest) ≡ length (second_pass live before rest)
unfolding second_pass
second_pass-full live v before [] some full = full
second_pass-full live v before (Some w ∷ rest) some full = second_pass-full live v (before ++ Some w ∷ []) rest some (full-end before w full)
second_pass-full live v before (None ∷ rest) some full = elim (with_fewest-is (before ++ None ∷ rest) live) [
  | inl none ↦ absurd (let e : false ≡ true = ap (λ (ws : List ℕ). is_live ws v) (sym none.1) ∙ some in cc (e))
  | inr found ↦ subst (λ (place : Option ℕ). how_many is_some (second_pass live (before ++ place ∷ []) rest) ≡ length (second_pass live (before ++ place ∷ []) rest)) (sym found.1)
      (second_pass-full live v (before ++ Some found.0 ∷ []) rest some (full-end before found.0 full))
]

pub stays-within_share : (previous : List Owned) (live : List ℕ) (tasks : List TaskName) (i worker : ℕ) → HadAt previous live tasks i worker →
    may_keep (share_of live tasks) live (kept_before previous live tasks i) worker ≡ true → Keeps tasks (assignment previous live tasks) i worker
stays-within_share previous [] tasks i worker had may = λ task there. absurd (let e = had.1 in cc (e))
stays-within_share previous (v ∷ vs) tasks i worker had may = λ task there.
    let live : List ℕ = v ∷ vs in
    let share = share_of live tasks in
    let owners : List (Option ℕ) = map (owner_of previous) tasks in
    let kept : List (Option ℕ) = first_pass share live [] owners in
    let may_too = subst (λ (os : List (Option ℕ)). may_keep share live (first_pass share live [] os) worker ≡ true) (sym (take-map (owner_of previous) i tasks)) may in
    let index : 0 + i ≡ i = omega arith in
    let stay : slice_get kept i ≡ Some (Some worker) = ap (slice_get kept) (sym index) ∙ first_pass-at share live [] owners i worker had.0 had.1 may_too in
    let place : slice_get (second_pass live [] kept) i ≡ Some (Some worker) = ap (slice_get (second_pass live [] kept)) (sym index) ∙ second_pass-at live [] kept i worker stay in
    owned-at tasks (second_pass live [] kept) i worker task (second_pass-full live worker [] kept had.1 refl) there place

-- no more tasks stay than the worker had
kept_place-le : (share : Share) (live : List ℕ) (kept : List (Option ℕ)) (w : ℕ) (owner : Option ℕ) → how_many (is_with w) (kept_place share live kept owner ∷ []) ≤ how_many (is_with w) (owner ∷ [])
kept_place-le share live kept w None = omega arith
kept_place-le share live kept w (Some v) = elim (is_live live v && may_keep share live kept v) as (λ b. how_many (is_with w) ((if b then Some v else None) ∷ []) ≤ how_many (is_with w) (Some v ∷ [])) [
  | true ↦ omega arith
  | false ↦ omega arith
]

first_pass-le : (share : Share) (live : List ℕ) (kept owners : List (Option ℕ)) (w : ℕ) → tasks_of w (first_pass share live kept owners) ≤ tasks_of w kept + tasks_of w owners
unfolding first_pass
first_pass-le share live kept [] w = omega arith
first_pass-le share live kept (owner ∷ owners) w =
    let place : Option ℕ = kept_place share live kept owner in
    let rest = first_pass-le share live (kept ++ place ∷ []) owners w in
    let more = how_many-append (is_with w) kept (place ∷ []) in
    let one = kept_place-le share live kept w owner in
    omega (arith, rest, more, one)

-- a task that the worker had adds one to those before it
had-before : (owners : List (Option ℕ)) (i w : ℕ) → slice_get owners i ≡ Some (Some w) → tasks_of w (take i owners) < tasks_of w owners
had-before [] i w had = absurd (cc (had))
had-before (owner ∷ owners) zero w had =
    let is : is_with w owner ≡ true = ap (is_with w) (let e : owner ≡ Some w = cc (had) in e) ∙ test_of_same w in
    let one : ◌≡◌ {A = ℕ} (if is_with w owner then 1 else 0) 1 = ap (λ (b : Bool). if b then 1 else 0) is in omega (arith, one)
had-before (owner ∷ owners) (suc i) w had = let rest = had-before owners i w had in omega (arith, rest)

had_of-owners : (previous : List Owned) (tasks : List TaskName) (w : ℕ) → tasks_of w (map (owner_of previous) tasks) ≡ had_of previous tasks w
had_of-owners previous [] w = refl
had_of-owners previous (task ∷ tasks) w = ap (λ (n : ℕ). (if is_with w (owner_of previous task) then 1 else 0) + n) (had_of-owners previous tasks w)

pub keeps-all : (previous : List Owned) (live : List ℕ) (tasks : List TaskName) (i worker : ℕ) → HadAt previous live tasks i worker →
    had_of previous tasks worker ≤ (share_of live tasks).low → Keeps tasks (assignment previous live tasks) i worker
keeps-all previous live tasks i worker had few =
    let share = share_of live tasks in
    let owners : List (Option ℕ) = map (owner_of previous) tasks in
    let kept : List (Option ℕ) = kept_before previous live tasks i in
    let at_most = first_pass-le share live [] (map (owner_of previous) (take i tasks)) worker in
    let before = had-before owners i worker had.0 in
    let front : tasks_of worker (take i owners) ≡ tasks_of worker (map (owner_of previous) (take i tasks)) = ap (tasks_of worker) (take-map (owner_of previous) i tasks) in
    let all = had_of-owners previous tasks worker in
    let under : nat_lt (tasks_of worker kept) share.low ≡ true = is_below (tasks_of worker kept) share.low (omega (arith, at_most, before, front, all, few)) in
    stays-within_share previous live tasks i worker had (or_left (nat_lt (tasks_of worker kept) share.low) _ under)
  where
    is_below : (a b : ℕ) → a < b → nat_lt a b ≡ true
    is_below a b lt = grind (arith, nat_tests)
