-- The assignment that is found is one, and the only one.
use Rattle.std.proofs.Common.{◌≡◌, ◌∙◌, ap, ap₂, sym, refl, subst, ℕ, zero, suc, ◌+◌, ◌<◌, ◌≤◌, inl, inr, List, [], ◌∷◌, ◌++◌, length, map, take, drop, Bool, true, false, arith, append_assoc, length-append}
use Rattle.std.specs.Prelude.{Option, None, Some, slice_get, IsTrue, if◌then◌else◌, ◌==◌, nat_lt, ◌&&◌, ◌↔◌}
use Rattle.std.specs.List.Sorted.{IsStrictlyIncreasing}
use Rattle.std.proofs.lemmas.List.{append-nil, length-map, map-append}
use Rattle.std.proofs.Math.Seq.{take-append_seam, drop-append_seam}
use Rattle.std.proofs.lemmas.Bool.Decides.{nat_tests}
use Rattle.ksql_types.specs.declared.relation.TaskName.{TaskName}
use Rattle.assignor.specs.declared.assignment.Owned.{Owned}
use Rattle.assignor.specs.declared.assignment.Share.{Share}
use Rattle.assignor.specs.Rule.{how_many, is_live, is_with, tasks_of, workers_with, may_keep, first_pass, kept_place, with_fewest, second_pass, owned_at, owner_of, kept_of, share_of, assignment, count_of, has_stayed, kept_by, CanKeep, IsAssignment, IsLightest}
use Rattle.assignor.proofs.LoadLemmas.{how_many-append, tasks_of-at}
use Rattle.assignor.proofs.Counts.{Distinct, Distinct-ascending, how_many-same, same_from_test, test_of_same, or_left, or_right, and_parts, bool_cases}
use Rattle.assignor.proofs.Shares.{Fits, HasRoom, and_both, fits-more, fits-first_pass, fits-none, room_kept, kept_place_cases}
use Rattle.assignor.proofs.Whole.{IsFewest, IsShare, share_of-is, with_fewest-is, room_fewest, few-aside, sound-at, length-first_pass}

-- ---- assigned tasks as places

-- the place of a task after the first pass
abbrev pub kept_at : List Owned → Owned → Option ℕ
kept_at previous owned = if has_stayed previous owned then Some owned.worker else None

abbrev pub kept_in : List Owned → List Owned → List (Option ℕ)
kept_in previous made = map (kept_at previous) made

-- the places of tasks that have owners
abbrev pub places_in : List Owned → List (Option ℕ)
places_in made = map (λ owned. Some owned.worker) made

test_kept : (stays : Bool) (v w : ℕ) → is_with w (if stays then Some v else None) ≡ (v == w && stays)
test_kept true v w = and_true (v == w)
  where
    and_true : (b : Bool) → b ≡ (b && true)
    and_true true = refl
    and_true false = refl
test_kept false v w = and_false (v == w)
  where
    and_false : (b : Bool) → false ≡ (b && false)
    and_false true = refl
    and_false false = refl

-- the tasks that stay, counted by places
kept-count : (previous made : List Owned) (w : ℕ) → tasks_of w (kept_in previous made) ≡ kept_by previous made w
kept-count previous [] w = refl
kept-count previous (owned ∷ made) w =
    ap₂ (λ (b : Bool) (n : ℕ). (if b then 1 else 0) + n) (test_kept (has_stayed previous owned) owned.worker w) (kept-count previous made w)

places-count : (made : List Owned) (w : ℕ) → tasks_of w (places_in made) ≡ count_of w made
places-count [] w = refl
places-count (owned ∷ made) w = ap (λ (n : ℕ). (if owned.worker == w then 1 else 0) + n) (places-count made w)

-- the load of a worker, counted by places
load-places : (previous front rest : List Owned) (w : ℕ) → tasks_of w (places_in front ++ kept_in previous rest) ≡ count_of w front + kept_by previous rest w
load-places previous front rest w =
    let all = how_many-append (is_with w) (places_in front) (kept_in previous rest) in
    let placed = places-count front w in
    let kept = kept-count previous rest w in
    omega (arith, all, placed, kept)

-- of the tasks of a worker at most all stay
kept-le : (previous made : List Owned) (w : ℕ) → tasks_of w (kept_in previous made) ≤ tasks_of w (places_in made)
kept-le previous [] w = omega arith
kept-le previous (owned ∷ made) w = let rest = kept-le previous made w in at_most (has_stayed previous owned) (owned.worker == w) rest
  where
    at_most : {m n : ℕ} (stays here : Bool) → m ≤ n →
        (if is_with w (if stays then Some owned.worker else None) then 1 else 0) + m ≤ (if owned.worker == w then 1 else 0) + n
    at_most true here le = omega (arith, le)
    at_most false here le = omega (arith, le)

tops-kept : (low : ℕ) (previous live before : _) → workers_with (low + 1) live (kept_in previous before) ≡ how_many (λ other. kept_by previous before other == low + 1) live
tops-kept low previous live before =
    how_many-same (λ v. tasks_of v (kept_in previous before) == low + 1) (λ v. kept_by previous before v == low + 1) live (λ v. ap (λ (n : ℕ). n == low + 1) (kept-count previous before v))

-- that a worker may keep a task, by places and by owners
can-keep : (share : Share) (previous : List Owned) (live : List ℕ) (before : List Owned) (w : ℕ) → may_keep share live (kept_in previous before) w ≡ true → CanKeep share previous live before w
can-keep share previous live before w may =
    let kept = kept-count previous before w in
    let tops = tops-kept share.low previous live before in
    elim (room_kept share live (kept_in previous before) w may) [
      | inl few ↦ inl (omega (arith, few, kept))
      | inr full ↦ (let low = full.0 in let some = full.1 in inr (sym kept ∙ low, omega (arith, some, tops)))
    ]

room-may : (share : Share) (live : List ℕ) (kept : List (Option ℕ)) (w : ℕ) → HasRoom share live kept w → may_keep share live kept w ≡ true
room-may share live kept w room = elim room [
  | inl few ↦ or_left (nat_lt (tasks_of w kept) share.low) _ (is_below (tasks_of w kept) share.low few)
  | inr full ↦ or_right (nat_lt (tasks_of w kept) share.low) _
      (and_both (tasks_of w kept == share.low) (nat_lt (workers_with (share.low + 1) live kept) share.extra)
      (ap (λ (n : ℕ). n == share.low) full.0 ∙ test_of_same share.low) (is_below (workers_with (share.low + 1) live kept) share.extra full.1))
]
  where
    is_below : (a b : ℕ) → a < b → nat_lt a b ≡ true
    is_below a b lt = grind (arith, nat_tests)

may-keep : (share : Share) (previous : List Owned) (live : List ℕ) (before : List Owned) (w : ℕ) → CanKeep share previous live before w → may_keep share live (kept_in previous before) w ≡ true
may-keep share previous live before w can =
    let kept = kept-count previous before w in
    let tops = tops-kept share.low previous live before in
    room-may share live (kept_in previous before) w (elim can [
      | inl few ↦ inl (omega (arith, few, kept))
      | inr full ↦ (let low = full.0 in let some = full.1 in inr (kept ∙ low, omega (arith, some, tops)))
    ])

-- ---- an assignment, task by task

-- the task stays with the worker that had it exactly if that one may keep it besides the ones before
abbrev pub StaysAt : Share → List Owned → List ℕ → List Owned → Owned → Type 0
StaysAt share previous live front owned =
    (worker : ℕ) → owner_of previous owned.task ≡ Some worker → owned.worker ≡ worker ↔ (IsTrue (is_live live worker) × CanKeep share previous live front worker)

-- the task, if it moves, goes to the worker with the fewest tasks, given the ones before and the rest
abbrev pub GoesAt : List Owned → List ℕ → List Owned → Owned → List Owned → Type 0
GoesAt previous live front owned rest = has_stayed previous owned ≡ false → IsLightest live (λ w. count_of w front + kept_by previous rest w) owned.worker

-- the tasks after the ones in front are assigned as the rule says
abbrev pub Good : Share → List Owned → List ℕ → List Owned → List Owned → Type 0
Good share previous live front [] = Unit {0}
Good share previous live front (owned ∷ back) = StaysAt share previous live front owned × GoesAt previous live front owned (owned ∷ back) × Good share previous live (front ++ owned ∷ []) back

-- at an index
good-at : (share : Share) (previous : List Owned) (live : List ℕ) (front back : List Owned) → Good share previous live front back → (i : ℕ) (owned : Owned) → slice_get back i ≡ Some owned →
    StaysAt share previous live (front ++ take i back) owned × GoesAt previous live (front ++ take i back) owned (drop i back)
good-at share previous live front [] good i owned at = absurd (cc (at))
good-at share previous live front (first ∷ back) good zero owned at =
    let is : first ≡ owned = (let e = at in cc (e)) in
    let whole : front ≡ front ++ [] = sym (append-nil front) in
    subst (λ (o : Owned). StaysAt share previous live (front ++ []) o × GoesAt previous live (front ++ []) o (first ∷ back)) is
    (subst (λ (before : List Owned). StaysAt share previous live before first × GoesAt previous live before first (first ∷ back)) whole (good.0, good.1))
good-at share previous live front (first ∷ back) good (suc i) owned at =
    subst (λ (before : List Owned). StaysAt share previous live before owned × GoesAt previous live before owned (drop i back)) (append_assoc front (first ∷ []) (take i back))
    (good-at share previous live (front ++ first ∷ []) back good.2 i owned at)

get-seam : (front : List Owned) (owned : Owned) (back : List Owned) → slice_get (front ++ owned ∷ back) (length front) ≡ Some owned
get-seam [] owned back = refl
get-seam (first ∷ front) owned back = get-seam front owned back

-- and from what holds at each index
good-from : (previous : List Owned) (live : List ℕ) (tasks : List TaskName) (made front back : List Owned) → IsAssignment previous live tasks made → front ++ back ≡ made →
    Good (share_of live tasks) previous live front back
good-from previous live tasks made front [] is all = tt
good-from previous live tasks made front (owned ∷ back) is all =
    let i : ℕ = length front in
    let at : slice_get made i ≡ Some owned = ap (λ (os : List Owned). slice_get os i) (sym all) ∙ get-seam front owned back in
    let before : take i made ≡ front = ap (take i) (sym all) ∙ take-append_seam front (owned ∷ back) in
    let rest : drop i made ≡ owned ∷ back = ap (drop i) (sym all) ∙ drop-append_seam front (owned ∷ back) in (
      subst (λ (os : List Owned). StaysAt (share_of live tasks) previous live os owned) before (λ worker had. is.stays i worker owned at had),
      subst (λ (os : List Owned). GoesAt previous live front owned os) rest (subst (λ (os : List Owned). GoesAt previous live os owned (drop i made)) before (λ moved. is.goes i owned at moved)),
      good-from previous live tasks made (front ++ owned ∷ []) back is (append_assoc front (owned ∷ []) back ∙ all),
    )

-- ---- the passes from a task on

-- the places that the first pass gives to these tasks, after the places so far
abbrev pub rest_kept : Share → List ℕ → List (Option ℕ) → List (Option ℕ) → List (Option ℕ)
rest_kept share live kept [] = []
rest_kept share live kept (owner ∷ owners) = kept_place share live kept owner ∷ rest_kept share live (kept ++ kept_place share live kept owner ∷ []) owners

first_pass-rest : (share : Share) (live : List ℕ) (kept owners : List (Option ℕ)) → first_pass share live kept owners ≡ kept ++ rest_kept share live kept owners
unfolding first_pass
first_pass-rest share live kept [] = sym (append-nil kept)
first_pass-rest share live kept (owner ∷ owners) =
    let place : Option ℕ = kept_place share live kept owner in
    first_pass-rest share live (kept ++ place ∷ []) owners ∙ append_assoc kept (place ∷ []) (rest_kept share live (kept ++ place ∷ []) owners)

-- the second pass comes over a task that stays, or gives it to the worker with the fewest
second_pass-over : (previous : List Owned) (live : List ℕ) (front : List Owned) (owned : Owned) (rest : List (Option ℕ)) →
    (has_stayed previous owned ≡ false → with_fewest (places_in front ++ None ∷ rest) live ≡ Some owned.worker) →
    second_pass live (places_in front) (kept_at previous owned ∷ rest) ≡ second_pass live (places_in (front ++ owned ∷ [])) rest
unfolding second_pass
second_pass-over previous live front owned rest goes =
    let next : places_in front ++ Some owned.worker ∷ [] ≡ places_in (front ++ owned ∷ []) = sym (map-append (λ (o : Owned). Some o.worker) front (owned ∷ [])) in
    elim (bool_cases (has_stayed previous owned)) [
      | inl stays ↦ ap (λ (b : Bool). second_pass live (places_in front) ((if b then Some owned.worker else None) ∷ rest)) stays
          ∙ ap (λ (before : List (Option ℕ)). second_pass live before rest) next
      | inr moves ↦ ap (λ (b : Bool). second_pass live (places_in front) ((if b then Some owned.worker else None) ∷ rest)) moves
          ∙ ap (λ (w : Option ℕ). second_pass live (places_in front ++ w ∷ []) rest) (goes moves)
          ∙ ap (λ (before : List (Option ℕ)). second_pass live before rest) next
    ]

lightest-same : (live : List ℕ) (f g : ℕ → ℕ) (w : ℕ) → ((v : ℕ) → f v ≡ g v) → IsLightest live f w → IsLightest live g w
lightest-same live f g w same is = record {
  is_there = is.is_there;
  fewest = λ v live_too. (let le = is.fewest v live_too in let a = same w in let b = same v in omega (arith, le, a, b));
  first = λ v live_too even. is.first v live_too (same v ∙ even ∙ sym (same w));
}

-- the places with one that is set aside
aside-places : (previous front : List Owned) (owned : Owned) (back : List Owned) → has_stayed previous owned ≡ false →
    places_in front ++ kept_in previous (owned ∷ back) ≡ places_in front ++ None ∷ kept_in previous back
aside-places previous front owned back moves = ap (λ (b : Bool). places_in front ++ (if b then Some owned.worker else None) ∷ kept_in previous back) moves

-- there is one worker with the fewest tasks
fewest-one : (places : List (Option ℕ)) (live : List ℕ) (w : ℕ) → IsFewest places live w → with_fewest places live ≡ Some w
fewest-one places live w is = elim (with_fewest-is places live) [
  | inl none ↦ absurd (let e : false ≡ true = ap (λ (ws : List ℕ). is_live ws w) (sym none.1) ∙ is.is_there in cc (e))
  | inr found ↦
      (let v = found.0 in let other = found.2 in
      let a = is.fewest v other.is_there in
      let b = other.fewest w is.is_there in
      let even : tasks_of v places ≡ tasks_of w places = omega (arith, a, b) in
      let low = is.first v other.is_there even in
      let high = other.first w is.is_there (sym even) in
      found.1 ∙ ap (λ (u : ℕ). Some u) (omega (arith, low, high)))
]

-- ---- the only one

kept-here : (share : Share) (live : List ℕ) (kept : List (Option ℕ)) (owner : Option ℕ) (worker : ℕ) →
    ((w : ℕ) → owner ≡ Some w → worker ≡ w ↔ (is_live live w ≡ true × may_keep share live kept w ≡ true)) →
    kept_place share live kept owner ≡ (if is_with worker owner then Some worker else None)
kept-here share live kept None worker stays = refl
kept-here share live kept (Some w) worker stays = elim (bool_cases (w == worker)) [
  | inl same ↦
      (let at : w ≡ worker = same_from_test w worker same in
      let parts = (stays w refl).0 (sym at) in
      ap (λ (b : Bool). if b then Some w else None) (and_both (is_live live w) (may_keep share live kept w) parts.0 parts.1)
      ∙ ap (λ (u : ℕ). Some u) at
      ∙ sym (ap (λ (b : Bool). if b then Some worker else None) same))
  | inr other ↦ elim (bool_cases (is_live live w && may_keep share live kept w)) [
    | inl both ↦ absurd
        (let at : worker ≡ w = (stays w refl).1 (and_parts (is_live live w) (may_keep share live kept w) both) in
        let e : true ≡ false = sym (ap (λ (u : ℕ). w == u) at ∙ test_of_same w) ∙ other in cc (e))
    | inr not ↦ ap (λ (b : Bool). if b then Some w else None) not ∙ sym (ap (λ (b : Bool). if b then Some worker else None) other)
  ]
]

-- the first pass keeps what stays
kept-only : (share : Share) (previous : List Owned) (live : List ℕ) (front back : List Owned) → Good share previous live front back →
    rest_kept share live (kept_in previous front) (map (owner_of previous) (map (λ o. o.task) back)) ≡ kept_in previous back
kept-only share previous live front [] good = refl
kept-only share previous live front (owned ∷ back) good =
    let kept : List (Option ℕ) = kept_in previous front in
    let owners : List (Option ℕ) = map (owner_of previous) (map (λ (o : Owned). o.task) back) in
    let here : kept_place share live kept (owner_of previous owned.task) ≡ kept_at previous owned = kept-here share live kept (owner_of previous owned.task) owned.worker (λ w had.
    let stays = good.0 w had in (
      λ at. (let parts = stays.0 at in (parts.0, may-keep share previous live front w parts.1)),
      λ parts. stays.1 (parts.0, can-keep share previous live front w parts.1),
    )) in
    let next : kept ++ kept_at previous owned ∷ [] ≡ kept_in previous (front ++ owned ∷ []) = sym (map-append (kept_at previous) front (owned ∷ [])) in
    ap (λ (place : Option ℕ). place ∷ rest_kept share live (kept ++ place ∷ []) owners) here
    ∙ ap (λ (before : List (Option ℕ)). kept_at previous owned ∷ rest_kept share live before owners) next
    ∙ ap (λ (places : List (Option ℕ)). kept_at previous owned ∷ places) (kept-only share previous live (front ++ owned ∷ []) back good.2)

-- and the second gives the others to where they are
placed-only : (share : Share) (previous : List Owned) (live : List ℕ) (front back : List Owned) → Good share previous live front back →
    second_pass live (places_in front) (kept_in previous back) ≡ places_in (front ++ back)
unfolding second_pass
placed-only share previous live front [] good = ap places_in (sym (append-nil front))
placed-only share previous live front (owned ∷ back) good =
    second_pass-over previous live front owned (kept_in previous back) (λ moves. fewest-one (places_in front ++ None ∷ kept_in previous back) live owned.worker
    (lightest-same live (λ w. count_of w front + kept_by previous (owned ∷ back) w) (λ w. tasks_of w (places_in front ++ None ∷ kept_in previous back)) owned.worker
    (λ w. sym (load-places previous front (owned ∷ back) w) ∙ ap (tasks_of w) (aside-places previous front owned back moves)) (good.1 moves)))
    ∙ placed-only share previous live (front ++ owned ∷ []) back good.2
    ∙ ap places_in (append_assoc front (owned ∷ []) back)

owned-again : (made : List Owned) → made ≡ owned_at (map (λ o. o.task) made) (places_in made)
unfolding owned_at
owned-again [] = refl
owned-again (owned ∷ made) = ap (λ (os : List Owned). owned ∷ os) (owned-again made)

-- an assignment of named tasks is the one that is found
good-found : (previous : List Owned) (v : ℕ) (vs : List ℕ) (tasks : List TaskName) (made : List Owned) → map (λ o. o.task) made ≡ tasks → Good (share_of (v ∷ vs) tasks) previous (v ∷ vs) [] made →
    made ≡ assignment previous (v ∷ vs) tasks
good-found previous v vs tasks made each good =
    let live : List ℕ = v ∷ vs in
    let share = share_of live tasks in
    let owners : List (Option ℕ) = map (owner_of previous) tasks in
    let kept : kept_of previous live tasks ≡ kept_in previous made =
    first_pass-rest share live [] owners ∙ ap (λ (ts : List TaskName). rest_kept share live [] (map (owner_of previous) ts)) (sym each) ∙ kept-only share previous live [] made good in
    owned-again made
    ∙ ap (λ (ts : List TaskName). owned_at ts (places_in made)) each
    ∙ ap (owned_at tasks) (sym (ap (second_pass live []) kept ∙ placed-only share previous live [] made good))

pub is-found : (previous : List Owned) (live : List ℕ) (tasks : List TaskName) (made : List Owned) → IsAssignment previous live tasks made → made ≡ assignment previous live tasks
is-found previous [] tasks made is = is.none refl
is-found previous (v ∷ vs) tasks made is =
    let each = is.each (λ e. cc (e)) in
    good-found previous v vs tasks made each (good-from previous (v ∷ vs) tasks made [] made is refl)

pub one-assignment : (previous : List Owned) (live : List ℕ) (tasks : List TaskName) (made other : List Owned) → IsAssignment previous live tasks made → IsAssignment previous live tasks other → made ≡ other
one-assignment previous live tasks made other one two = is-found previous live tasks made one ∙ sym (is-found previous live tasks other two)

-- ---- the one that is found is one

-- a worker that has room later had room before
room-before : (share : Share) (live : List ℕ) (kept later : List (Option ℕ)) (w : ℕ) → Fits share live later → ((v : ℕ) → tasks_of v kept ≤ tasks_of v later) → HasRoom share live later w → HasRoom share live kept w
room-before share live kept later w fits le room = elim room [
  | inl few ↦ (let here = le w in inl (omega (arith, few, here)))
  | inr full ↦
      (let low = full.0 in let some = full.1 in let here = le w in
      elim (bool_cases (nat_lt (tasks_of w kept) share.low)) [
        | inl under ↦ inl (is_under (tasks_of w kept) share.low under)
        | inr over ↦
            (let least = is_over (tasks_of w kept) share.low over in
            let tops = how_many-more (λ v. tasks_of v kept == share.low + 1) (λ v. tasks_of v later == share.low + 1) live
            (λ v live_too top. still_top (tasks_of v kept) (tasks_of v later) share.low (le v) (fits.most v live_too) top) in
            inr (omega (arith, low, here, least), omega (arith, some, tops)))
      ])
]
  where
    is_under : (a b : ℕ) → nat_lt a b ≡ true → a < b
    is_under a b e = grind (arith, nat_tests)

    is_over : (a b : ℕ) → nat_lt a b ≡ false → b ≤ a
    is_over a b e = grind (arith, nat_tests)

    still_top : (a b low : ℕ) → a ≤ b → b ≤ low + 1 → (a == low + 1) ≡ true → (b == low + 1) ≡ true
    still_top a b low le most top = grind (arith, nat_tests)

    one_more : (a b : Bool) (m n : ℕ) → (a ≡ true → b ≡ true) → m ≤ n → (if a then 1 else 0) + m ≤ (if b then 1 else 0) + n
    one_more true true m n so le = omega (arith, le)
    one_more true false m n so le = absurd (let e = so refl in cc (e))
    one_more false true m n so le = omega (arith, le)
    one_more false false m n so le = omega (arith, le)

    how_many-more : (p q : ℕ → Bool) (ws : List ℕ) → ((w : ℕ) → is_live ws w ≡ true → p w ≡ true → q w ≡ true) → how_many p ws ≤ how_many q ws
    how_many-more p q [] so = omega arith
    how_many-more p q (w ∷ ws) so =
        one_more (p w) (q w) (how_many p ws) (how_many q ws) (so w (or_left (w == w) (is_live ws w) (test_of_same w)))
        (how_many-more p q ws (λ v there. so v (or_right (w == v) (is_live ws v) there)))

-- the tasks of a list, as the passes assign them after the ones in front
pub record Found (share : Share) (previous : List Owned) (live : List ℕ) (front : List Owned) (tasks : List TaskName) (rest : List (Option ℕ)) (back : List Owned) : Type 0 where
  pub each : map (λ o. o.task) back ≡ tasks
  pub placed : second_pass live (places_in front) rest ≡ places_in (front ++ back)
  pub kept : kept_in previous back ≡ rest
  pub good : Good share previous live front back

-- one task more in front of them
found-more : (share : Share) (previous : List Owned) (live : List ℕ) (front : List Owned) (owned : Owned) (tasks : List TaskName) (place : Option ℕ) (rest : List (Option ℕ)) →
    place ≡ kept_at previous owned → StaysAt share previous live front owned → (has_stayed previous owned ≡ false → IsFewest (places_in front ++ None ∷ rest) live owned.worker) →
    (back : List Owned) × Found share previous live (front ++ owned ∷ []) tasks rest back → (back : List Owned) × Found share previous live front (owned.task ∷ tasks) (place ∷ rest) back
found-more share previous live front owned tasks place rest is stays goes further =
    let back : List Owned = further.0 in
    let found = further.1 in (
      owned ∷ back,
      record {
        each = ap (λ (ts : List TaskName). owned.task ∷ ts) found.each;
        placed = ap (λ (p : Option ℕ). second_pass live (places_in front) (p ∷ rest)) is
            ∙ second_pass-over previous live front owned rest (λ moves. fewest-one (places_in front ++ None ∷ rest) live owned.worker (goes moves))
            ∙ found.placed
            ∙ ap places_in (append_assoc front (owned ∷ []) back);
        kept = ap₂ (λ (p : Option ℕ) (ps : List (Option ℕ)). p ∷ ps) (sym is) found.kept;
        good = (
          stays,
          λ moves. lightest-same live (λ w. tasks_of w (places_in front ++ None ∷ rest)) (λ w. count_of w front + kept_by previous (owned ∷ back) w) owned.worker
              (λ w. ap (λ (ps : List (Option ℕ)). tasks_of w (places_in front ++ None ∷ ps)) (sym found.kept)
              ∙ ap (tasks_of w) (sym (aside-places previous front owned back moves)) ∙ load-places previous front (owned ∷ back) w) (goes moves),
          found.good,
        );
      },
    )

places-end : (front : List Owned) (owned : Owned) (rest : List (Option ℕ)) → places_in front ++ Some owned.worker ∷ rest ≡ places_in (front ++ owned ∷ []) ++ rest
places-end front owned rest =
    sym (append_assoc (places_in front) (Some owned.worker ∷ []) rest) ∙ ap (λ (ps : List (Option ℕ)). ps ++ rest) (sym (map-append (λ (o : Owned). Some o.worker) front (owned ∷ [])))

is_with-some : (w : ℕ) (owner : Option ℕ) → is_with w owner ≡ true → owner ≡ Some w
is_with-some w None e = absurd (cc (e))
is_with-some w (Some v) e = ap (λ (u : ℕ). Some u) (same_from_test v w e)

-- the passes assign as the rule says
found : (share : Share) (previous : List Owned) (live : List ℕ) (count : ℕ) (front : List Owned) (kept : List (Option ℕ)) (tasks : List TaskName) → IsShare share live count → Distinct live →
    kept ≡ kept_in previous front → Fits share live (places_in front ++ rest_kept share live kept (map (owner_of previous) tasks)) →
    length (places_in front ++ rest_kept share live kept (map (owner_of previous) tasks)) ≡ count →
    (back : List Owned) × Found share previous live front tasks (rest_kept share live kept (map (owner_of previous) tasks)) back
unfolding second_pass
found share previous live count front kept [] shared distinct so_far fits long =
    ([], record { each = refl; placed = ap places_in (sym (append-nil front)); kept = refl; good = tt })
found share previous live count front kept (task ∷ tasks) shared distinct so_far fits long =
    let owner : Option ℕ = owner_of previous task in
    let place : Option ℕ = kept_place share live kept owner in
    let rest : List (Option ℕ) = rest_kept share live (kept ++ place ∷ []) (map (owner_of previous) tasks) in
    elim (kept_place_cases share live kept owner) [
      | inr stay ↦
          (let w = stay.0 in
          let owned : Owned = record { task = task; worker = w } in
          let stays : has_stayed previous owned ≡ true = ap (is_with w) stay.1 ∙ test_of_same w in
          let is : place ≡ kept_at previous owned = stay.2 ∙ sym (ap (λ (b : Bool). if b then Some w else None) stays) in
          let next : kept ++ place ∷ [] ≡ kept_in previous (front ++ owned ∷ []) =
          ap₂ (λ (ps : List (Option ℕ)) (p : Option ℕ). ps ++ p ∷ []) so_far is ∙ sym (map-append (kept_at previous) front (owned ∷ [])) in
          let shifted : places_in front ++ place ∷ rest ≡ places_in (front ++ owned ∷ []) ++ rest = ap (λ (p : Option ℕ). places_in front ++ p ∷ rest) stay.2 ∙ places-end front owned rest in
          let can : CanKeep share previous live front w = can-keep share previous live front w (ap (λ (ps : List (Option ℕ)). may_keep share live ps w) (sym so_far) ∙ stay.4) in
          found-more share previous live front owned tasks place rest is
          (λ worker had.
          let same : w ≡ worker = (let e : Some w ≡ Some worker = sym stay.1 ∙ had in cc (e)) in
          (λ at. subst (λ (u : ℕ). IsTrue (is_live live u) × CanKeep share previous live front u) same (stay.3, can), λ parts. same))
          (λ moves. absurd (let e : true ≡ false = sym stays ∙ moves in cc (e)))
          (found share previous live count (front ++ owned ∷ []) (kept ++ place ∷ []) tasks shared distinct next (subst (Fits share live) shifted fits) (ap length (sym shifted) ∙ long)))
      | inl aside ↦
          (let now : places_in front ++ place ∷ rest ≡ places_in front ++ None ∷ rest = ap (λ (p : Option ℕ). places_in front ++ p ∷ rest) aside in
          let fits_now = subst (Fits share live) now fits in
          let long_now : length (places_in front ++ None ∷ rest) ≡ count = ap length (sym now) ∙ long in
          elim (with_fewest-is (places_in front ++ None ∷ rest) live) [
            | inl none ↦ absurd (let some = shared.some in let e : length live ≡ 0 = ap length none.1 in omega (arith, some, e))
            | inr chosen ↦
                (let w = chosen.0 in
                let owned : Owned = record { task = task; worker = w } in
                let few = few-aside (places_in front) rest in
                let room = room_fewest share live (places_in front ++ None ∷ rest) count w shared distinct fits_now chosen.2 (omega (arith, few, long_now)) in
                let moves : has_stayed previous owned ≡ false = moves_away front kept owner w rest so_far aside fits_now chosen.2 room in
                let is : place ≡ kept_at previous owned = aside ∙ sym (ap (λ (b : Bool). if b then Some w else None) moves) in
                let next : kept ++ place ∷ [] ≡ kept_in previous (front ++ owned ∷ []) =
                ap₂ (λ (ps : List (Option ℕ)) (p : Option ℕ). ps ++ p ∷ []) so_far is ∙ sym (map-append (kept_at previous) front (owned ∷ [])) in
                let more : Fits share live (places_in front ++ Some w ∷ rest) =
                fits-more share live (places_in front ++ None ∷ rest) (places_in front ++ Some w ∷ rest) w distinct fits_now chosen.2.is_there room
                (λ v. tasks_of-at v w (places_in front) rest) (sound-at live (places_in front) rest w fits_now.sound chosen.2.is_there) in
                let as_long : length (places_in front ++ Some w ∷ rest) ≡ count = length-append (places_in front) (Some w ∷ rest) ∙ sym (length-append (places_in front) (None ∷ rest)) ∙ long_now in
                let shifted = places-end front owned rest in
                found-more share previous live front owned tasks place rest is
                (λ worker had. (
                  λ at. absurd (let e : true ≡ false = sym (ap (is_with w) had ∙ ap (λ (u : ℕ). worker == u) at ∙ test_of_same worker) ∙ moves in cc (e)),
                  λ parts. absurd
                      (let stay : kept_place share live kept (Some worker) ≡ Some worker = ap (λ (b : Bool). if b then Some worker else None)
                      (and_both (is_live live worker) (may_keep share live kept worker) parts.0
                      (ap (λ (ps : List (Option ℕ)). may_keep share live ps worker) so_far ∙ may-keep share previous live front worker parts.1)) in
                      let e : Some worker ≡ None = sym stay ∙ ap (kept_place share live kept) (sym had) ∙ aside in cc (e)),
                ))
                (λ moved. chosen.2)
                (found share previous live count (front ++ owned ∷ []) (kept ++ place ∷ []) tasks shared distinct next (subst (Fits share live) shifted more) (ap length (sym shifted) ∙ as_long)))
          ])
    ]
  where
    -- what is set aside doesn't go back to the worker that had it
    moves_away : (front : List Owned) (kept : List (Option ℕ)) (owner : Option ℕ) (w : ℕ) (rest : List (Option ℕ)) → kept ≡ kept_in previous front → kept_place share live kept owner ≡ None →
        Fits share live (places_in front ++ None ∷ rest) → IsFewest (places_in front ++ None ∷ rest) live w → HasRoom share live (places_in front ++ None ∷ rest) w → is_with w owner ≡ false
    moves_away front kept owner w rest so_far aside fits fewest room = elim (bool_cases (is_with w owner)) [
      | inr moves ↦ moves
      | inl back ↦ absurd
          (let le : (v : ℕ) → tasks_of v kept ≤ tasks_of v (places_in front ++ None ∷ rest) = λ v.
          (let a = kept-le previous front v in
          let b = how_many-append (is_with v) (places_in front) (None ∷ rest) in
          let same : tasks_of v kept ≡ tasks_of v (kept_in previous front) = ap (tasks_of v) so_far in
          omega (arith, a, b, same)) in
          let may = room-may share live kept w (room-before share live kept (places_in front ++ None ∷ rest) w fits le room) in
          let stay : kept_place share live kept (Some w) ≡ Some w = ap (λ (b : Bool). if b then Some w else None) (and_both (is_live live w) (may_keep share live kept w) fewest.is_there may) in
          let e : Some w ≡ None = sym stay ∙ ap (kept_place share live kept) (sym (is_with-some w owner back)) ∙ aside in cc (e))
    ]

pub is-assignment : (previous : List Owned) (live : List ℕ) (tasks : List TaskName) → IsStrictlyIncreasing live → IsAssignment previous live tasks (assignment previous live tasks)
is-assignment previous [] tasks up = record {
  none = λ e. refl;
  each = λ some. absurd (some refl);
  stays = λ i worker owned at had. absurd (cc (at));
  goes = λ i owned at moves. absurd (cc (at));
}
is-assignment previous (v ∷ vs) tasks up =
    let live : List ℕ = v ∷ vs in
    let share = share_of live tasks in
    let owners : List (Option ℕ) = map (owner_of previous) tasks in
    let distinct = Distinct-ascending live up in
    let kept : first_pass share live [] owners ≡ rest_kept share live [] owners = first_pass-rest share live [] owners in
    let long : length (rest_kept share live [] owners) ≡ length tasks =
    ap length (sym kept) ∙ length-first_pass share live [] owners ∙ (let e : 0 + length owners ≡ length owners = omega arith in e) ∙ length-map tasks (owner_of previous) in
    let whole = found share previous live (length tasks) [] [] tasks (share_of-is live tasks (omega arith)) distinct refl
    (subst (Fits share live) kept (fits-first_pass share live [] owners distinct (fits-none share live))) long in
    let made : List Owned = whole.0 in
    let same : made ≡ assignment previous live tasks = good-found previous v vs tasks made whole.1.each whole.1.good in
    subst (IsAssignment previous live tasks) same (record {
      none = λ e. absurd (cc (e));
      each = λ some. whole.1.each;
      stays = λ i worker owned at had. (good-at share previous live [] made whole.1.good i owned at).0 worker had;
      goes = λ i owned at moves. (good-at share previous live [] made whole.1.good i owned at).1 moves;
    })
