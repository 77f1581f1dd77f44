-- The second pass: each task gets an owner, and no worker too many.
use Rattle.std.proofs.Common.{◌≡◌, ◌≢◌, ◌∙◌, ap, sym, refl, subst, ℕ, ◌+◌, ◌*◌, ◌<◌, ◌≤◌, ◌⊎◌, inl, inr, List, [], ◌∷◌, ◌++◌, length, map, Bool, true, false, arith, append_assoc, length-append}
use Rattle.std.specs.Prelude.{Option, None, Some, is_some, if◌then◌else◌, ◌==◌, nat_lt, ◌||◌, ◌&&◌}
use Rattle.std.specs.List.{list_all}
use Rattle.std.specs.List.Sorted.{IsStrictlyIncreasing}
use Rattle.std.proofs.lemmas.List.{append-nil, length-map}
use Rattle.std.proofs.lemmas.Bool.Decides.{nat_tests}
use Rattle.ksql_types.specs.declared.relation.TaskName.{TaskName}
use Rattle.assignor.specs.declared.assignment.Owned.{Owned}
use Rattle.assignor.specs.declared.assignment.Share.{Share}
use Rattle.assignor.specs.Rule.{how_many, is_live, tasks_of, first_pass, is_before, first_of_both, with_fewest, second_pass, owned_at, IsLightest, owner_of, kept_of, share_of, assignment, kept_place, count_of}
use Rattle.assignor.specs.Laws.{IsWhole, IsBalanced}
use Rattle.assignor.proofs.LoadLemmas.{how_many-append, how_many-le, tasks_of-at}
use Rattle.assignor.proofs.Counts.{Distinct, Distinct-ascending, same_from_test, or_left, or_right, or_cases, and_parts, bool_cases, test_of_same, total-each, total-add, is_sound, total-placed, total-fewer, total-least}
use Rattle.assignor.proofs.Shares.{Fits, HasRoom, list_all-append, and_both, fits-more, fits-first_pass, fits-none}

-- the worker with the fewest tasks, of several the one with the smallest number
abbrev pub IsFewest : List (Option ℕ) → List ℕ → ℕ → Type 0
IsFewest places live w = IsLightest live (λ v. tasks_of v places) w

before_fewer : (a b x y : ℕ) → (nat_lt a b || (a == b && nat_lt x y)) ≡ true → a ≤ b
before_fewer a b x y e = grind (arith, nat_tests)

after_more : (a b x y : ℕ) → (nat_lt a b || (a == b && nat_lt x y)) ≡ false → b ≤ a
after_more a b x y e = grind (arith, nat_tests)

before_smaller : (a b x y : ℕ) → (nat_lt a b || (a == b && nat_lt x y)) ≡ true → b ≡ a → x ≤ y
before_smaller a b x y e same = grind (arith, nat_tests)

after_greater : (a b x y : ℕ) → (nat_lt a b || (a == b && nat_lt x y)) ≡ false → a ≡ b → y ≤ x
after_greater a b x y e same = grind (arith, nat_tests)

pub below : (a b : ℕ) → nat_lt a b ≡ true → a < b
below a b e = grind (arith, nat_tests)

pub not_below : (a b : ℕ) → nat_lt a b ≡ false → b ≤ a
not_below a b e = grind (arith, nat_tests)

fewest_alone : (places : List (Option ℕ)) (x : ℕ) (xs : List ℕ) → xs ≡ [] → IsFewest places (x ∷ xs) x
fewest_alone places x xs alone = record {
  is_there = or_left (x == x) (is_live xs x) (test_of_same x);
  fewest = λ v live_too. elim (or_cases (x == v) (is_live xs v) live_too) [
    | inl same ↦ (let e : tasks_of x places ≡ tasks_of v places = ap (λ (u : ℕ). tasks_of u places) (same_from_test x v same) in omega (arith, e))
    | inr there ↦ absurd (let e : false ≡ true = ap (λ (ws : List ℕ). is_live ws v) (sym alone) ∙ there in cc (e))
  ];
  first = λ v live_too as_few. elim (or_cases (x == v) (is_live xs v) live_too) [
    | inl same ↦ (let e = same_from_test x v same in omega (arith, e))
    | inr there ↦ absurd (let e : false ≡ true = ap (λ (ws : List ℕ). is_live ws v) (sym alone) ∙ there in cc (e))
  ];
}

-- unless there are no workers, one has the fewest tasks
pub with_fewest-is : (places : List (Option ℕ)) (live : List ℕ) →
    ((with_fewest places live ≡ None) × (live ≡ [])) ⊎ ((w : ℕ) × (with_fewest places live ≡ Some w) × IsFewest places live w)
unfolding with_fewest
with_fewest-is places [] = inl (refl, refl)
with_fewest-is places (x ∷ xs) = elim (with_fewest-is places xs) [
  | inl none ↦ inr (x, ap (λ (o : Option ℕ). Some (first_of_both places x o)) none.0, fewest_alone places x xs none.1)
  | inr some ↦
      (let w = some.0 in let fewest = some.2 in
      let found = ap (λ (o : Option ℕ). Some (first_of_both places x o)) some.1 in
      elim (bool_cases (is_before places w x)) [
        | inl first ↦ inr (
          w,
          found ∙ ap (λ (b : Bool). Some (if b then w else x)) first,
          record {
            is_there = or_right (x == w) (is_live xs w) fewest.is_there;
            fewest = λ v live_too. elim (or_cases (x == v) (is_live xs v) live_too) [
              | inl same ↦ (let e : tasks_of x places ≡ tasks_of v places = ap (λ (u : ℕ). tasks_of u places) (same_from_test x v same) in let le = before_fewer (tasks_of w places) (tasks_of x places) w x first in omega (arith, e, le))
              | inr there ↦ fewest.fewest v there
            ];
            first = λ v live_too as_few. elim (or_cases (x == v) (is_live xs v) live_too) [
              | inl same ↦
                  (let at = same_from_test x v same in
                  let e : tasks_of x places ≡ tasks_of v places = ap (λ (u : ℕ). tasks_of u places) at in
                  let le = before_smaller (tasks_of w places) (tasks_of x places) w x first (e ∙ as_few) in omega (arith, at, le))
              | inr there ↦ fewest.first v there as_few
            ];
          },
        )
        | inr later ↦ inr (
          x,
          found ∙ ap (λ (b : Bool). Some (if b then w else x)) later,
          record {
            is_there = or_left (x == x) (is_live xs x) (test_of_same x);
            fewest = λ v live_too. elim (or_cases (x == v) (is_live xs v) live_too) [
              | inl same ↦ (let e : tasks_of x places ≡ tasks_of v places = ap (λ (u : ℕ). tasks_of u places) (same_from_test x v same) in omega (arith, e))
              | inr there ↦ (let le = after_more (tasks_of w places) (tasks_of x places) w x later in let rest = fewest.fewest v there in omega (arith, le, rest))
            ];
            first = λ v live_too as_few. elim (or_cases (x == v) (is_live xs v) live_too) [
              | inl same ↦ (let e = same_from_test x v same in omega (arith, e))
              | inr there ↦
                  (let le = after_more (tasks_of w places) (tasks_of x places) w x later in
                  let rest = fewest.fewest v there in
                  let even : tasks_of w places ≡ tasks_of x places = omega (arith, le, rest, as_few) in
                  let greater = after_greater (tasks_of w places) (tasks_of x places) w x later even in
                  let first = fewest.first v there (as_few ∙ sym even) in omega (arith, greater, first))
            ];
          },
        )
      ])
]

-- the share of this many tasks
pub record IsShare (share : Share) (live : List ℕ) (count : ℕ) : Type 0 where
  pub all : length live * share.low + share.extra ≡ count
  pub some : share.extra < length live

-- while a task is set aside the worker with the fewest has room
pub room_fewest : (share : Share) (live : List ℕ) (places : List (Option ℕ)) (count w : ℕ) → IsShare share live count → Distinct live → Fits share live places → IsFewest places live w → how_many is_some places < count → HasRoom share live places w
room_fewest share live places count w shared distinct fits fewest few =
    let sum = total-placed live places distinct fits.sound in
    let all = shared.all in let some = shared.some in
    elim (bool_cases (nat_lt (tasks_of w places) share.low)) [
      | inl under ↦ inl (below (tasks_of w places) share.low under)
      | inr over ↦
          (let least = not_below (tasks_of w places) share.low over in
          let low = total-each share.low live in
          let tops = total-least (λ v. tasks_of v places) share.low live (λ v live_too. let more = fewest.fewest v live_too in omega (arith, least, more)) in
          let exactly : tasks_of w places ≡ share.low = elim (bool_cases (nat_lt share.low (tasks_of w places))) [
            | inl above ↦ absurd
                (let more = below share.low (tasks_of w places) above in
                let tall = total-least (λ v. tasks_of v places) (share.low + 1) live (λ v live_too. let least_too = fewest.fewest v live_too in omega (arith, more, least_too)) in
                let split = total-add (λ v. share.low) (λ v. 1) live in
                let ones = total-each 1 live in
                omega (arith, tall, split, ones, low, sum, few, all, some))
            | inr at_most ↦ (let most = not_below share.low (tasks_of w places) at_most in omega (arith, least, most))
          ] in
          inr (exactly, omega (arith, tops, low, sum, few, all)))
    ]

-- all tasks have an owner, and no worker has too many
pub record Final (share : Share) (live : List ℕ) (count : ℕ) (places : List (Option ℕ)) : Type 0 where
  pub fits : Fits share live places
  pub full : how_many is_some places ≡ length places
  pub length : length places ≡ count

pub sound-at : (live : List ℕ) (before rest : List (Option ℕ)) (w : ℕ) → list_all (is_sound live) (before ++ None ∷ rest) ≡ true → is_live live w ≡ true → list_all (is_sound live) (before ++ Some w ∷ rest) ≡ true
sound-at live before rest w sound live_too =
    let parts = and_parts (list_all (is_sound live) before) (list_all (is_sound live) rest) (sym (list_all-append (is_sound live) before (None ∷ rest)) ∙ sound) in
    list_all-append (is_sound live) before (Some w ∷ rest) ∙ and_both (list_all (is_sound live) before) (is_live live w && list_all (is_sound live) rest) parts.0 (and_both (is_live live w) (list_all (is_sound live) rest) live_too parts.1)

pub full-end : (before : List (Option ℕ)) (w : ℕ) → how_many is_some before ≡ length before → how_many is_some (before ++ Some w ∷ []) ≡ length (before ++ Some w ∷ [])
full-end before w full = let a = how_many-append is_some before (Some w ∷ []) in let b = length-append before (Some w ∷ []) in omega (arith, a, b, full)

pub few-aside : (before rest : List (Option ℕ)) → how_many is_some (before ++ None ∷ rest) < length (before ++ None ∷ rest)
few-aside before rest =
    let a = how_many-append is_some before (None ∷ rest) in let b = length-append before (None ∷ rest) in
    let front = how_many-le is_some before in let back = how_many-le is_some rest in omega (arith, a, b, front, back)

pub second_pass-final : (share : Share) (live : List ℕ) (count : ℕ) (before rest : List (Option ℕ)) → IsShare share live count → Distinct live →
    how_many is_some before ≡ length before → Fits share live (before ++ rest) → length (before ++ rest) ≡ count → Final share live count (second_pass live before rest)
unfolding second_pass
second_pass-final share live count before [] shared distinct full fits same = record {
  fits = subst (Fits share live) (append-nil before) fits;
  full = full;
  length = ap length (sym (append-nil before)) ∙ same;
}
second_pass-final share live count before (Some w ∷ rest) shared distinct full fits same =
    let grouped : before ++ Some w ∷ rest ≡ (before ++ Some w ∷ []) ++ rest = sym (append_assoc before (Some w ∷ []) rest) in
    second_pass-final share live count (before ++ Some w ∷ []) rest shared distinct (full-end before w full) (subst (Fits share live) grouped fits) (ap length (sym grouped) ∙ same)
second_pass-final share live count before (None ∷ rest) shared distinct full fits same = elim (with_fewest-is (before ++ None ∷ rest) live) [
  | inl none ↦ absurd (let some = shared.some in let e : length live ≡ 0 = ap length none.1 in omega (arith, some, e))
  | inr found ↦
      (let w = found.0 in
      let grouped : before ++ Some w ∷ rest ≡ (before ++ Some w ∷ []) ++ rest = sym (append_assoc before (Some w ∷ []) rest) in
      let few = few-aside before rest in
      let room = room_fewest share live (before ++ None ∷ rest) count w shared distinct fits found.2 (omega (arith, few, same)) in
      let more : Fits share live (before ++ Some w ∷ rest) =
      fits-more share live (before ++ None ∷ rest) (before ++ Some w ∷ rest) w distinct fits found.2.is_there room (λ v. tasks_of-at v w before rest) (sound-at live before rest w fits.sound found.2.is_there) in
      let as_long : length (before ++ Some w ∷ rest) ≡ count = length-append before (Some w ∷ rest) ∙ sym (length-append before (None ∷ rest)) ∙ same in
      subst (λ (place : Option ℕ). Final share live count (second_pass live (before ++ place ∷ []) rest)) (sym found.1)
      (second_pass-final share live count (before ++ Some w ∷ []) rest shared distinct (full-end before w full) (subst (Fits share live) grouped more) (ap length (sym grouped) ∙ as_long)))
]

balanced-places : (share : Share) (live : List ℕ) (count : ℕ) (places : List (Option ℕ)) (a b : ℕ) → IsShare share live count → Distinct live → Final share live count places →
    is_live live a ≡ true → is_live live b ≡ true → tasks_of a places ≤ tasks_of b places + 1
balanced-places share live count places a b shared distinct final live_a live_b =
    let most = final.fits.most a live_a in
    elim (bool_cases (nat_lt (tasks_of b places) share.low)) [
      | inl under ↦ absurd
          (let fewer = total-fewer (λ v. tasks_of v places) share.low b live final.fits.most live_b (below (tasks_of b places) share.low under) in
          let sum = total-placed live places distinct final.fits.sound in
          let low = total-each share.low live in
          let tops = final.fits.tops in let full = final.full in let same = final.length in let all = shared.all in
          omega (arith, fewer, sum, low, tops, full, same, all))
      | inr over ↦ (let least = not_below (tasks_of b places) share.low over in omega (arith, most, least))
    ]

count_of-owned : (w : ℕ) (tasks : List TaskName) (places : List (Option ℕ)) → length places ≡ length tasks → count_of w (owned_at tasks places) ≡ tasks_of w places
unfolding owned_at
count_of-owned w [] [] same = refl
count_of-owned w [] (place ∷ places) same = absurd (omega (arith, same))
count_of-owned w (task ∷ tasks) [] same = absurd (omega (arith, same))
count_of-owned w (task ∷ tasks) (None ∷ places) same = let rest = count_of-owned w tasks places (omega (arith, same)) in omega (arith, rest)
count_of-owned w (task ∷ tasks) (Some v ∷ places) same = ap (λ (n : ℕ). (if v == w then 1 else 0) + n) (count_of-owned w tasks places (omega (arith, same)))

tasks-owned : (tasks : List TaskName) (places : List (Option ℕ)) → length places ≡ length tasks → how_many is_some places ≡ length places → map (λ owned. owned.task) (owned_at tasks places) ≡ tasks
unfolding owned_at
tasks-owned [] places same full = refl
tasks-owned (task ∷ tasks) [] same full = absurd (omega (arith, same))
tasks-owned (task ∷ tasks) (None ∷ places) same full = absurd (let le = how_many-le is_some places in omega (arith, full, le))
tasks-owned (task ∷ tasks) (Some v ∷ places) same full = ap (λ (ts : List TaskName). task ∷ ts) (tasks-owned tasks places (omega (arith, same)) (omega (arith, full)))

live-owned : (live : List ℕ) (tasks : List TaskName) (places : List (Option ℕ)) → list_all (is_sound live) places ≡ true → list_all (λ owned. is_live live owned.worker) (owned_at tasks places) ≡ true
unfolding owned_at
live-owned live [] places sound = refl
live-owned live (task ∷ tasks) [] sound = refl
live-owned live (task ∷ tasks) (None ∷ places) sound = live-owned live tasks places sound
live-owned live (task ∷ tasks) (Some v ∷ places) sound =
    let parts = and_parts (is_live live v) (list_all (is_sound live) places) sound in
    and_both (is_live live v) (list_all (λ owned. is_live live owned.worker) (owned_at tasks places)) parts.0 (live-owned live tasks places parts.1)

pub length-first_pass : (share : Share) (live : List ℕ) (kept owners : List (Option ℕ)) → length (first_pass share live kept owners) ≡ length kept + length owners
unfolding first_pass
length-first_pass share live kept [] = omega arith
length-first_pass share live kept (owner ∷ owners) =
    let rest = length-first_pass share live (kept ++ kept_place share live kept owner ∷ []) owners in
    let more = length-append kept (kept_place share live kept owner ∷ []) in omega (arith, rest, more)

pub share_of-is : (live : List ℕ) (tasks : List TaskName) → 0 < length live → IsShare (share_of live tasks) live (length tasks)
share_of-is live tasks some = record { all = omega arith; some = omega arith }

-- the places of an assignment
pub final-places : (previous : List Owned) (live : List ℕ) (tasks : List TaskName) → Distinct live → 0 < length live → Final (share_of live tasks) live (length tasks) (second_pass live [] (kept_of previous live tasks))
final-places previous live tasks distinct some =
    let share = share_of live tasks in
    let owners : List (Option ℕ) = map (owner_of previous) tasks in
    let long = length-first_pass share live [] owners in
    let same : length owners ≡ length tasks = length-map tasks (owner_of previous) in
    second_pass-final share live (length tasks) [] (kept_of previous live tasks) (share_of-is live tasks some) distinct refl (fits-first_pass share live [] owners distinct (fits-none share live)) (omega (arith, long, same))

pub is_balanced : (previous : List Owned) (live : List ℕ) (tasks : List TaskName) → IsStrictlyIncreasing live → IsBalanced live (assignment previous live tasks)
is_balanced previous [] tasks up = λ a b live_a live_b. absurd (cc (live_a))
is_balanced previous (w ∷ ws) tasks up = λ a b live_a live_b.
    let live : List ℕ = w ∷ ws in
    let distinct = Distinct-ascending live up in
    let some : 0 < length live = omega arith in
    let places : List (Option ℕ) = second_pass live [] (kept_of previous live tasks) in
    let final = final-places previous live tasks distinct some in
    let even = balanced-places (share_of live tasks) live (length tasks) places a b (share_of-is live tasks some) distinct final live_a live_b in
    let of_a = count_of-owned a tasks places final.length in
    let of_b = count_of-owned b tasks places final.length in
    omega (arith, even, of_a, of_b)

pub is_whole : (previous : List Owned) (live : List ℕ) (tasks : List TaskName) → live ≢ [] → IsStrictlyIncreasing live → IsWhole live tasks (assignment previous live tasks)
is_whole previous [] tasks some up = absurd (some refl)
is_whole previous (w ∷ ws) tasks some up =
    let live : List ℕ = w ∷ ws in
    let places : List (Option ℕ) = second_pass live [] (kept_of previous live tasks) in
    let final = final-places previous live tasks (Distinct-ascending live up) (omega arith) in
    (tasks-owned tasks places final.length final.full, live-owned live tasks places final.fits.sound)
