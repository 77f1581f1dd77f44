-- No worker exceeds its share while tasks are given.
use Rattle.std.proofs.Common.{◌≡◌, ◌∙◌, ap, ap₂, sym, refl, subst, ℕ, ◌+◌, ◌<◌, ◌≤◌, ◌⊎◌, inl, inr, List, [], ◌∷◌, ◌++◌, Bool, true, false, arith}
use Rattle.std.specs.Prelude.{Option, None, Some, if◌then◌else◌, ◌==◌, nat_lt, ◌&&◌}
use Rattle.std.specs.List.{list_all}
use Rattle.std.proofs.lemmas.Bool.Decides.{nat_tests}
use Rattle.assignor.specs.declared.assignment.Share.{Share}
use Rattle.assignor.specs.Rule.{is_live, tasks_of, workers_with, may_keep, kept_place, first_pass}
use Rattle.assignor.proofs.LoadLemmas.{tasks_of-at, tasks_of-aside}
use Rattle.assignor.proofs.Counts.{Distinct, same_from_test, or_cases, and_parts, bool_cases, how_many-same, how_many-one, is_sound}

-- each live worker has at most low + 1 tasks, and at most `extra` of them have that many; no other worker has a task
pub record Fits (share : Share) (live : List ℕ) (places : List (Option ℕ)) : Type 0 where
  pub most : (w : ℕ) → is_live live w ≡ true → tasks_of w places ≤ share.low + 1
  pub tops : workers_with (share.low + 1) live places ≤ share.extra
  pub sound : list_all (is_sound live) places ≡ true

-- the worker has room for one more task
abbrev pub HasRoom : Share → List ℕ → List (Option ℕ) → ℕ → Type 0
HasRoom share live places w = (tasks_of w places < share.low) ⊎ ((tasks_of w places ≡ share.low) × (workers_with (share.low + 1) live places < share.extra))

pub list_all-append : {X : Type 0} (test : X → Bool) (xs ys : List X) → list_all test (xs ++ ys) ≡ (list_all test xs && list_all test ys)
list_all-append test [] ys = refl
list_all-append test (x ∷ xs) ys = ap (λ (b : Bool). test x && b) (list_all-append test xs ys) ∙ grouped (test x) (list_all test xs) (list_all test ys)
  where
    grouped : (a b d : Bool) → (a && (b && d)) ≡ ((a && b) && d)
    grouped true b d = refl
    grouped false b d = refl

pub and_both : (a b : Bool) → a ≡ true → b ≡ true → (a && b) ≡ true
and_both true b x y = y
and_both false b x y = absurd (cc (x))

fewer_than_top : (n low more : ℕ) → n < low → more ≡ n + 1 → (more == low + 1) ≡ (n == low + 1)
fewer_than_top n low more few e = grind (arith, nat_tests)

more_at : (w v n more : ℕ) → more ≡ n + (if w == v then 1 else 0) → (w == v) ≡ true → more ≡ n + 1
more_at w v n more e at = e ∙ ap (λ (b : Bool). n + (if b then 1 else 0)) at

same_at : (w v n more : ℕ) → more ≡ n + (if w == v then 1 else 0) → (w == v) ≡ false → more ≡ n
same_at w v n more e at = e ∙ ap (λ (b : Bool). n + (if b then 1 else 0)) at ∙ (let none : n + 0 ≡ n = omega arith in none)

-- one more task for a live worker that has room
pub fits-more : (share : Share) (live : List ℕ) (places next : List (Option ℕ)) (w : ℕ) → Distinct live → Fits share live places → is_live live w ≡ true → HasRoom share live places w →
    ((v : ℕ) → tasks_of v next ≡ tasks_of v places + (if w == v then 1 else 0)) → list_all (is_sound live) next ≡ true → Fits share live next
fits-more share live places next w distinct fits here room more sound = record {
  most = λ v live_too. elim (bool_cases (w == v)) [
    | inl at ↦
        (let one = more_at w v (tasks_of v places) (tasks_of v next) (more v) at in
        let same : tasks_of w places ≡ tasks_of v places = ap (λ (u : ℕ). tasks_of u places) (same_from_test w v at) in
        elim room [ inl few ↦ omega (arith, one, same, few) | inr full ↦ (let low = full.0 in omega (arith, one, same, low)) ])
    | inr other ↦ (let as_before = same_at w v (tasks_of v places) (tasks_of v next) (more v) other in let most = fits.most v live_too in omega (arith, as_before, most))
  ];
  tops = elim room [
    | inl few ↦
        (let same : workers_with (share.low + 1) live next ≡ workers_with (share.low + 1) live places =
        how_many-same (λ v. tasks_of v next == share.low + 1) (λ v. tasks_of v places == share.low + 1) live (λ v. elim (bool_cases (w == v)) [
          | inl at ↦
              (let one = more_at w v (tasks_of v places) (tasks_of v next) (more v) at in
              let few_too : tasks_of v places < share.low = subst (λ (u : ℕ). tasks_of u places < share.low) (same_from_test w v at) few in
              fewer_than_top (tasks_of v places) share.low (tasks_of v next) few_too one)
          | inr other ↦ ap (λ (n : ℕ). n == share.low + 1) (same_at w v (tasks_of v places) (tasks_of v next) (more v) other)
        ]) in
        let tops = fits.tops in omega (arith, same, tops))
    | inr full ↦
        (let one = how_many-one (λ v. tasks_of v next == share.low + 1) (λ v. tasks_of v places == share.low + 1) w live distinct (λ v other. ap (λ (n : ℕ). n == share.low + 1) (same_at w v (tasks_of v places) (tasks_of v next) (more v) other)) in
        let few = full.1 in omega (arith, one, few))
  ];
  sound = sound;
}

-- nothing more for any worker
pub fits-same : (share : Share) (live : List ℕ) (places next : List (Option ℕ)) → Fits share live places → ((v : ℕ) → tasks_of v next ≡ tasks_of v places) → list_all (is_sound live) next ≡ true → Fits share live next
fits-same share live places next fits same sound = record {
  most = λ v live_too. let e = same v in let most = fits.most v live_too in omega (arith, e, most);
  tops = (let e : workers_with (share.low + 1) live next ≡ workers_with (share.low + 1) live places =
      how_many-same (λ v. tasks_of v next == share.low + 1) (λ v. tasks_of v places == share.low + 1) live (λ v. ap (λ (n : ℕ). n == share.low + 1) (same v)) in
      let tops = fits.tops in omega (arith, e, tops));
  sound = sound;
}

pub room_kept : (share : Share) (live : List ℕ) (kept : List (Option ℕ)) (w : ℕ) → may_keep share live kept w ≡ true → HasRoom share live kept w
room_kept share live kept w may = elim (or_cases (nat_lt (tasks_of w kept) share.low) (tasks_of w kept == share.low && nat_lt (workers_with (share.low + 1) live kept) share.extra) may) [
  | inl few ↦ inl (below (tasks_of w kept) share.low few)
  | inr full ↦ (let parts = and_parts (tasks_of w kept == share.low) (nat_lt (workers_with (share.low + 1) live kept) share.extra) full in
      inr (same_from_test (tasks_of w kept) share.low parts.0, below (workers_with (share.low + 1) live kept) share.extra parts.1))
]
  where
    below : (a b : ℕ) → nat_lt a b ≡ true → a < b
    below a b e = grind (arith, nat_tests)

sound-end : (live : List ℕ) (kept : List (Option ℕ)) (place : Option ℕ) → list_all (is_sound live) kept ≡ true → is_sound live place ≡ true → list_all (is_sound live) (kept ++ place ∷ []) ≡ true
sound-end live kept place sound here = list_all-append (is_sound live) kept (place ∷ []) ∙ and_both (list_all (is_sound live) kept) (is_sound live place && true) sound (and_both (is_sound live place) true here refl)

-- where a task is set aside, or stays
pub kept_place_cases : (share : Share) (live : List ℕ) (kept : List (Option ℕ)) (owner : Option ℕ) →
    (kept_place share live kept owner ≡ None) ⊎ ((w : ℕ) × (owner ≡ Some w) × (kept_place share live kept owner ≡ Some w) × (is_live live w ≡ true) × (may_keep share live kept w ≡ true))
kept_place_cases share live kept None = inl refl
kept_place_cases share live kept (Some w) = elim (bool_cases (is_live live w && may_keep share live kept w)) [
  | inl both ↦ (let parts = and_parts (is_live live w) (may_keep share live kept w) both in
      inr (w, refl, ap (λ (b : Bool). if b then Some w else None) both, parts.0, parts.1))
  | inr not ↦ inl (ap (λ (b : Bool). if b then Some w else None) not)
]

fits-kept_place : (share : Share) (live : List ℕ) (kept : List (Option ℕ)) (owner : Option ℕ) → Distinct live → Fits share live kept → Fits share live (kept ++ kept_place share live kept owner ∷ [])
fits-kept_place share live kept owner distinct fits = elim (kept_place_cases share live kept owner) [
  | inl aside ↦ subst (λ (place : Option ℕ). Fits share live (kept ++ place ∷ [])) (sym aside)
      (fits-same share live kept (kept ++ None ∷ []) fits (λ v. tasks_of-aside v kept) (sound-end live kept None fits.sound refl))
  | inr stay ↦ (let w = stay.0 in subst (λ (place : Option ℕ). Fits share live (kept ++ place ∷ [])) (sym stay.2)
      (fits-more share live kept (kept ++ Some w ∷ []) w distinct fits stay.3 (room_kept share live kept w stay.4)
      (λ v. let at = tasks_of-at v w kept [] in let aside = tasks_of-aside v kept in omega (arith, at, aside)) (sound-end live kept (Some w) fits.sound stay.3)))
]

-- the first pass
pub fits-first_pass : (share : Share) (live : List ℕ) (kept owners : List (Option ℕ)) → Distinct live → Fits share live kept → Fits share live (first_pass share live kept owners)
unfolding first_pass
fits-first_pass share live kept [] distinct fits = fits
fits-first_pass share live kept (owner ∷ owners) distinct fits = fits-first_pass share live (kept ++ kept_place share live kept owner ∷ []) owners distinct (fits-kept_place share live kept owner distinct fits)

pub fits-none : (share : Share) (live : List ℕ) → Fits share live []
fits-none share live = record { most = λ w live_too. omega arith; tops = (let none = nobody share.low live in omega (arith, none)); sound = refl }
  where
    nobody : (low : ℕ) (ws : List ℕ) → workers_with (low + 1) ws [] ≡ 0
    nobody low [] = refl
    nobody low (w ∷ ws) = let rest = nobody low ws in let other : (0 == low + 1) ≡ false = grind (arith, nat_tests) in ap₂ (λ (b : Bool) (n : ℕ). (if b then 1 else 0) + n) other rest ∙ (let e : 0 + 0 ≡ 0 = refl in e)
