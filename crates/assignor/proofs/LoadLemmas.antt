-- How the loads of workers follow the places of tasks.
use Rattle.std.proofs.Common.{◌≡◌, ◌∙◌, ap, ap₂, sym, refl, ℕ, zero, suc, ◌+◌, ◌<◌, ◌≤◌, ◌^◌, List, [], ◌∷◌, ◌++◌, map, length, Bool, true, false, All, arith}
use Rattle.std.specs.Prelude.{Option, None, Some, option_map, if◌then◌else◌, ◌==◌, nat_lt, ◌&&◌, ◌||◌}
use Rattle.std.specs.List.{list_any}
use Rattle.std.proofs.lemmas.Bool.Decides.{nat_tests}
use Rattle.assignor.specs.declared.assignment.Share.{Share}
use Rattle.assignor.specs.declared.loads.Load.{Load}
use Rattle.assignor.specs.Rule.{how_many, is_with, tasks_of, workers_with, kept_place, is_before, first_of_both, with_fewest}
use Rattle.assignor.specs.Loads.{first_load, lightest, lightest_worker, load_of, loads_of, one_more, with_more, load_among, kept_place_with, kept_place_by, next_place, after_next}

-- at most all elements pass
pub how_many-le : {X : Type 0} (test : X → Bool) (xs : List X) → how_many test xs ≤ length xs
how_many-le test [] = omega arith
how_many-le test (x ∷ xs) = let rest = how_many-le test xs in
    elim (test x) as (λ b. (if b then 1 else 0) + how_many test xs ≤ length (x ∷ xs)) [ true ↦ omega (arith, rest) | false ↦ omega (arith, rest) ]

pub how_many-append : {X : Type 0} (test : X → Bool) (xs ys : List X) → how_many test (xs ++ ys) ≡ how_many test xs + how_many test ys
how_many-append test [] ys = omega arith
how_many-append test (x ∷ xs) ys = let rest = how_many-append test xs ys in omega (arith, rest)

-- the first of three loads
pub first_load-assoc : (a b d : Option Load) → first_load (first_load a b) d ≡ first_load a (first_load b d)
first_load-assoc None b d = refl
first_load-assoc (Some a) None d = refl
first_load-assoc (Some a) (Some b) None = refl
first_load-assoc (Some a) (Some b) (Some d) = grind (arith, nat_tests)

-- one more task for a worker that had none at this place
pub tasks_of-at : (worker v : ℕ) (before rest : List (Option ℕ)) →
    tasks_of worker (before ++ Some v ∷ rest) ≡ tasks_of worker (before ++ None ∷ rest) + (if v == worker then 1 else 0)
tasks_of-at worker v before rest =
    let with_it = how_many-append (is_with worker) before (Some v ∷ rest) in
    let without = how_many-append (is_with worker) before (None ∷ rest) in
    omega (arith, with_it, without)

-- a task that is set aside is no worker's
pub tasks_of-aside : (worker : ℕ) (places : List (Option ℕ)) → tasks_of worker (places ++ None ∷ []) ≡ tasks_of worker places
tasks_of-aside worker places = let all = how_many-append (is_with worker) places (None ∷ []) in omega (arith, all)

one_more-if : (b : Bool) (worker tasks more : ℕ) → more ≡ tasks + (if b then 1 else 0) →
    (if b then record { worker = worker; tasks = tasks + 1 } else record { worker = worker; tasks = tasks }) ≡ (let load : Load = record { worker = worker; tasks = more } in load)
one_more-if true worker tasks more e = λ i. record { worker = worker; tasks = sym e i }
one_more-if false worker tasks more e = let same : tasks ≡ more = omega (arith, e) in λ i. record { worker = worker; tasks = same i }

loads_of-more : (v : ℕ) (live : List ℕ) (places next : List (Option ℕ)) →
    ((worker : ℕ) → tasks_of worker next ≡ tasks_of worker places + (if v == worker then 1 else 0)) →
    map (one_more v) (loads_of live places) ≡ loads_of live next
loads_of-more v [] places next more = refl
loads_of-more v (w ∷ live) places next more =
    ap₂ (λ (load : Load) (loads : List Load). load ∷ loads) (one_more-if (v == w) w (tasks_of w places) (tasks_of w next) (more w)) (loads_of-more v live places next more)

loads_of-same : (live : List ℕ) (places next : List (Option ℕ)) → ((worker : ℕ) → tasks_of worker next ≡ tasks_of worker places) → loads_of live places ≡ loads_of live next
loads_of-same [] places next same = refl
loads_of-same (w ∷ live) places next same =
    ap₂ (λ (load : Load) (loads : List Load). load ∷ loads) (λ i. record { worker = w; tasks = sym (same w) i }) (loads_of-same live places next same)

-- the loads with one more task at the end
pub with_more-end : (place : Option ℕ) (live : List ℕ) (places : List (Option ℕ)) → with_more place (loads_of live places) ≡ loads_of live (places ++ place ∷ [])
with_more-end None live places = loads_of-same live places (places ++ None ∷ []) (λ w. tasks_of-aside w places)
with_more-end (Some v) live places =
    loads_of-more v live places (places ++ Some v ∷ []) (λ w. let at = tasks_of-at w v places [] in let aside = tasks_of-aside w places in omega (arith, at, aside))

-- the loads with the next task at its place
pub after_next-loads : (place : Option ℕ) (live : List ℕ) (before rest : List (Option ℕ)) →
    after_next place (loads_of live (before ++ place ∷ rest)) ≡ loads_of live (before ++ next_place place (loads_of live (before ++ place ∷ rest)) ∷ rest)
after_next-loads (Some worker) live before rest = refl
after_next-loads None live before rest =
    elim (lightest_worker (loads_of live (before ++ None ∷ rest))) as (λ w. with_more w (loads_of live (before ++ None ∷ rest)) ≡ loads_of live (before ++ w ∷ rest)) [
      | None ↦ refl
      | Some v ↦ loads_of-more v live (before ++ None ∷ rest) (before ++ Some v ∷ rest) (λ w. tasks_of-at w v before rest)
    ]

lighter-same : (b : Bool) (places : List (Option ℕ)) (w v : ℕ) → Some (if b then load_of places v else load_of places w) ≡ Some (load_of places (if b then v else w))
lighter-same true places w v = refl
lighter-same false places w v = refl

-- the lightest load is that of the worker with the fewest tasks
lightest-loads : (live : List ℕ) (places : List (Option ℕ)) → lightest (loads_of live places) ≡ option_map (load_of places) (with_fewest places live)
unfolding with_fewest
lightest-loads [] places = refl
lightest-loads (w ∷ live) places =
    ap (first_load (Some (load_of places w))) (lightest-loads live places)
    ∙ elim (with_fewest places live) as (λ o. first_load (Some (load_of places w)) (option_map (load_of places) o) ≡ Some (load_of places (first_of_both places w o))) [
      | None ↦ refl
      | Some v ↦ lighter-same (is_before places v w) places w v
    ]

pub lightest_worker-loads : (live : List ℕ) (places : List (Option ℕ)) → lightest_worker (loads_of live places) ≡ with_fewest places live
lightest_worker-loads live places =
    ap (option_map (λ (load : Load). load.worker)) (lightest-loads live places)
    ∙ elim (with_fewest places live) as (λ o. option_map (λ (load : Load). load.worker) (option_map (load_of places) o) ≡ o) [ None ↦ refl | Some v ↦ refl ]

load_among-if : (b rest : Bool) (v w : ℕ) (places : List (Option ℕ)) → (v == w) ≡ b →
    (if b then Some (tasks_of v places) else if rest then Some (tasks_of w places) else None) ≡ (if b || rest then Some (tasks_of w places) else None)
load_among-if true rest v w places e = let same : v ≡ w = grind (arith, nat_tests) in ap (λ (n : ℕ). Some (tasks_of n places)) same
load_among-if false rest v w places e = refl

load_among-loads : (live : List ℕ) (w : ℕ) (places : List (Option ℕ)) →
    load_among w (loads_of live places) ≡ (if list_any (λ v. v == w) live then Some (tasks_of w places) else None)
load_among-loads [] w places = refl
load_among-loads (v ∷ live) w places =
    ap (λ (o : Option ℕ). if v == w then Some (tasks_of v places) else o) (load_among-loads live w places)
    ∙ load_among-if (v == w) (list_any (λ u. u == w) live) v w places refl

how_many-loads : (count : ℕ) (live : List ℕ) (places : List (Option ℕ)) → how_many (λ load. load.tasks == count) (loads_of live places) ≡ workers_with count live places
how_many-loads count [] places = refl
how_many-loads count (w ∷ live) places = ap (λ (n : ℕ). (if tasks_of w places == count then 1 else 0) + n) (how_many-loads count live places)

kept_place_with-if : (live : Bool) (share : Share) (loads : List Load) (w kept : ℕ) →
    kept_place_with share loads w (if live then Some kept else None)
    ≡ (if live && (nat_lt kept share.low || (kept == share.low && nat_lt (how_many (λ load. load.tasks == share.low + 1) loads) share.extra)) then Some w else None)
kept_place_with-if true share loads w kept = refl
kept_place_with-if false share loads w kept = refl

-- where a task stays by loads is where it stays
pub kept_place_by-loads : (share : Share) (live : List ℕ) (places : List (Option ℕ)) (owner : Option ℕ) → kept_place_by share (loads_of live places) owner ≡ kept_place share live places owner
kept_place_by-loads share live places None = refl
kept_place_by-loads share live places (Some w) =
    ap (kept_place_with share (loads_of live places) w) (load_among-loads live w places)
    ∙ kept_place_with-if (list_any (λ v. v == w) live) share (loads_of live places) w (tasks_of w places)
    ∙ ap (λ (n : ℕ). if list_any (λ v. v == w) live && (nat_lt (tasks_of w places) share.low || (tasks_of w places == share.low && nat_lt n share.extra)) then Some w else None)
    (how_many-loads (share.low + 1) live places)

-- the loads of few tasks are small
pub loads_of-fit : (live : List ℕ) (places : List (Option ℕ)) → length places + 1 < 2 ^ 64 → All (λ load. load.tasks + 1 < 2 ^ 64) (loads_of live places)
loads_of-fit [] places few k d inside = absurd (omega arith)
loads_of-fit (w ∷ live) places few zero d inside = let le = how_many-le (is_with w) places in omega (arith, le)
loads_of-fit (w ∷ live) places few (suc k) d inside = loads_of-fit live places few k d (omega arith)
