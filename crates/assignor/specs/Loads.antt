-- The loads of workers: the number of tasks of each.
use Rattle.std.specs.Prelude.{ℕ, ◌+◌, List, [], ◌∷◌, map, Bool, ◌==◌, nat_lt, ◌&&◌, ◌||◌, if◌then◌else◌, Option, None, Some, option_map}
use Rattle.assignor.specs.declared.assignment.Share.{Share}
use Rattle.assignor.specs.declared.loads.Load.{Load}
use Rattle.assignor.specs.Rule.{how_many, tasks_of}

-- the load of a worker, given the places of the tasks
abbrev pub load_of : List (Option ℕ) → ℕ → Load
load_of places worker = record { worker = worker; tasks = tasks_of worker places }

abbrev pub loads_of : List ℕ → List (Option ℕ) → List Load
loads_of live places = map (load_of places) live

-- a load with one more task, if it is the worker's
abbrev pub one_more : ℕ → Load → Load
one_more worker load = if worker == load.worker then record { worker = load.worker; tasks = load.tasks + 1 } else load

-- the loads with one more task at a place
abbrev pub with_more : Option ℕ → List Load → List Load
with_more None loads = loads
with_more (Some worker) loads = map (one_more worker) loads

-- the tasks in the first load of the worker
abbrev pub load_among : ℕ → List Load → Option ℕ
load_among worker [] = None
load_among worker (load ∷ loads) = if load.worker == worker then Some load.tasks else load_among worker loads

-- whether a load comes first: fewer tasks, or the same number of tasks and the smaller worker number
abbrev pub comes_first : Load → Load → Bool
comes_first a b = nat_lt a.tasks b.tasks || (a.tasks == b.tasks && nat_lt a.worker b.worker)

-- the first of two loads, either of which may be missing
abbrev pub first_load : Option Load → Option Load → Option Load
first_load None other = other
first_load (Some load) None = Some load
first_load (Some load) (Some other) = Some (if comes_first other load then other else load)

-- the load that comes first
abbrev pub lightest : List Load → Option Load
lightest [] = None
lightest (load ∷ loads) = first_load (Some load) (lightest loads)

abbrev pub lightest_worker : List Load → Option ℕ
lightest_worker loads = option_map (λ load. load.worker) (lightest loads)

-- the place of a task in the second pass, by loads
abbrev pub next_place : Option ℕ → List Load → Option ℕ
next_place None loads = lightest_worker loads
next_place (Some worker) loads = Some worker

-- the loads after the second pass placed a task
abbrev pub after_next : Option ℕ → List Load → List Load
after_next None loads = with_more (lightest_worker loads) loads
after_next (Some worker) loads = loads

-- whether a worker with this many tasks may keep one more, by loads
abbrev pub kept_place_with : Share → List Load → ℕ → Option ℕ → Option ℕ
kept_place_with share loads owner None = None
kept_place_with share loads owner (Some kept) =
    if nat_lt kept share.low || (kept == share.low && nat_lt (how_many (λ load. load.tasks == share.low + 1) loads) share.extra)
    then Some owner
    else None

-- where a task stays, by loads
abbrev pub kept_place_by : Share → List Load → Option ℕ → Option ℕ
kept_place_by share loads None = None
kept_place_by share loads (Some owner) = kept_place_with share loads owner (load_among owner loads)
