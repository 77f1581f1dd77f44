-- The assignment of tasks to the live workers, given who owned them before: what it is (`IsAssignment`), and how it is
-- found (`assignment`).
use Rattle.std.specs.Prelude.{◌≡◌, ◌≢◌, ◌⊎◌, ◌↔◌, ℕ, ◌+◌, ◌/◌, ◌%◌, ◌<◌, ◌≤◌, List, [], ◌∷◌, ◌++◌, length, map, take, drop, slice_get, Bool, false, IsTrue, ◌==◌, nat_lt, ◌&&◌, ◌||◌, if◌then◌else◌, Option, None, Some}
use Rattle.std.specs.List.{list_any}
use Rattle.std.specs.Option.{option_or}
use Rattle.ksql_types.specs.declared.relation.TaskName.{TaskName}
use Rattle.assignor.specs.declared.assignment.Owned.{Owned}
use Rattle.assignor.specs.declared.assignment.Share.{Share}

-- how many elements of a list pass a test
abbrev pub how_many : {X : Type 0} → (X → Bool) → List X → ℕ
how_many test [] = 0
how_many test (x ∷ xs) = (if test x then 1 else 0) + how_many test xs

-- the worker that had a task: that of the last pair with the task
abbrev pub owner_of : List Owned → TaskName → Option ℕ
owner_of [] task = None
owner_of (owned ∷ rest) task =
    option_or (owner_of rest task) (if owned.task.sub == task.sub && owned.task.part == task.part then Some owned.worker else None)

-- whether a worker is live
abbrev pub is_live : List ℕ → ℕ → Bool
is_live live worker = list_any (λ other. other == worker) live

-- whether the worker is the one of an owner or a place, if any
abbrev pub is_with : ℕ → Option ℕ → Bool
is_with worker None = false
is_with worker (Some other) = other == worker

-- each worker's share: the tasks divided by the live workers, and the remainder
abbrev pub share_of : List ℕ → List TaskName → Share
share_of live tasks = record { low = length tasks / length live; extra = length tasks % length live }

-- ---- what an assignment is

-- how many of the tasks a worker has
abbrev pub count_of : ℕ → List Owned → ℕ
count_of worker made = how_many (λ owned. owned.worker == worker) made

-- whether a task stays with the worker that had it
abbrev pub has_stayed : List Owned → Owned → Bool
has_stayed previous owned = is_with owned.worker (owner_of previous owned.task)

-- how many of the tasks stay with a worker
abbrev pub kept_by : List Owned → List Owned → ℕ → ℕ
kept_by previous made worker = how_many (λ owned. owned.worker == worker && has_stayed previous owned) made

-- a worker may keep one more task than the ones before: of these fewer than `low` stay with it, or exactly `low` do while
-- fewer than `extra` live workers keep low + 1 of them
abbrev pub CanKeep : Share → List Owned → List ℕ → List Owned → ℕ → Type 0
CanKeep share previous live before worker =
    (kept_by previous before worker < share.low)
    ⊎ ((kept_by previous before worker ≡ share.low)
    × (how_many (λ other. kept_by previous before other == share.low + 1) live < share.extra))

-- how many tasks a worker has when the task at an index is placed: the ones before it, and of the others those that stay
abbrev pub load_at : List Owned → List Owned → ℕ → ℕ → ℕ
load_at previous made i worker = count_of worker (take i made) + kept_by previous (drop i made) worker

-- the live worker with the smallest load, of several the one with the smallest number
pub record IsLightest (live : List ℕ) (load : ℕ → ℕ) (worker : ℕ) : Type 0 where
  -- it is live
  pub is_there : IsTrue (is_live live worker)
  -- no live worker has a smaller load
  pub fewest : (other : ℕ) → IsTrue (is_live live other) → load worker ≤ load other
  -- no live worker with this load has a smaller number
  pub first : (other : ℕ) → IsTrue (is_live live other) → load other ≡ load worker → worker ≤ other

-- the tasks are assigned to the live workers, given who owned them before
pub record IsAssignment (previous : List Owned) (live : List ℕ) (tasks : List TaskName) (made : List Owned) : Type 0 where
  -- without a live worker no task has an owner
  pub none : live ≡ [] → made ≡ []
  -- else each task has one owner, in the order of the tasks
  pub each : live ≢ [] → map (λ owned. owned.task) made ≡ tasks
  -- a task stays with the worker that had it exactly if that one is live and may keep one more
  pub stays : (i worker : ℕ) (owned : Owned) → slice_get made i ≡ Some owned → owner_of previous owned.task ≡ Some worker →
      owned.worker ≡ worker ↔ (IsTrue (is_live live worker) × CanKeep (share_of live tasks) previous live (take i made) worker)
  -- any other task goes to the live worker with the fewest tasks at that moment
  pub goes : (i : ℕ) (owned : Owned) → slice_get made i ≡ Some owned → has_stayed previous owned ≡ false →
      IsLightest live (load_at previous made i) owned.worker

-- ---- how it is found: a place says where a task is meanwhile, with a worker or set aside (None)

-- how many tasks a worker has
abbrev pub tasks_of : ℕ → List (Option ℕ) → ℕ
tasks_of worker places = how_many (is_with worker) places

-- how many live workers have exactly this many tasks
abbrev pub workers_with : ℕ → List ℕ → List (Option ℕ) → ℕ
workers_with count live places = how_many (λ worker. tasks_of worker places == count) live

-- whether a worker may keep one more task: so far it has kept fewer than `low`, or exactly `low` while fewer than
-- `extra` workers have kept low + 1
abbrev pub may_keep : Share → List ℕ → List (Option ℕ) → ℕ → Bool
may_keep share live kept worker =
    nat_lt (tasks_of worker kept) share.low
    || (tasks_of worker kept == share.low && nat_lt (workers_with (share.low + 1) live kept) share.extra)

-- the place of a task that this worker had: with it, if it is live and may keep the task, or else set aside
abbrev pub kept_place : Share → List ℕ → List (Option ℕ) → Option ℕ → Option ℕ
kept_place share live kept None = None
kept_place share live kept (Some owner) =
    if is_live live owner && may_keep share live kept owner then Some owner else None

-- the first pass: the tasks one by one, by their owners, after the places so far
unfoldable pub first_pass : Share → List ℕ → List (Option ℕ) → List (Option ℕ) → List (Option ℕ)
first_pass share live kept [] = kept
first_pass share live kept (owner ∷ owners) = first_pass share live (kept ++ kept_place share live kept owner ∷ []) owners

-- whether a worker comes before another: fewer tasks, or the same number of tasks and the smaller worker number
abbrev pub is_before : List (Option ℕ) → ℕ → ℕ → Bool
is_before places a b =
    nat_lt (tasks_of a places) (tasks_of b places)
    || (tasks_of a places == tasks_of b places && nat_lt a b)

-- the first of the worker and another one, if any
abbrev pub first_of_both : List (Option ℕ) → ℕ → Option ℕ → ℕ
first_of_both places worker None = worker
first_of_both places worker (Some other) = if is_before places other worker then other else worker

-- the worker with the fewest tasks, of several the one with the smallest number
unfoldable pub with_fewest : List (Option ℕ) → List ℕ → Option ℕ
with_fewest places [] = None
with_fewest places (worker ∷ workers) = Some (first_of_both places worker (with_fewest places workers))

-- the second pass: each task set aside goes to the worker with the fewest tasks among those before and the rest
unfoldable pub second_pass : List ℕ → List (Option ℕ) → List (Option ℕ) → List (Option ℕ)
second_pass live before [] = before
second_pass live before (Some worker ∷ rest) = second_pass live (before ++ Some worker ∷ []) rest
second_pass live before (None ∷ rest) = second_pass live (before ++ with_fewest (before ++ None ∷ rest) live ∷ []) rest

-- the tasks and the workers at their places
unfoldable pub owned_at : List TaskName → List (Option ℕ) → List Owned
owned_at [] places = []
owned_at (task ∷ tasks) [] = []
owned_at (task ∷ tasks) (None ∷ places) = owned_at tasks places
owned_at (task ∷ tasks) (Some worker ∷ places) = record { task = task; worker = worker } ∷ owned_at tasks places

-- where the tasks stay after the first pass
abbrev pub kept_of : List Owned → List ℕ → List TaskName → List (Option ℕ)
kept_of previous live tasks = first_pass (share_of live tasks) live [] (map (owner_of previous) tasks)

-- the assignment of the tasks to the live workers, given the previous one: if the live workers ascend, the one and only
-- `IsAssignment` (the law `one_assignment`). Without live workers no task has an owner
abbrev pub assignment : List Owned → List ℕ → List TaskName → List Owned
assignment previous [] tasks = []
assignment previous live tasks = owned_at tasks (second_pass live [] (kept_of previous live tasks))
