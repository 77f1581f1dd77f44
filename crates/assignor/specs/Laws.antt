-- What the assignment rule achieves.
use Rattle.std.specs.Prelude.{◌≡◌, ℕ, ◌+◌, ◌≤◌, List, [], map, take, slice_get, IsTrue, Option, Some}
use Rattle.std.specs.List.{list_all}
use Rattle.ksql_types.specs.declared.relation.TaskName.{TaskName}
use Rattle.assignor.specs.declared.assignment.Owned.{Owned}
use Rattle.assignor.specs.Rule.{count_of, how_many, owner_of, is_live, is_with, first_pass, share_of}

-- each task has exactly one owner, and it is live
abbrev pub IsWhole : List ℕ → List TaskName → List Owned → Type 0
IsWhole live tasks made =
    (map (λ owned. owned.task) made ≡ tasks) × IsTrue (list_all (λ owned. is_live live owned.worker) made)

-- no live worker has two or more tasks more than another
abbrev pub IsBalanced : List ℕ → List Owned → Type 0
IsBalanced live made =
    (a b : ℕ) → IsTrue (is_live live a) → IsTrue (is_live live b) → count_of a made ≤ count_of b made + 1

-- the task at the index belongs to the worker in the assignment, as it did before
abbrev pub Keeps : List TaskName → List Owned → ℕ → ℕ → Type 0
Keeps tasks made i worker = (task : TaskName) → slice_get tasks i ≡ Some task → slice_get made i ≡ Some (record { task = task; worker = worker })

-- the live worker had the task at the index
abbrev pub HadAt : List Owned → List ℕ → List TaskName → ℕ → ℕ → Type 0
HadAt previous live tasks i worker = (slice_get (map (owner_of previous) tasks) i ≡ Some (Some worker)) × IsTrue (is_live live worker)

-- how many of the tasks a worker had
abbrev pub had_of : List Owned → List TaskName → ℕ → ℕ
had_of previous tasks worker = how_many (λ task. is_with worker (owner_of previous task)) tasks

-- where the tasks before an index stay
abbrev pub kept_before : List Owned → List ℕ → List TaskName → ℕ → List (Option ℕ)
kept_before previous live tasks i = first_pass (share_of live tasks) live [] (map (owner_of previous) (take i tasks))
