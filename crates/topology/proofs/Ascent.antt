-- The tasks of sub-topologies whose numbers rise ascend.
use Rattle.std.proofs.Common.{◌≡◌, ap, ap₂, ℕ, zero, suc, ◌+◌, ◌<◌, List, [], ◌∷◌, ◌++◌, map, arith}
use Rattle.std.specs.List.{AllByRecursion, AllPairs, range_with_len}
use Rattle.std.specs.Ordering.{nat_cmp, ordering_then}
use Rattle.std.specs.declared.cmp.Ordering.{Ordering}
use Rattle.std.specs.declared.cmp.Ordering.TheVariants.{Less, Equal}
use Rattle.std.proofs.lemmas.Bool.Decides.{nat_tests}
use Rattle.std.proofs.lemmas.List.Elements.{All-from_recursion, recursion_from_All}
use Rattle.std.proofs.lemmas.List.Kept.{AllPairs-cons}
use Rattle.ksql_types.specs.declared.relation.TaskName.{TaskName}
use Rattle.ksql_types.specs.Order.{task_cmp}
use Rattle.ksql_place.specs.Ascending.{Rises}
use Rattle.topology.specs.declared.topology.Sub.{Sub}
use Rattle.topology.specs.Tasks.{tasks_of}

-- ---- two tasks

less : (a b : ℕ) → a < b → nat_cmp a b ≡ Less
less a b low = grind (arith, nat_tests)

equal : (a : ℕ) → nat_cmp a a ≡ Equal
equal a = grind (arith, nat_tests)

abbrev task : ℕ → ℕ → TaskName
task sub part = record { sub = sub; part = part }

by_sub : (a b : TaskName) → a.sub < b.sub → task_cmp a b ≡ Less
by_sub a b low = ap (λ (o : Ordering). ordering_then o (nat_cmp a.part b.part)) (less a.sub b.sub low)

by_part : (sub first second : ℕ) → first < second → task_cmp (task sub first) (task sub second) ≡ Less
by_part sub first second low = ap₂ ordering_then (equal sub) (less first second low)

-- ---- the tasks of one sub-topology, from a partition on, and those of later ones

abbrev tasks_from : ℕ → ℕ → ℕ → List TaskName
tasks_from sub from n = map (task sub) (range_with_len from n)

below-row : (sub part from n : ℕ) (rest : List TaskName) → part < from → AllByRecursion (λ (t : TaskName). task_cmp (task sub part) t ≡ Less) rest →
    AllByRecursion (λ (t : TaskName). task_cmp (task sub part) t ≡ Less) (tasks_from sub from n ++ rest)
below-row sub part from zero rest low below = below
below-row sub part from (suc n) rest low below = (by_part sub part from low, below-row sub part (from + 1) n rest (omega (arith, low)) below)

below-later : (sub part : ℕ) (rest : List TaskName) → AllByRecursion (λ (t : TaskName). sub < t.sub) rest → AllByRecursion (λ (t : TaskName). task_cmp (task sub part) t ≡ Less) rest
below-later sub part [] later = tt
below-later sub part (t ∷ rest) later = (by_sub (task sub part) t later.0, below-later sub part rest later.1)

row-rises : (sub from n : ℕ) (rest : List TaskName) → AllByRecursion (λ (t : TaskName). sub < t.sub) rest → Rises task_cmp rest → Rises task_cmp (tasks_from sub from n ++ rest)
row-rises sub from zero rest later up = up
row-rises sub from (suc n) rest later up =
    AllPairs-cons (λ (a b : TaskName). task_cmp a b ≡ Less) (task sub from) (tasks_from sub (from + 1) n ++ rest)
    (All-from_recursion (λ (t : TaskName). task_cmp (task sub from) t ≡ Less) (tasks_from sub (from + 1) n ++ rest)
    (below-row sub from (from + 1) n rest (omega arith) (below-later sub from rest later)))
    (row-rises sub (from + 1) n rest later up)

-- ---- the tasks of sub-topologies

row-later : (number sub from n : ℕ) (rest : List TaskName) → number < sub → AllByRecursion (λ (t : TaskName). number < t.sub) rest →
    AllByRecursion (λ (t : TaskName). number < t.sub) (tasks_from sub from n ++ rest)
row-later number sub from zero rest low later = later
row-later number sub from (suc n) rest low later = (low, row-later number sub (from + 1) n rest low later)

tasks-later : (number : ℕ) (ss : List Sub) → AllByRecursion (λ (s : Sub). number < s.number) ss → AllByRecursion (λ (t : TaskName). number < t.sub) (tasks_of ss)
tasks-later number [] later = tt
tasks-later number (s ∷ ss) later = row-later number s.number 0 s.partitions (tasks_of ss) later.0 (tasks-later number ss later.1)

first-below : (s : Sub) (ss : List Sub) → AllPairs (λ (a b : Sub). a.number < b.number) (s ∷ ss) → AllByRecursion (λ (t : Sub). s.number < t.number) ss
first-below s ss up = recursion_from_All (λ (t : Sub). s.number < t.number) ss (λ i d inside. up 0 (suc i) d (omega arith) (omega (arith, inside)))

pub tasks-rise : (ss : List Sub) → AllPairs (λ (a b : Sub). a.number < b.number) ss → Rises task_cmp (tasks_of ss)
tasks-rise [] up = λ i j d low inside. absurd (omega (arith, inside))
tasks-rise (s ∷ ss) up =
    row-rises s.number 0 s.partitions (tasks_of ss) (tasks-later s.number ss (first-below s ss up))
    (tasks-rise ss (λ i j d low inside. up (suc i) (suc j) d (omega (arith, low)) (omega (arith, inside))))
