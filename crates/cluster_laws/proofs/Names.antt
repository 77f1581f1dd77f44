-- The tasks of a program's topology are pairwise different.
use Rattle.std.proofs.Common.{◌≡◌, ap, ℕ, zero, suc, ◌+◌, ◌<◌, List, [], ◌∷◌, ◌++◌, arith}
use Rattle.std.specs.List.{AllByRecursion, range_with_len}
use Rattle.ksql_types.specs.declared.relation.TaskName.{TaskName}
use Rattle.ksql_program.specs.declared.program.Item.{Item}
use Rattle.ksql_nodes.proofs.Lists.{All-append}
use Rattle.meaning_laws.proofs.Lists.{All-map, All-of, All-weaker, Pairwise, Pairwise-from_all, Pairwise-map, Pairwise-weaker}
use Rattle.topology.specs.Tasks.{tasks_of, tasks_of_sub}
use Rattle.topology.specs.Topologies.{subs}
use Rattle.topology.specs.declared.topology.Sub.{Sub}
use Rattle.topology.proofs.Numbered.{subs-rise}

abbrev pub AreApart : TaskName → TaskName → Type 0
AreApart u v = u ≡ v → ⊥

pub pairs-append : {A : Type 0} (R : A → A → Type 0) (xs ys : List A) → Pairwise R xs → Pairwise R ys → AllByRecursion (λ x. AllByRecursion (R x) ys) xs → Pairwise R (xs ++ ys)
pairs-append R [] ys first second between = second
pairs-append R (x ∷ xs) ys first second between = (All-append (R x) xs ys first.0 between.0, pairs-append R xs ys first.1 second between.1)

-- ---- the tasks of one sub-topology

numbers-from : (from most n : ℕ) → most < from → AllByRecursion (λ k. most < k) (range_with_len from n)
numbers-from from most zero low = tt
numbers-from from most (suc n) low = (low, numbers-from (from + 1) most n (omega (arith, low)))

numbers-apart : (from n : ℕ) → Pairwise (λ a b. a < b) (range_with_len from n)
numbers-apart from zero = tt
numbers-apart from (suc n) = (numbers-from (from + 1) from n (omega arith), numbers-apart (from + 1) n)

parts-apart : (s : Sub) → Pairwise AreApart (tasks_of_sub s)
parts-apart s =
    Pairwise-map AreApart (λ (part : ℕ). record { sub = s.number; part = part }) (range_with_len 0 s.partitions)
    (Pairwise-weaker (λ a b. a < b) (λ (a b : ℕ). AreApart (record { sub = s.number; part = a }) (record { sub = s.number; part = b }))
    (λ a b low same. let equal : a ≡ b = ap (λ (u : TaskName). u.part) same in omega (arith, low, equal)) (range_with_len 0 s.partitions) (numbers-apart 0 s.partitions))

parts-numbered : (s : Sub) → AllByRecursion (λ (u : TaskName). u.sub ≡ s.number) (tasks_of_sub s)
parts-numbered s =
    All-map (λ (u : TaskName). u.sub ≡ s.number) (λ (part : ℕ). record { sub = s.number; part = part }) (range_with_len 0 s.partitions)
    (All-of (range_with_len 0 s.partitions) (λ part. λ i. s.number))

-- ---- those of all

later-tasks : (n : ℕ) (ss : List Sub) → AllByRecursion (λ (s : Sub). n < s.number) ss → AllByRecursion (λ (u : TaskName). n < u.sub) (tasks_of ss)
later-tasks n [] all = tt
later-tasks n (s ∷ ss) all =
    All-append (λ (u : TaskName). n < u.sub) (tasks_of_sub s) (tasks_of ss)
    (All-weaker (λ (u : TaskName). u.sub ≡ s.number) (λ (u : TaskName). n < u.sub) (λ u is. let low : n < s.number = all.0 in omega (arith, is, low)) (tasks_of_sub s) (parts-numbered s))
    (later-tasks n ss all.1)

rising-apart : (ss : List Sub) → Pairwise (λ (a b : Sub). a.number < b.number) ss → Pairwise AreApart (tasks_of ss)
rising-apart [] rise = tt
rising-apart (s ∷ ss) rise =
    pairs-append AreApart (tasks_of_sub s) (tasks_of ss) (parts-apart s) (rising-apart ss rise.1)
    (All-weaker (λ (u : TaskName). u.sub ≡ s.number) (λ (u : TaskName). AllByRecursion (AreApart u) (tasks_of ss))
    (λ u is. All-weaker (λ (v : TaskName). s.number < v.sub) (AreApart u)
    (λ v low same. let equal : u.sub ≡ v.sub = ap (λ (w : TaskName). w.sub) same in omega (arith, is, low, equal)) (tasks_of ss) (later-tasks s.number ss rise.0))
    (tasks_of_sub s) (parts-numbered s))

pub tasks-apart : (items : List Item) → Pairwise AreApart (tasks_of (subs items))
tasks-apart items = rising-apart (subs items) (Pairwise-from_all (λ (a b : Sub). a.number < b.number) (subs items) (subs-rise items))
