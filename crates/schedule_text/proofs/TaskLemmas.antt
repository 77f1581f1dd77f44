-- The tasks of a sub-topology, by their numbers.
use Rattle.std.proofs.Common.{◌≡◌, ℕ, ◌+◌, ◌-◌, ◌^◌, ◌<◌, min, suc, zero, List, ◌∷◌, Bool, false, true, ap, ap₂, ◌∙◌, arith, map}
use Rattle.std.specs.Prelude.{◌==◌, ◌&&◌, ◌||◌, nat_lt, nat_le}
use Rattle.std.specs.List.{list_any, range_with_len}
use Rattle.std.proofs.lemmas.Bool.{and_parts, eqb-true}
use Rattle.std.proofs.lemmas.Bool.Decides.{nat_tests}
use Rattle.std.proofs.lemmas.List.Folds.{list_any-append}
use Rattle.ksql_types.specs.declared.relation.TaskName.{TaskName}
use Rattle.topology.specs.Tasks.{tasks_of, tasks_of_sub}
use Rattle.topology.specs.declared.topology.Sub.{Sub}
use Rattle.schedule_text.specs.Refusals.{is_task}

-- one partition more, from a number on
step : (here : Bool) (part from count : ℕ) → ((here && (from == part)) || (here && (nat_le (from + 1) part && nat_lt part (from + 1 + count)))) ≡ (here && (nat_le from part && nat_lt part (from + suc count)))
step here part from count = grind (arith, nat_tests)

none : (here : Bool) (part from : ℕ) → ◌≡◌ {A = Bool} false (here && (nat_le from part && nat_lt part (from + zero)))
none here part from = grind (arith, nat_tests)

-- whether one of n partitions, from a number on, is that of a task
among : (task : TaskName) (number from count : ℕ) →
    list_any (λ (other : TaskName). (other.sub == task.sub) && (other.part == task.part)) (map (λ part. record { sub = number; part = part }) (range_with_len from count))
    ≡ ((number == task.sub) && (nat_le from task.part && nat_lt task.part (from + count)))
among task number from zero = none (number == task.sub) task.part from
among task number from (suc count) =
    ap (λ (rest : Bool). ((number == task.sub) && (from == task.part)) || rest) (among task number (from + 1) count) ∙ step (number == task.sub) task.part from count

-- from the first on
from-first : (here : Bool) (part count : ℕ) → (here && (nat_le 0 part && nat_lt part (0 + count))) ≡ (here && nat_lt part count)
from-first here part count = grind (arith, nat_tests)

-- a task is one of a sub-topology's or of the others'
pub is_task-cons : (other : Sub) (subs : List Sub) (task : TaskName) → is_task (other ∷ subs) task ≡ (((other.number == task.sub) && nat_lt task.part other.partitions) || is_task subs task)
is_task-cons other subs task =
    list_any-append (λ (o : TaskName). (o.sub == task.sub) && (o.part == task.part)) (tasks_of_sub other) (tasks_of subs)
    ∙ ap (λ (first : Bool). first || is_task subs task) (among task other.number 0 other.partitions ∙ from-first (other.number == task.sub) task.part other.partitions)

-- the task that is found is the one that is looked for
pub same_task : (number partitions sub part partition : ℕ) → partition ≡ min part (2 ^ 64 - 1) → partition < 2 ^ 32 → ((number == sub) && nat_lt part partitions) ≡ true
    → ◌≡◌ {A = TaskName} (record { sub = number; part = partition }) (record { sub = sub; part = part })
same_task number partitions sub part partition capped small found =
    let same : number ≡ sub = eqb-true number sub (and_parts (number == sub) (nat_lt part partitions) found).0 in
    let whole : partition ≡ part = omega (arith, capped, small) in
    ap₂ (λ s p. record { sub = s; part = p }) same whole
