-- The worker that had a task, from pairs in their order.
use Rattle.std.proofs.Common.{◌≡◌, ◌∙◌, ap, refl, ℕ, List, [], ◌∷◌, ◌++◌, Bool, true, false, arith}
use Rattle.std.specs.Prelude.{Option, None, Some, if◌then◌else◌, ◌==◌, ◌&&◌}
use Rattle.std.specs.Option.{option_or}
use Rattle.std.specs.Ordering.{is_eq}
use Rattle.std.proofs.lemmas.Bool.Decides.{nat_tests}
use Rattle.ksql_types.specs.declared.relation.TaskName.{TaskName}
use Rattle.assignor.specs.declared.assignment.Owned.{Owned}
use Rattle.ksql_types.specs.Order.{task_cmp}
use Rattle.assignor.specs.Rule.{owner_of}

pub same_task : (a b : TaskName) → is_eq (task_cmp a b) ≡ (a.sub == b.sub && a.part == b.part)
same_task a b = grind (arith, nat_tests)

or-none : (b : Bool) (w : ℕ) → option_or None (if b then Some w else None) ≡ (if b then Some w else None)
or-none true w = refl
or-none false w = refl

or-if : (b : Bool) (w : ℕ) (rest other : Option ℕ) → option_or (if b then Some w else rest) other ≡ (if b then Some w else option_or rest other)
or-if true w rest other = refl
or-if false w rest other = refl

-- one more pair
pub owner_of-push : (pairs : List Owned) (owned : Owned) (task : TaskName) →
    owner_of (pairs ++ owned ∷ []) task ≡ (if owned.task.sub == task.sub && owned.task.part == task.part then Some owned.worker else owner_of pairs task)
owner_of-push [] owned task = or-none (owned.task.sub == task.sub && owned.task.part == task.part) owned.worker
owner_of-push (first ∷ pairs) owned task =
    let other : Option ℕ = if first.task.sub == task.sub && first.task.part == task.part then Some first.worker else None in
    ap (λ (rest : Option ℕ). option_or rest other) (owner_of-push pairs owned task)
    ∙ or-if (owned.task.sub == task.sub && owned.task.part == task.part) owned.worker (owner_of pairs task) other
