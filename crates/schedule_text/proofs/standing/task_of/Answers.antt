-- The task is one of the sub-topology at hand, or else of those after it.
use Rattle.std.proofs.Common.{◌≡◌, ◌+◌, ◌<◌, ◌∷◌, ℕ, length, Bool, true, cond, Some, None, List, drop, get_or, ap, sym, ◌∙◌}
use Rattle.std.specs.Prelude.{◌==◌, ◌&&◌, ◌||◌, nat_lt}
use Rattle.std.proofs.lemmas.List.{at_drop_more}
use Rattle.ksql_types.specs.declared.relation.TaskName.{TaskName}
use Rattle.topology.specs.declared.topology.Sub.{Sub}
use Rattle.schedule_text.specs.Forms.{named}
use Rattle.schedule_text.specs.Refusals.{is_task}
use Rattle.schedule_text.proofs.TaskLemmas.{is_task-cons, same_task}
use Rattle.schedule_text.proofs.standing.task_of.Goals as goal

-- the test of the sub-topology at hand
test : (subs : List Sub) (task : TaskName) (i : ℕ) (other : Sub) (found : Bool) → i < length subs → other ≡ get_or subs i other
    → found ≡ ((other.number == task.sub) && nat_lt task.part other.partitions) → is_task subs task ≡ is_task (drop i subs) task
    → is_task subs task ≡ (found || is_task (drop (i + 1) subs) task)
test subs task i other found inside is tests so_far =
    so_far
    ∙ at_drop_more (λ (s : List Sub). is_task s task) subs i other inside
    ∙ ap (λ (o : Sub). is_task (o ∷ drop (i + 1) subs) task) (sym is)
    ∙ is_task-cons other (drop (i + 1) subs) task
    ∙ ap (λ (b : Bool). b || is_task (drop (i + 1) subs) task) (sym tests)

pub returns-then-has_task : goal.returns-then-has_task
returns-then-has_task c =
    let task : TaskName = named c.args.sub.now c.args.part.now in
    let tests = c.has_task.ensures.test task.sub task.part c.decimal-number.ensures c.decimal-partition.ensures in
    let is = test c.args.subs.now task c.loop-other.other-index c.other-item.result c.has_task.result c.loop-other-test.true c.other-item.is tests c.loop-other.invariant in
    let found : is_task c.args.subs.now task ≡ true = is ∙ ap (λ (b : Bool). b || is_task (drop (c.loop-other.other-index + 1) c.args.subs.now) task) c.if-has_task.true in
    ap Some (same_task c.other-item.result.number c.other-item.result.partitions task.sub task.part c.decimal-partition.result c.decimal-partition.ensures (c.has_task.ensures.small c.if-has_task.true) (sym tests ∙ c.if-has_task.true))
    ∙ sym (ap (λ (b : Bool). cond b (Some task) None) found)

pub loop-other-preserved : goal.loop-other-preserved
loop-other-preserved c =
    let task : TaskName = named c.args.sub.now c.args.part.now in
    let tests = c.has_task.ensures.test task.sub task.part c.decimal-number.ensures c.decimal-partition.ensures in
    test c.args.subs.now task c.loop-other.other-index c.other-item.result c.has_task.result c.loop-other-test.true c.other-item.is tests c.loop-other.invariant
    ∙ ap (λ (b : Bool). b || is_task (drop (c.loop-other.other-index + 1) c.args.subs.now) task) c.if-has_task.false
