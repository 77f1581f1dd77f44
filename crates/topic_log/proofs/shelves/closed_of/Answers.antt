use Rattle.std.proofs.Common.{◌≡◌, ◌∙◌, ap, sym, ℕ, List, [], drop}
use Rattle.std.proofs.lemmas.List.{drop_all}
use Rattle.topic_log.specs.declared.shelves.TaskShelf.{TaskShelf}
use Rattle.topic_log.proofs.Least.{least_from, lowest-from_front}
use Rattle.topic_log.proofs.shelves.closed_of.Goals as goal

pub returns : goal.returns
returns c =
    let tasks : List TaskShelf = c.args.tasks.now in
    let first : TaskShelf = c.in-Some.first.now in
    let done : TaskShelf → ℕ = λ k. k.done in
    let over : drop c.loop-task.task-index tasks ≡ [] = drop_all c.loop-task.task-index tasks c.loop-task-test.false in
    ap (least_from done c.loop-task.least) (sym over) ∙ c.loop-task.invariant
    ∙ sym (lowest-from_front done c.args.fed tasks first (sym c.in-Some.ensures.value))
