use Rattle.std.proofs.Common.{◌≡◌, ◌∙◌, ◌++◌, ◌∷◌, [], ap₂, sym, ℕ, List, get_or}
use Rattle.std.specs.Prelude.{Option}
use Rattle.ksql_types.specs.declared.relation.TaskName.{TaskName}
use Rattle.assignor.specs.Rule.{owner_of}
use Rattle.assignor.proofs.ListLemmas.{map-take_more}
use Rattle.assignor.proofs.previous.owners_of.Goals as goal

pub loop-task-preserved : goal.loop-task-preserved
loop-task-preserved c =
    let tasks = c.args.tasks.now in
    let i = c.loop-task.task-index in
    let none : TaskName = record { sub = 0; part = 0 } in
    let task : TaskName = get_or tasks i none in
    let owner : c.copied.result ≡ owner_of c.args.previous.now task = c.copied.ensures ∙ c.get.ensures.value ∙ c.in_ok-by_task.ensures task in
    c.in_ok-push.ensures.items
    ∙ ap₂ (λ (owners : List (Option ℕ)) (last : Option ℕ). owners ++ last ∷ []) c.loop-task.invariant owner
    ∙ sym (map-take_more (owner_of c.args.previous.now) tasks i none c.loop-task-test.true)
