use Rattle.std.proofs.Common.{◌∙◌, ap, ap₂, sym, ℕ, List, take, get_or, Bool}
use Rattle.std.specs.Prelude.{Option, Some, if◌then◌else◌}
use Rattle.std.proofs.lemmas.List.{take_more}
use Rattle.assignor.specs.declared.assignment.Owned.{Owned}
use Rattle.assignor.specs.Rule.{owner_of}
use Rattle.assignor.proofs.OwnerLemmas.{same_task, owner_of-push}
use Rattle.assignor.proofs.previous.owners_by_task.Goals as goal

pub loop-owned-preserved : goal.loop-owned-preserved
loop-owned-preserved c = λ task.
    let previous = c.args.previous.now in
    let i = c.loop-owned.owned-index in
    let none : Owned = record { task = record { sub = 0; part = 0 }; worker = 0 } in
    let owned : Owned = get_or previous i none in
    c.in_ok-insert.ensures.updates.0 task
    ∙ ap₂ (λ (b : Bool) (before : Option ℕ). if b then Some owned.worker else before) (same_task owned.task task) (c.loop-owned.invariant task)
    ∙ sym (owner_of-push (take i previous) owned task)
    ∙ ap (λ (pairs : List Owned). owner_of pairs task) (sym (take_more previous i none c.loop-owned-test.true))
