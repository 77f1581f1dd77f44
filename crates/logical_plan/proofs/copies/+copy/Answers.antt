use Rattle.std.proofs.Common.{◌≡◌, IfOk, sym, subst}
use Rattle.logical_plan.specs.declared.tree.Plan.{Plan}
use Rattle.logical_plan.proofs.copies.+copy.Goals as goal

pub copy_plan-returns-in-Select : goal.copy_plan-returns-in-Select
copy_plan-returns-in-Select t c =
    subst (λ (p : Plan). IfOk c.select_of.result (λ copied. copied ≡ p)) (sym c.in-Select.is)
    (c.select_of.ensures c.in-Select.keys c.in-Select.values c.in-Select.arg c.copy-in-Select.ensures c.copy-in-Select-2.ensures c.copy_boxed-in-Select.ensures)
