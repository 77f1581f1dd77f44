use Rattle.std.proofs.Common.{◌≡◌, ◌∙◌, ap, ap₂, sym, subst, Bool, IfOk}
use Rattle.std.specs.Prelude.{if◌then◌else◌}
use Rattle.logical_plan.specs.declared.tree.Plan.{Plan}
use Rattle.logical_plan.specs.declared.tree.Plan.TheVariants as tree
use Rattle.logical_plan.proofs.planning.left_plan.Goals as goal

pub returns-then-is_rekeyed : goal.returns-then-is_rekeyed
returns-then-is_rekeyed c = λ kind right.
    let on = c.args.on.now in
    let left = c.args.left in
    subst (λ (t : Plan). IfOk c.of.result (λ p. p ≡ t))
    (ap₂ tree.Rekey c.in_ok-key.ensures c.in_ok-arg.ensures
    ∙ ap (λ (b : Bool). if b then tree.Rekey on (tree.Source left) else tree.Source left) (sym c.if-is_rekeyed.true ∙ c.is_rekeyed.ensures kind right))
    c.of.ensures

pub returns : goal.returns
returns c = λ kind right.
    let on = c.args.on.now in
    let left = c.args.left in
    subst (λ (t : Plan). IfOk c.source-2.result (λ p. p ≡ t))
    (ap (λ (b : Bool). if b then tree.Rekey on (tree.Source left) else tree.Source left) (sym c.if-is_rekeyed.false ∙ c.is_rekeyed.ensures kind right))
    c.source-2.ensures
