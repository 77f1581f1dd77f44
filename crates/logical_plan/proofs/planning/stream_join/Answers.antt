use Rattle.std.proofs.Common.{◌≡◌, ◌∙◌, ap, ap₂, subst, IfOk}
use Rattle.ksql_expr.specs.declared.typed.Typed.{Typed}
use Rattle.logical_plan.specs.Plans.{left_plan}
use Rattle.logical_plan.specs.declared.tree.Plan.{Plan}
use Rattle.logical_plan.specs.declared.tree.Plan.TheVariants as tree
use Rattle.logical_plan.proofs.planning.stream_join.Goals as goal

pub returns : goal.returns
returns c =
    let kind = c.args.kind in
    let side = left_plan c.args.program.now.items kind c.args.left c.args.right c.args.on.now in
    let left : c.in_ok-left.left ≡ side = subst (λ r. IfOk r (λ p. p ≡ side)) c.in_ok-left.was (c.left_plan.ensures kind c.args.right) in
    subst (λ (t : Plan). IfOk c.of.result (λ p. p ≡ t))
    (ap (λ (on : Typed). tree.JoinStreamTable kind on c.in_ok-left.left c.in_ok-right.right) c.in_ok-on.ensures
    ∙ ap₂ (tree.JoinStreamTable kind c.args.on.now) left c.in_ok-right.ensures)
    c.of.ensures
