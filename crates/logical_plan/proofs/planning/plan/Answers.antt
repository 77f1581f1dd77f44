use Rattle.std.proofs.Common.{◌≡◌, subst, IfOk}
use Rattle.logical_plan.specs.declared.tree.Plan.{Plan}
use Rattle.logical_plan.proofs.PlanMeanings.{plan-made, plan-means}
use Rattle.logical_plan.proofs.planning.plan.Goals as goal

pub returns-clause-exact : goal.returns-clause-exact
returns-clause-exact c =
    subst (λ (t : Plan). IfOk c.shape_plan.result (λ p. p ≡ t))
    (plan-made c.args.program.now.items c.args.query.now c.leftmost.result c.kind_of-over.result c.in_ok-read.read c.in_ok-filtered.filtered
    c.leftmost.ensures c.kind_of-over.ensures c.in_ok-read.ensures c.in_ok-filtered.ensures)
    c.shape_plan.ensures

pub returns-clause-means : goal.returns-clause-means
returns-clause-means c =
    plan-means c.shape_plan.result c.args.program.now.items c.args.query.now
    (subst (λ (t : Plan). IfOk c.shape_plan.result (λ p. p ≡ t))
    (plan-made c.args.program.now.items c.args.query.now c.leftmost.result c.kind_of-over.result c.in_ok-read.read c.in_ok-filtered.filtered
    c.leftmost.ensures c.kind_of-over.ensures c.in_ok-read.ensures c.in_ok-filtered.ensures)
    c.shape_plan.ensures)
