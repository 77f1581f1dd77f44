use Rattle.std.proofs.Common.{◌∙◌, ap}
use Rattle.key_planner.specs.Cuts.{stages_from}
use Rattle.key_planner.proofs.PlanStages.{plan-staged}
use Rattle.key_planner.proofs.staging.keyed.Goals as goal

pub returns : goal.returns
returns c =
    let items = c.args.program.now.items in
    record { cuts = λ q is. c.in_ok-stages_from.ensures ∙ ap (stages_from items) is ∙ plan-staged items q }
