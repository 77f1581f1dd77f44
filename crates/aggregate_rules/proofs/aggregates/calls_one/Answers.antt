use Rattle.std.proofs.Common.{◌∙◌}
use Rattle.aggregate_rules.proofs.Called.{same}
use Rattle.aggregate_rules.proofs.aggregates.calls_one.Goals as goal

pub returns : goal.returns
returns c = c.passes.ensures ∙ same c.args.wanted c.args.expr.now
