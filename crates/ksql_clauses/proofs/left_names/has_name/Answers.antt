use Rattle.std.proofs.Common.{◌∙◌}
use Rattle.ksql_clauses.proofs.LeftNames.{same}
use Rattle.ksql_clauses.proofs.left_names.has_name.Goals as goal

pub returns : goal.returns
returns c = c.passes.ensures ∙ same c.args.sought c.args.expr.now
