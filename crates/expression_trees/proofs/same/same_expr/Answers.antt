use Rattle.std.proofs.lemmas.Bool.Decides.{same_from_decides}
use Rattle.expression_trees.proofs.Equality.{equal, same}
use Rattle.expression_trees.proofs.same.same_expr.Goals as goal

pub returns : goal.returns
returns c = same_from_decides _ _ c.is_expr.ensures (equal c.args.a.now c.args.b.now, same c.args.a.now c.args.b.now)
