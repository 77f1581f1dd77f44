use Rattle.std.proofs.Common.{sym}
use Rattle.expression_trees.proofs.Becoming.{moved}
use Rattle.expression_trees.proofs.Unchanged.{unchanged}
use Rattle.expression_trees.proofs.copies.ExprCopyOf.copy.Goals as goal

pub returns : goal.returns
returns c = moved _ _ _ (sym (unchanged c.args.self.now)) c.becomes.ensures
