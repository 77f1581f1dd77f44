use Rattle.std.proofs.Common.{sym}
use Rattle.expression_trees.proofs.Becoming.{moved}
use Rattle.expression_trees.proofs.Unchanged.{unchanged_when}
use Rattle.expression_trees.proofs.copies.WhenTextCopyOf.copy.Goals as goal

pub returns : goal.returns
returns c = moved _ _ _ (sym (unchanged_when c.args.self.now)) c.when_becomes.ensures
