use Rattle.std.proofs.Common.{sym}
use Rattle.key_planner.proofs.Columns.{decided-trees}
use Rattle.key_planner.proofs.keys.is_same.Goals as goal

pub returns : goal.returns
returns c = sym (decided-trees c.same_tree.result c.args.a.now c.args.b.now c.same_tree.ensures)
