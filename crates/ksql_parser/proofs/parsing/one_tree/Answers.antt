use Rattle.ksql_parser.proofs.OneTree.{one_tree}
use Rattle.ksql_parser.proofs.parsing.one_tree.Goals as goal

pub returns : goal.returns
returns c = one_tree
