use Rattle.ksql_parser.proofs.OneTree.{one_tree}
use Rattle.ksql_parser.proofs.Settling.{one_list_from, one_refusal, not_both}
use Rattle.ksql_parser.proofs.parsing.one_list.Goals as goal

pub returns-clause-trees : goal.returns-clause-trees
returns-clause-trees c = one_list_from one_tree

pub returns-clause-refusal : goal.returns-clause-refusal
returns-clause-refusal c = one_refusal

pub returns-clause-not_both : goal.returns-clause-not_both
returns-clause-not_both c = not_both
