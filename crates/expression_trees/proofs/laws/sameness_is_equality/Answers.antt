use Rattle.expression_trees.proofs.Equality.{equal, same}
use Rattle.expression_trees.proofs.laws.sameness_is_equality.Goals as goal

pub returns : goal.returns
returns c = λ a b. (equal a b, same a b)
