use Rattle.grouped_expressions.proofs.Equality.{equal, equal-trees, same, same-trees}
use Rattle.grouped_expressions.proofs.laws.sameness_is_equality.Goals as goal

pub returns-clause-forms : goal.returns-clause-forms
returns-clause-forms c = λ a b. (equal a b, same a b)

pub returns-clause-trees : goal.returns-clause-trees
returns-clause-trees c = λ a b. (equal-trees a b, same-trees a b)
