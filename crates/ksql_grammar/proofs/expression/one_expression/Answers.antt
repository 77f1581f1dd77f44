use Rattle.ksql_grammar.proofs.Whole.{one_expression, one_expressions}
use Rattle.ksql_grammar.proofs.expression.one_expression.Goals as goal

pub returns-clause-one : goal.returns-clause-one
returns-clause-one c = one_expression

pub returns-clause-list : goal.returns-clause-list
returns-clause-list c = one_expressions
