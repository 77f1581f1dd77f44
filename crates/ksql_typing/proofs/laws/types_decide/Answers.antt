use Rattle.ksql_typing.proofs.TypeLaws.{some_type, value, truth, agreement}
use Rattle.ksql_typing.proofs.laws.types_decide.Goals as goal

pub returns : goal.returns
returns c = record { some_type = some_type; value = value; truth = truth; agreement = agreement }
