use Rattle.ksql_nodes.proofs.Results.{through-as_one}
use Rattle.ksql_nodes.proofs.laws.chains_are_one.Goals as goal

pub returns : goal.returns
returns c = through-as_one
