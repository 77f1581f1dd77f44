use Rattle.ksql_nodes.proofs.Cuts.{through-cut}
use Rattle.ksql_nodes.proofs.laws.chains_are_cut.Goals as goal

pub returns : goal.returns
returns c = through-cut
