use Rattle.topology_laws.proofs.EachSent.{means}
use Rattle.topology_laws.proofs.laws.topology_means_its_queries.Goals as goal

pub returns : goal.returns
returns c = means
