use Rattle.core_laws.proofs.Showing.{core-contents, core-queries}
use Rattle.core_laws.proofs.laws.the_core_means_its_queries.Goals as goal

pub returns : goal.returns
returns c = record { contents = core-contents; queries = core-queries }
