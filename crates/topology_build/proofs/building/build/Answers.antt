use Rattle.topology_build.proofs.Meaning.{answer-means}
use Rattle.topology_build.proofs.building.build.Goals as goal

pub returns-clause-means : goal.returns-clause-means
returns-clause-means c = answer-means c.args.program.now.items c.topology_of.result c.topology_of.ensures c.requires
