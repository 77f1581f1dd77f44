use Rattle.topology_laws.proofs.SentPlaces.{placed}
use Rattle.topology_laws.proofs.laws.sends_are_placed.Goals as goal

pub returns : goal.returns
returns c = placed
