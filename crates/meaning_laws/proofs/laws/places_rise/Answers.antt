use Rattle.meaning_laws.proofs.RelationPlaces.{meant-placed}
use Rattle.meaning_laws.proofs.laws.places_rise.Goals as goal

pub returns : goal.returns
returns c = meant-placed
