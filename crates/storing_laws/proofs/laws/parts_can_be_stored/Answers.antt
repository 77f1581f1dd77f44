use Rattle.storing_laws.proofs.StoredParts.{stored-parts}
use Rattle.storing_laws.proofs.laws.parts_can_be_stored.Goals as goal

pub returns : goal.returns
returns c = stored-parts
