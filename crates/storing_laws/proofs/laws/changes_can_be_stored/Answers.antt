use Rattle.storing_laws.proofs.Storing.{can-be-stored}
use Rattle.storing_laws.proofs.laws.changes_can_be_stored.Goals as goal

pub returns : goal.returns
returns c = can-be-stored
