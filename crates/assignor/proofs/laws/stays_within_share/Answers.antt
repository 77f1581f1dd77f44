use Rattle.assignor.proofs.Keeping.{stays-within_share}
use Rattle.assignor.proofs.laws.stays_within_share.Goals as goal

pub returns : goal.returns
returns c = stays-within_share
