use Rattle.storing_laws.proofs.KeptShort.{values-short}
use Rattle.storing_laws.proofs.laws.values_stay_short.Goals as goal

pub returns : goal.returns
returns c = values-short
