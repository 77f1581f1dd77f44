use Rattle.assignor.proofs.Whole.{is_balanced}
use Rattle.assignor.proofs.laws.balanced.Goals as goal

pub returns : goal.returns
returns c = is_balanced
