use Rattle.assignor.proofs.Keeping.{keeps-all}
use Rattle.assignor.proofs.laws.keeps_all.Goals as goal

pub returns : goal.returns
returns c = keeps-all
