use Rattle.assignor.proofs.Whole.{is_whole}
use Rattle.assignor.proofs.laws.each_task_owned.Goals as goal

pub returns : goal.returns
returns c = is_whole
