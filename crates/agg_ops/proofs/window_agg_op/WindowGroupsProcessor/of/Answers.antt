use Rattle.agg_ops.proofs.WindowHeld.{windows-stand}
use Rattle.agg_ops.proofs.window_agg_op.WindowGroupsProcessor.of.Goals as goal

pub returns-clause-stands : goal.returns-clause-stands
returns-clause-stands c = windows-stand _ _ _ _ c.new.ensures
