use Rattle.agg_ops.proofs.Fresh.{groups-stand}
use Rattle.agg_ops.proofs.groups.GroupsProcessor.of.Goals as goal

pub returns-clause-stands : goal.returns-clause-stands
returns-clause-stands c = groups-stand _ _ _ c.new.ensures
