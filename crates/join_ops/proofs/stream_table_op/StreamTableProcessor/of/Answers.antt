use Rattle.join_ops.proofs.Fresh.{stream-stands}
use Rattle.join_ops.proofs.stream_table_op.StreamTableProcessor.of.Goals as goal

pub returns-clause-stands : goal.returns-clause-stands
returns-clause-stands c = stream-stands _ _ _ _ _ c.new.ensures
