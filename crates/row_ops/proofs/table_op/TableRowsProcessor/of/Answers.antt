use Rattle.row_ops.proofs.Fresh.{table-stands}
use Rattle.row_ops.proofs.table_op.TableRowsProcessor.of.Goals as goal

pub returns-clause-stands : goal.returns-clause-stands
returns-clause-stands c = table-stands _ _ c.new.ensures
