use Rattle.join_ops.proofs.Fresh.{tables-stand}
use Rattle.join_ops.proofs.table_table_op.TableTableProcessor.of.Goals as goal

pub returns-clause-stands : goal.returns-clause-stands
returns-clause-stands c = tables-stand _ _ _ _ _ c.new.ensures.left c.new.ensures.right
