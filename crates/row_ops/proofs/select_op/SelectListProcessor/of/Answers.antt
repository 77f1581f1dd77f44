use Rattle.std.proofs.Common.{[]}
use Rattle.row_ops.proofs.Fresh.{select-stands}
use Rattle.row_ops.proofs.select_op.SelectListProcessor.of.Goals as goal

pub returns-clause-stands : goal.returns-clause-stands
returns-clause-stands c = select-stands _ _ []
