use Rattle.std.proofs.Common.{length}
use Rattle.op_chain.proofs.along.+run_on.Given as goal

abbrev pub decreases-run_on : goal.decreases-run_on
decreases-run_on l = length l.ops.now
