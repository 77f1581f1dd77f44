use Rattle.std.proofs.Common.{length}
use Rattle.op_chain.proofs.along.+load_along.Given as goal

abbrev pub decreases-load_along : goal.decreases-load_along
decreases-load_along l = length l.ops.now
