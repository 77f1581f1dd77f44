use Rattle.std.proofs.Common.{length}
use Rattle.op_chain.proofs.along.+changes_along.Given as goal

abbrev pub decreases-changes_along : goal.decreases-changes_along
decreases-changes_along l = length l.ops.now
