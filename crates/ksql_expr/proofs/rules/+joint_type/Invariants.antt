use Rattle.std.proofs.Common.{length}
use Rattle.ksql_expr.proofs.rules.+joint_type.Given as goal

abbrev pub decreases-joint_type : goal.decreases-joint_type
decreases-joint_type l = length l.types.now
