use Rattle.std.proofs.Common.{length}
use Rattle.ksql_type_sets.proofs.possible.+joint_types.Given as goal

abbrev pub decreases-joint_types : goal.decreases-joint_types
decreases-joint_types l = length l.results.now
