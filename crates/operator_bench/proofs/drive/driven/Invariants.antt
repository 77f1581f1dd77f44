use Rattle.std.proofs.Common.{◌≡◌}
use Rattle.operator_bench.proofs.drive.driven.Given as goal

abbrev pub invariant-loop-number : goal.invariant-loop-number
invariant-loop-number g l = g.O.Operator.node l.op ≡ g.O.Operator.node l.fn.op
