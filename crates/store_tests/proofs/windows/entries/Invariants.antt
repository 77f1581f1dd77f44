use Rattle.std.proofs.Common.{All}
use Rattle.operator.specs.Holding.{IsWindowEntry}
use Rattle.store_tests.proofs.windows.entries.Given as goal

abbrev pub invariant-loop-piece : goal.invariant-loop-piece
invariant-loop-piece l = All IsWindowEntry l.log.items
