use Rattle.std.proofs.Common.{◌≡◌, ◌++◌, map, take, drop}
use Rattle.operator.specs.Holding.{in_store}
use Rattle.operator.proofs.logs.with_number.Given as goal

abbrev pub invariant-loop-entry : goal.invariant-loop-entry
invariant-loop-entry l = l.entry-items ≡ map (in_store l.number) (take l.entry-index l.initial.entry-items) ++ drop l.entry-index l.initial.entry-items
