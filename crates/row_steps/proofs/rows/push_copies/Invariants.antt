use Rattle.std.proofs.Common.{◌≡◌, ◌++◌, take}
use Rattle.row_steps.proofs.rows.push_copies.Given as goal

abbrev pub invariant-loop-value : goal.invariant-loop-value
invariant-loop-value l = l.cells.items ≡ l.initial.cells.items ++ take l.value-index l.values
