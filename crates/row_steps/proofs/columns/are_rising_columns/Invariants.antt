use Rattle.std.proofs.Common.{◌≡◌, ◌≤◌, drop}
use Rattle.row_steps.specs.Columns.{are_rising}
use Rattle.row_steps.proofs.columns.are_rising_columns.Given as goal

-- the columns so far ascend, and the rest must continue from there
abbrev pub invariant-loop-expression : goal.invariant-loop-expression
invariant-loop-expression l = (are_rising l.from (drop l.expression-index l.expressions) ≡ are_rising 0 l.expressions) × (l.from ≤ 4294967296)
