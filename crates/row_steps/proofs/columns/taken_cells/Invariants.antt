use Rattle.std.proofs.Common.{◌≡◌, ℕ, take, drop}
use Rattle.ksql_nodes.specs.Rows.{values}
use Rattle.row_steps.specs.Columns.{AreLeft}
use Rattle.row_steps.proofs.columns.taken_cells.Given as goal

-- the cells so far are taken, and those of the rest are still there
abbrev pub invariant-loop-expression : goal.invariant-loop-expression
invariant-loop-expression l =
    ((time : ℕ) → l.taken.items ≡ values (take l.expression-index l.columns) time l.fn.row)
    × AreLeft (drop l.expression-index l.columns) l.fn.row l.cells.items
