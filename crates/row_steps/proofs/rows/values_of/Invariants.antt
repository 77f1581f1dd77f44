use Rattle.std.proofs.Common.{◌≡◌, take}
use Rattle.ksql_nodes.specs.Rows.{values}
use Rattle.row_steps.proofs.rows.values_of.Given as goal

abbrev pub invariant-loop-expression : goal.invariant-loop-expression
invariant-loop-expression l = l.values.items ≡ values (take l.expression-index l.expressions) l.time l.row
