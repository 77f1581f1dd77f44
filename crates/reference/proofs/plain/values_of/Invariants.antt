use Rattle.std.proofs.Common.{◌≡◌, map, take}
use Rattle.ksql_eval.specs.View.{cells}
use Rattle.ksql_expr.specs.Value.{value_of}
use Rattle.reference.proofs.plain.values_of.Given as goal

abbrev pub invariant-loop-expression : goal.invariant-loop-expression
invariant-loop-expression l = l.values.items ≡ map (value_of (cells l.view) l.view.time) (take l.expression-index l.expressions)
