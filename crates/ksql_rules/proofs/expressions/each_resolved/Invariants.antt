use Rattle.std.proofs.Common.{◌≡◌, map, take}
use Rattle.ksql_scopes.specs.Resolved.{resolved}
use Rattle.ksql_rules.proofs.expressions.each_resolved.Given as goal

abbrev pub invariant-loop-expr : goal.invariant-loop-expr
invariant-loop-expr l = l.each.items ≡ map (resolved l.scope) (take l.expr-index l.exprs)
