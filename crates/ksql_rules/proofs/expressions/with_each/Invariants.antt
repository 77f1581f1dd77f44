use Rattle.std.proofs.Common.{◌≡◌, ◌++◌, map, take}
use Rattle.ksql_rules.proofs.expressions.with_each.Given as goal

abbrev pub invariant-loop-expr : goal.invariant-loop-expr
invariant-loop-expr l = map (λ a. a.now) l.found.items ≡ map (λ a. a.now) l.fn.found.items ++ take l.expr-index l.exprs
