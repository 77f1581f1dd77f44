use Rattle.std.proofs.Common.{map, take}
use Rattle.ksql_rules.specs.Findings.{IsFound}
use Rattle.ksql_rules.proofs.findings.found_in.Given as goal

abbrev pub invariant-loop-expr : goal.invariant-loop-expr
invariant-loop-expr l = IsFound l.found l.scope (map (λ a. a.now) (take l.expr-index l.exprs))
