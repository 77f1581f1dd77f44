use Rattle.std.proofs.Common.{◌≡◌, map, take}
use Rattle.ksql_scopes.specs.Resolved.{resolved}
use Rattle.ksql_clauses.specs.Keys.{alone}
use Rattle.ksql_clauses.proofs.keys.resolved_alone.Given as goal

abbrev pub invariant-loop-expr : goal.invariant-loop-expr
invariant-loop-expr l = map (λ es. es.items) l.each.items ≡ alone (map (resolved l.scope) (take l.expr-index l.exprs))
