use Rattle.std.proofs.Common.{◌≡◌, ◌++◌, map, drop}
use Rattle.ksql_clauses.specs.Keys.{besides}
use Rattle.ksql_clauses.proofs.KeyColumns.{others_from}
use Rattle.ksql_clauses.proofs.keys.columns_besides.Given as goal

abbrev pub invariant-loop-number : goal.invariant-loop-number
invariant-loop-number l = map (λ c. c.now) l.found.items ++ others_from l.places l.number (drop l.number l.columns) ≡ besides l.places l.columns
