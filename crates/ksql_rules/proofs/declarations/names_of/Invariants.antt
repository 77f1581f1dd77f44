use Rattle.std.proofs.Common.{◌≡◌, map, take}
use Rattle.ksql_rules.proofs.declarations.names_of.Given as goal

abbrev pub invariant-loop-column : goal.invariant-loop-column
invariant-loop-column l = map (λ name. name.now) l.found.items ≡ map (λ c. c.name) (take l.column-index l.columns)
