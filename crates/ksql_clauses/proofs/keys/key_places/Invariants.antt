use Rattle.std.proofs.Common.{◌≡◌, map, take}
use Rattle.ksql_clauses.specs.Keys.{first_of}
use Rattle.ksql_clauses.proofs.keys.key_places.Given as goal

abbrev pub invariant-loop-exprs : goal.invariant-loop-exprs
invariant-loop-exprs l = l.places.items ≡ map (λ es. first_of es l.columns) (map (λ es. es.items) (take l.exprs-index l.needs))
