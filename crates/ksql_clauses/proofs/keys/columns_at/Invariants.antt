use Rattle.std.proofs.Common.{◌≡◌, ◌++◌, map, drop}
use Rattle.ksql_clauses.specs.Keys.{at_places}
use Rattle.ksql_clauses.proofs.keys.columns_at.Given as goal

abbrev pub invariant-loop-place : goal.invariant-loop-place
invariant-loop-place l = map (λ c. c.now) l.found.items ++ at_places l.columns (drop l.place-index l.places) ≡ at_places l.columns l.places
