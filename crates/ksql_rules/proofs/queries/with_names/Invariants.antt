use Rattle.std.proofs.Common.{◌≡◌, ◌++◌, map, take}
use Rattle.ksql_rules.proofs.queries.with_names.Given as goal

abbrev pub invariant-loop-column : goal.invariant-loop-column
invariant-loop-column l =
    map (λ name. name.now) l.found.items
    ≡ map (λ name. name.now) l.fn.found.items ++ map (λ c. c.name) (map (λ c. c.now) (take l.column-index l.columns))
