use Rattle.std.proofs.Common.{◌≡◌, ◌++◌, map, take}
use Rattle.ksql_clauses.specs.Sources.{scope_column}
use Rattle.ksql_clauses.proofs.sources.with_part.Given as goal

abbrev pub invariant-loop-column : goal.invariant-loop-column
invariant-loop-column l = l.found.items ≡ l.fn.found.items ++ map (scope_column l.alias) (take l.column-index l.columns)
