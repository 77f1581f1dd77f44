use Rattle.std.proofs.Common.{◌≡◌, ◌++◌, map, take}
use Rattle.ksql_clauses.specs.Items.{star_column}
use Rattle.ksql_clauses.proofs.items.with_columns.Given as goal

abbrev pub invariant-loop-column : goal.invariant-loop-column
invariant-loop-column l = l.found.items ≡ l.fn.found.items ++ map (star_column l.join l.alias) (take l.column-index l.columns)
