use Rattle.std.proofs.Common.{◌≡◌, take}
use Rattle.std.specs.List.{flat_map}
use Rattle.ksql_clauses.specs.Sources.{scope_columns}
use Rattle.ksql_clauses.proofs.sources.from_columns.Given as goal

abbrev pub invariant-loop-source : goal.invariant-loop-source
invariant-loop-source l = l.found.items ≡ flat_map scope_columns (take l.source-index l.known)
