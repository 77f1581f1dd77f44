use Rattle.std.proofs.Common.{◌≡◌, drop}
use Rattle.ksql_scopes.specs.Scope.{columns_known_as}
use Rattle.ksql_scopes.specs.Senses.{sense, view}
use Rattle.ksql_scopes.proofs.Senses.{with_rest}
use Rattle.ksql_scopes.proofs.sense.column_sense.Given as goal

abbrev pub invariant-loop-index : goal.invariant-loop-index
invariant-loop-index l =
    with_rest l.qualifier l.name (view l.found) l.index (drop l.index l.columns) ≡ sense (columns_known_as l.qualifier l.name 0 l.columns)
