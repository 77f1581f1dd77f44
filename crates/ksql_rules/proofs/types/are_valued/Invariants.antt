use Rattle.std.proofs.Common.{◌≡◌, take}
use Rattle.std.specs.List.{list_all}
use Rattle.ksql_rules.specs.Decided.{is_valued}
use Rattle.ksql_rules.proofs.types.are_valued.Given as goal

abbrev pub invariant-loop-column : goal.invariant-loop-column
invariant-loop-column l = l.valued ≡ list_all (is_valued l.scope) (take l.column-index l.columns)
