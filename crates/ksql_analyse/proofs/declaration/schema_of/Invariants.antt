use Rattle.std.proofs.Common.{◌≡◌, filter, map, not, take}
use Rattle.ksql_rules.specs.Breaks.{is_key}
use Rattle.ksql_analyse.specs.Judgement as spec
use Rattle.ksql_analyse.proofs.declaration.schema_of.Given as goal

abbrev pub invariant-loop-column : goal.invariant-loop-column
invariant-loop-column l =
    (l.keys.items ≡ map spec.column_of (filter is_key (take l.column-index l.columns)))
    × (l.values.items ≡ map spec.column_of (filter (λ c. not (is_key c)) (take l.column-index l.columns)))
