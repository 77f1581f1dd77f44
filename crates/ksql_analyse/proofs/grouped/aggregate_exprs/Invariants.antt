use Rattle.std.proofs.Common.{◌≡◌, take}
use Rattle.std.specs.List.{flat_map}
use Rattle.aggregate_rules.specs.Grouping.{aggregates_of}
use Rattle.ksql_analyse.specs.Judgement.{exprs}
use Rattle.ksql_analyse.proofs.grouped.aggregate_exprs.Given as goal

abbrev pub invariant-loop-column : goal.invariant-loop-column
invariant-loop-column l = l.all.items ≡ flat_map aggregates_of (exprs (take l.column-index l.columns))
