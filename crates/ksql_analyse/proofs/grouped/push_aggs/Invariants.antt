use Rattle.std.proofs.Common.{◌≡◌, ◌++◌, map, take}
use Rattle.ksql_analyse.specs.Judgement.{agg_form}
use Rattle.ksql_analyse.proofs.grouped.push_aggs.Given as goal

abbrev pub invariant-loop-agg : goal.invariant-loop-agg
invariant-loop-agg l = l.columns.items ≡ l.initial.columns.items ++ map agg_form (take l.agg-index l.aggs)
