use Rattle.std.proofs.Common.{◌≡◌, ◌++◌, map, take}
use Rattle.ksql_nodes.specs.Aggregates.{worth}
use Rattle.reference.specs.Steps.{entry_of}
use Rattle.reference.proofs.group_changes.outcome.Given as goal

abbrev pub invariant-loop-agg : goal.invariant-loop-agg
invariant-loop-agg l = l.row.items ≡ l.group ++ map (worth l.over (map entry_of l.entries)) (take l.agg-index l.aggs)
