use Rattle.std.proofs.Common.{◌≡◌, ◌++◌, map, take}
use Rattle.reference.specs.Grouping.{view_held, view_worth, lent_view}
use Rattle.reference.proofs.table_groups.outcome.Given as goal

abbrev pub invariant-loop-agg : goal.invariant-loop-agg
invariant-loop-agg l = l.row.items ≡ l.group ++ map (view_worth (view_held l.group (lent_view l.view).standing)) (take l.agg-index l.aggs)
