use Rattle.std.proofs.Common.{◌≡◌, map, take}
use Rattle.reference.specs.Grouping.{lent_view, view_change}
use Rattle.reference.proofs.table_groups.group_changes.Given as goal

abbrev pub invariant-loop-change : goal.invariant-loop-change
invariant-loop-change l = l.changes.items ≡ map (view_change l.aggs (lent_view l.before) (lent_view l.after)) (take l.change-index l.change-items)
