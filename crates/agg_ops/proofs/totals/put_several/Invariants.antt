use Rattle.std.proofs.Common.{◌≡◌, ◌++◌, drop, take}
use Rattle.agg_ops.proofs.totals.put_several.Given as goal

-- the first values, and then all but the first of the list
abbrev pub invariant-loop-index : goal.invariant-loop-index
invariant-loop-index l = l.row.items ≡ take l.index l.values ++ drop 1 l.fn.row.items
