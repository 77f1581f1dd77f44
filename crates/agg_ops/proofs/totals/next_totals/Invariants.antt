use Rattle.std.proofs.Common.{◌≡◌, ◌∷◌, take}
use Rattle.std.specs.Prelude.{max, pos}
use Rattle.ksql_types.specs.declared.value.Value.TheVariants.{Big}
use Rattle.agg_ops.specs.Totals.{kept_time, kept_worths, next_worths}
use Rattle.agg_ops.proofs.totals.next_totals.Given as goal

-- the time, and the first aggregates
abbrev pub invariant-loop-index : goal.invariant-loop-index
invariant-loop-index l = l.totals.items ≡ Big (pos (max (kept_time l.fn.mine) l.fn.change.time)) ∷ next_worths l.fn.over (take l.index l.fn.aggs) l.fn.change (kept_worths l.fn.mine)
