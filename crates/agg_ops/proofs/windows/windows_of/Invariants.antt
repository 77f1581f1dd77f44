use Rattle.std.proofs.Common.{◌≡◌, ◌-◌, map}
use Rattle.std.specs.List.{range_with_len}
use Rattle.agg_ops.proofs.WindowSpans.{span_at}
use Rattle.agg_ops.proofs.windows.windows_of.Given as goal

-- the windows from the first open one on
abbrev pub invariant-loop-number : goal.invariant-loop-number
invariant-loop-number l = l.spans.items ≡ map (span_at l.fn.window) (range_with_len l.initial.number (l.number - l.initial.number))
