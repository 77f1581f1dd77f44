use Rattle.std.proofs.Common.{◌≡◌}
use Rattle.std.specs.List.{range_with_len}
use Rattle.cluster_core.proofs.workers.first_workers.Given as goal

-- the workers so far
abbrev pub invariant-loop-before : goal.invariant-loop-before
invariant-loop-before l = l.live.items ≡ range_with_len 1 l.before
