use Rattle.std.proofs.Common.{◌≡◌}
use Rattle.std.specs.List.{range_with_len}
use Rattle.schedule_text.proofs.standing.Standing.first.Given as goal

-- the workers so far
abbrev pub invariant-loop-before : goal.invariant-loop-before
invariant-loop-before l = l.live.items ≡ range_with_len 1 l.before
