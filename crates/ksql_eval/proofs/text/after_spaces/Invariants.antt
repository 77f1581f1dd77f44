use Rattle.std.proofs.Common.{◌≡◌, ◌≤◌, length}
use Rattle.std.specs.Str.{IsUtf8}
use Rattle.ksql_expr.specs.Value.{after_spaces}
use Rattle.ksql_eval.proofs.text.after_spaces.Given as goal

abbrev pub invariant-loop-after : goal.invariant-loop-after
invariant-loop-after l = record { short : length l.rest ≤ length l.fn.text; utf8 : IsUtf8 l.rest; same : after_spaces l.rest ≡ after_spaces l.fn.text }

abbrev pub decreases-loop-after : goal.decreases-loop-after
decreases-loop-after l = length l.rest
