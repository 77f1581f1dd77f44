use Rattle.std.proofs.Common.{◌≡◌, ◌≤◌, length, reverse}
use Rattle.std.specs.Str.{IsUtf8}
use Rattle.ksql_expr.specs.Value.{after_spaces}
use Rattle.ksql_eval.proofs.text.before_spaces.Given as goal

abbrev pub invariant-loop-before : goal.invariant-loop-before
invariant-loop-before l = record { short : length l.rest ≤ length l.fn.text; utf8 : IsUtf8 l.rest; same : after_spaces (reverse l.rest) ≡ after_spaces (reverse l.fn.text) }

abbrev pub decreases-loop-before : goal.decreases-loop-before
decreases-loop-before l = length l.rest
