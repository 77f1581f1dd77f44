use Rattle.std.proofs.Common.{◌≡◌, ◌≤◌, ◌+◌, ◌*◌, ◌||◌, true, length}
use Rattle.std.specs.Str.{chars, IsUtf8}
use Rattle.ksql_expr.specs.Value.{is_like, some_tail}
use Rattle.ksql_eval.proofs.Like.{later}
use Rattle.ksql_eval.proofs.pattern.ends_like.Given as goal

abbrev pub invariant-loop-wanted : goal.invariant-loop-wanted
invariant-loop-wanted l = record {
  ahead : IsUtf8 l.ahead;
  left : IsUtf8 l.left;
  again : IsUtf8 l.again;
  begun : IsUtf8 l.begun;
  value : (is_like (chars l.ahead) (chars l.left) || later (is_like (chars l.again)) (chars l.begun)) ≡ some_tail (is_like (chars l.fn.pattern)) (chars l.fn.text);
  reach : later (is_like (chars l.again)) (chars l.begun) ≡ true → some_tail (is_like (chars l.ahead)) (chars l.left) ≡ true;
  ahead_short : length (chars l.ahead) ≤ length (chars l.fn.pattern);
  again_short : length (chars l.again) ≤ length (chars l.fn.pattern);
  left_short : length (chars l.left) ≤ length (chars l.begun);
}

abbrev pub decreases-loop-wanted : goal.decreases-loop-wanted
decreases-loop-wanted l = length (chars l.begun) * (length (chars l.fn.pattern) + 1) + length (chars l.ahead)
