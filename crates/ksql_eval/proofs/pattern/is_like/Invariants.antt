use Rattle.std.proofs.Common.{◌≡◌, length}
use Rattle.std.specs.Str.{chars, IsUtf8}
use Rattle.ksql_expr.specs.Value.{is_like}
use Rattle.ksql_eval.proofs.pattern.is_like.Given as goal

abbrev pub invariant-loop-wanted : goal.invariant-loop-wanted
invariant-loop-wanted l = record {
  ahead : IsUtf8 l.ahead;
  left : IsUtf8 l.left;
  value : is_like (chars l.ahead) (chars l.left) ≡ is_like (chars l.fn.pattern) (chars l.fn.text);
}

abbrev pub decreases-loop-wanted : goal.decreases-loop-wanted
decreases-loop-wanted l = length (chars l.ahead)
