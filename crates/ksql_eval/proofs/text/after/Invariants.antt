use Rattle.std.proofs.Common.{◌≡◌, ◌≤◌, length, drop}
use Rattle.std.specs.Str.{chars, encode_utf8_all}
use Rattle.std.specs.Str.Iter.{chars_rest}
use Rattle.ksql_eval.proofs.text.after.Given as goal

abbrev pub invariant-loop-passed : goal.invariant-loop-passed
invariant-loop-passed l = record { short : length (chars_rest l.rest) ≤ length l.fn.text; at : chars_rest l.rest ≡ encode_utf8_all (drop l._passed (chars l.fn.text)) }
