use Rattle.std.proofs.Common.{◌≡◌, false, take}
use Rattle.std.specs.List.{list_any}
use Rattle.ksql_lexer.specs.Script.{kinds}
use Rattle.ksql_parser.specs.Limits.{is_too_large}
use Rattle.ksql_parser.proofs.limits.has_too_large.Given as goal

abbrev pub invariant-loop-token : goal.invariant-loop-token
invariant-loop-token l = list_any is_too_large (take l.token-index (kinds l.tokens)) ≡ false
