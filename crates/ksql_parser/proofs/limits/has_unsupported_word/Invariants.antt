use Rattle.std.proofs.Common.{◌≡◌, false, take}
use Rattle.std.specs.List.{list_any}
use Rattle.ksql_lexer.specs.Script.{kinds}
use Rattle.ksql_parser.specs.Limits.{is_unsupported}
use Rattle.ksql_parser.proofs.limits.has_unsupported_word.Given as goal

abbrev pub invariant-loop-token : goal.invariant-loop-token
invariant-loop-token l = list_any is_unsupported (take l.token-index (kinds l.tokens)) ≡ false
