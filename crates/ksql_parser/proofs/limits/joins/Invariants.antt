use Rattle.std.proofs.Common.{◌≡◌, take, codes}
use Rattle.std.specs.List.{count_by}
use Rattle.ksql_lexer.specs.Script.{kinds}
use Rattle.ksql_parser.specs.Limits.{is_word}
use Rattle.ksql_parser.proofs.limits.joins.Given as goal

abbrev pub invariant-loop-token : goal.invariant-loop-token
invariant-loop-token l = l.joins ≡ count_by (is_word (codes "JOIN")) (take l.token-index (kinds l.tokens))
