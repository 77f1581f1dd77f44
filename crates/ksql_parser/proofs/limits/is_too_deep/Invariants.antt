use Rattle.std.proofs.Common.{◌≡◌, take}
use Rattle.std.specs.List.{count_by}
use Rattle.ksql_lexer.specs.Script.{kinds}
use Rattle.ksql_parser.specs.Limits.{is_opening, is_closing}
use Rattle.ksql_parser.proofs.Runs.{ShallowTo}
use Rattle.ksql_parser.proofs.limits.is_too_deep.Given as goal

abbrev pub invariant-loop-token : goal.invariant-loop-token
invariant-loop-token l = record {
  opened : l.opened ≡ count_by is_opening (take l.token-index (kinds l.tokens));
  closed : l.closed ≡ count_by is_closing (take l.token-index (kinds l.tokens));
  shallow : ShallowTo l.token-index (kinds l.tokens);
}
