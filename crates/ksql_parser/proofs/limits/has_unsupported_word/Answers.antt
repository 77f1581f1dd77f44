use Rattle.std.proofs.Common.{sym, ◌∙◌}
use Rattle.ksql_parser.specs.Limits.{is_unsupported}
use Rattle.ksql_parser.proofs.Runs.{any_at, any_more, any_none}
use Rattle.ksql_parser.proofs.limits.has_unsupported_word.Goals as goal

pub returns-then-is_unsupported : goal.returns-then-is_unsupported
returns-then-is_unsupported c =
    sym (any_at is_unsupported c.args.tokens.now c.loop-token.token-index c.token-item.result c.loop-token-test.true c.token-item.is (sym c.is_unsupported.ensures ∙ c.if-is_unsupported.true))

pub loop-token-preserved : goal.loop-token-preserved
loop-token-preserved c =
    any_more is_unsupported c.args.tokens.now c.loop-token.token-index c.token-item.result c.loop-token-test.true c.token-item.is c.loop-token.invariant
    (sym c.is_unsupported.ensures ∙ c.if-is_unsupported.false)

pub returns : goal.returns
returns c = any_none is_unsupported c.args.tokens.now c.loop-token.token-index c.loop-token-test.false c.loop-token.invariant
