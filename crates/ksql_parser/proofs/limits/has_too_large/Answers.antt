use Rattle.std.proofs.Common.{sym, ◌∙◌}
use Rattle.ksql_parser.specs.Limits.{is_too_large}
use Rattle.ksql_parser.proofs.Runs.{written_at, any_at, any_more}
use Rattle.ksql_parser.proofs.limits.has_too_large.Goals as goal

pub is_too_large-requires : goal.is_too_large-requires
is_too_large-requires c = written_at c.args.tokens.now c.loop-token.token-index c.token-item.result c.requires c.loop-token-test.true c.token-item.is

pub returns-then-is_too_large : goal.returns-then-is_too_large
returns-then-is_too_large c =
    sym (any_at is_too_large c.args.tokens.now c.loop-token.token-index c.token-item.result c.loop-token-test.true c.token-item.is (sym c.is_too_large.ensures ∙ c.if-is_too_large.true))

pub loop-token-preserved : goal.loop-token-preserved
loop-token-preserved c =
    any_more is_too_large c.args.tokens.now c.loop-token.token-index c.token-item.result c.loop-token-test.true c.token-item.is c.loop-token.invariant
    (sym c.is_too_large.ensures ∙ c.if-is_too_large.false)
