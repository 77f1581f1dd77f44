use Rattle.std.proofs.Common.{codes}
use Rattle.ksql_parser.specs.Limits.{is_word}
use Rattle.ksql_parser.proofs.Runs.{counted}
use Rattle.ksql_parser.proofs.limits.joins.Goals as goal

pub loop-token-preserved : goal.loop-token-preserved
loop-token-preserved c =
    counted (is_word (codes "JOIN")) c.args.tokens.now c.loop-token.token-index c.token-item.result c.loop-token-test.true c.token-item.is c.loop-token.joins c.from-joins.result c.is_word.result
    c.loop-token.invariant c.from-joins.ensures c.is_word.ensures
