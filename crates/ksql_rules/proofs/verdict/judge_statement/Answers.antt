use Rattle.std.proofs.Common.{subst}
use Rattle.std.specs.Prelude.{IfSome}
use Rattle.ksql_rules.specs.Lowest.{IsRefused}
use Rattle.ksql_rules.proofs.verdict.judge_statement.Goals as goal

pub returns-in-Some : goal.returns-in-Some
returns-in-Some c = subst (λ found. IfSome found (λ code. IsRefused c.args.catalog.now c.args.statement.now code)) c.in-Some.is c.in_ok-code.ensures.first
