use Rattle.std.proofs.Common.{refl, subst}
use Rattle.ksql_rules.specs.Verdicts.{IsVerdict}
use Rattle.ksql_analyse.proofs.judgement.judged.Goals as goal

pub returns-in-Refused-clause-fault : goal.returns-in-Refused-clause-fault
returns-in-Refused-clause-fault c =
    (refl, subst (IsVerdict c.args.catalog.now c.args.statement.now) c.in-Refused.is c.in_ok-code.ensures)
