use Rattle.ksql_analyse.proofs.some.SomeJudgement.{program-or-refusal}
use Rattle.ksql_analyse.proofs.laws.some_judgement.Goals as goal

pub returns : goal.returns
returns c = program-or-refusal
