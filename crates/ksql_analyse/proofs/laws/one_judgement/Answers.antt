use Rattle.ksql_analyse.proofs.unique.Unique.{unique-program, unique-refusal, not-both}
use Rattle.ksql_analyse.proofs.laws.one_judgement.Goals as goal

pub returns : goal.returns
returns c = record { program = unique-program; refusal = unique-refusal; not_both = not-both }
