use Rattle.ksql_script.proofs.OneScript.{one_program, one_refusal, not_both}
use Rattle.ksql_script.proofs.laws.one_script.Goals as goal

pub returns-clause-program : goal.returns-clause-program
returns-clause-program c = one_program

pub returns-clause-refusal : goal.returns-clause-refusal
returns-clause-refusal c = one_refusal

pub returns-clause-not_both : goal.returns-clause-not_both
returns-clause-not_both c = not_both
