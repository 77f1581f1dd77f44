use Rattle.report_laws.proofs.Reporting.{summarizes-meaning}
use Rattle.report_laws.proofs.laws.a_good_broker_summarizes_the_meaning.Goals as goal

pub returns : goal.returns
returns c = summarizes-meaning
