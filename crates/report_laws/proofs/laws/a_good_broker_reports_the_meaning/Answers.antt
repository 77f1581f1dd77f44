use Rattle.report_laws.proofs.Reporting.{reports-meaning}
use Rattle.report_laws.proofs.laws.a_good_broker_reports_the_meaning.Goals as goal

pub returns : goal.returns
returns c = reports-meaning
