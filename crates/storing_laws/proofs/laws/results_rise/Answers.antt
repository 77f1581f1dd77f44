use Rattle.storing_laws.proofs.RisingResults.{results-rising}
use Rattle.storing_laws.proofs.laws.results_rise.Goals as goal

pub returns : goal.returns
returns c = results-rising
