use Rattle.feed_laws.proofs.FedRecords.{feed-fits, feed-rises}
use Rattle.feed_laws.proofs.Sources.{sources-begin, sources-go_on}
use Rattle.feed_laws.proofs.laws.feeds_fit.Goals as goal

pub returns : goal.returns
returns c = record {
  begins = sources-begin;
  rises = feed-rises;
  fits = λ items fed count sources order are fits early. feed-fits items fed count sources are order fits early;
  goes_on = sources-go_on;
}
