use Rattle.feed_laws.proofs.FileRecords.{fits-file}
use Rattle.feed_laws.proofs.laws.files_fit.Goals as goal

pub returns : goal.returns
returns c = fits-file
