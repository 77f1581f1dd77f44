use Rattle.core_laws.proofs.Showing.{shows-queries}
use Rattle.core_laws.proofs.laws.shown_changes_are_meant.Goals as goal

pub returns : goal.returns
returns c = shows-queries
