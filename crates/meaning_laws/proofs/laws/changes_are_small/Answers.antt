use Rattle.meaning_laws.proofs.RelationSizes.{meant-small}
use Rattle.meaning_laws.proofs.laws.changes_are_small.Goals as goal

pub returns : goal.returns
returns c = meant-small
