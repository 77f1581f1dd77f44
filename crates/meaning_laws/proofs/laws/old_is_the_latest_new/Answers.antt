use Rattle.meaning_laws.proofs.RelationTables.{meant-turning}
use Rattle.meaning_laws.proofs.laws.old_is_the_latest_new.Goals as goal

pub returns : goal.returns
returns c = meant-turning
