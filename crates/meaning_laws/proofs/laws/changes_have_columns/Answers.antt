use Rattle.meaning_laws.proofs.RelationColumns.{meant-filled}
use Rattle.meaning_laws.proofs.laws.changes_have_columns.Goals as goal

pub returns : goal.returns
returns c = meant-filled
