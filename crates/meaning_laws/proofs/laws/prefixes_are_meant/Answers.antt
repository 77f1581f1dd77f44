use Rattle.meaning_laws.proofs.Cuts.{meant-up_to}
use Rattle.meaning_laws.proofs.laws.prefixes_are_meant.Goals as goal

pub returns : goal.returns
returns c = meant-up_to
