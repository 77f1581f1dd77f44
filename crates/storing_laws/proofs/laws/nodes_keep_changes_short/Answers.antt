use Rattle.storing_laws.proofs.KeptShort.{nodes-keep}
use Rattle.storing_laws.proofs.laws.nodes_keep_changes_short.Goals as goal

pub returns : goal.returns
returns c = nodes-keep
