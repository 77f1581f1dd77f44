use Rattle.sending_laws.proofs.SentColumns.{sent-filled}
use Rattle.topology_laws.proofs.laws.sends_have_columns.Goals as goal

pub returns : goal.returns
returns c = sent-filled
