use Rattle.sending_laws.proofs.SentSizes.{sent-small}
use Rattle.topology_laws.proofs.laws.sends_are_bounded.Goals as goal

pub returns : goal.returns
returns c = sent-small
