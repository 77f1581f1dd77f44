use Rattle.topology.specs.Topologies.{topology_of}
use Rattle.sending_laws.proofs.SentByFeeds.{sent-by_feeds}
use Rattle.topology_laws.proofs.laws.sends_are_by_feeds.Goals as goal

pub returns : goal.returns
returns c = λ items order. sent-by_feeds items (topology_of items) order
