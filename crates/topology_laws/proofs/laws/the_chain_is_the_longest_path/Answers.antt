use Rattle.topology.specs.Topologies.{subs}
use Rattle.sending_laws.proofs.Paths.{chain-longest}
use Rattle.sending_laws.proofs.SubOrder.{subs-in-order}
use Rattle.topology_laws.proofs.laws.the_chain_is_the_longest_path.Goals as goal

pub returns : goal.returns
returns c = λ items sound. chain-longest (subs items) (subs-in-order items sound)
