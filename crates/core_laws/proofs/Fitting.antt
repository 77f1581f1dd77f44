-- The topology of a sound program fits the law of the core.
use Rattle.std.proofs.Common.{List}
use Rattle.ksql_program.specs.Sound.{IsSound}
use Rattle.ksql_program.specs.declared.program.Item.{Item}
use Rattle.topology.specs.Topologies.{topology_of}
use Rattle.topology.specs.declared.topology.Topology.{Topology}
use Rattle.core_state.proofs.Events.{events-keep-good, runs-are-good}
use Rattle.core_state.proofs.Whole.{is-meaning}
use Rattle.core_state.specs.Law.{IsMeaning}
use Rattle.core_state.specs.Whole.{HoldsWell}
use Rattle.core_state.specs.Wired.{AreCounted}
use Rattle.op_chain.specs.Chain.{MayLoad, StandAlong, maps_after}
use Rattle.core_laws.specs.Core.{KeepsGoodStates, StaysGood, meaning_in_core}
use Rattle.wiring_laws.specs.Written.{written_topics}
use Rattle.task_core.specs.Core.{core_of, nodes_at, wiring_of}
use Rattle.core_laws.proofs.Replaying.{fresh-along, maps-go_on}
use Rattle.wiring_laws.proofs.Steps.{one_of, steps-well}
use Rattle.wiring_laws.proofs.Wirings.{staged, wired-well}

pub holds-well : (t : Topology) → HoldsWell (wiring_of t) (λ u. StandAlong (nodes_at t u)) (λ u. maps_after (nodes_at t u))
holds-well t = record {
  goes_on = λ u among us vs more same. maps-go_on (nodes_at t u) us vs more same;
  fresh = λ u among. fresh-along (nodes_at t u);
}

pub core-meaning : (items : List Item) → IsSound items → IsMeaning (core_of (topology_of items)) AreCounted (meaning_in_core items)
core-meaning items sound =
    let t : Topology = topology_of items in
    is-meaning (wiring_of t) (one_of t) (written_topics items) (λ u. StandAlong (nodes_at t u)) (λ u. maps_after (nodes_at t u)) (λ u. MayLoad (nodes_at t u))
    (steps-well t) (wired-well items sound) (staged items sound) (holds-well t)

pub keeps-good : (items : List Item) → IsSound items → KeepsGoodStates items
keeps-good items sound = events-keep-good (core_of (topology_of items)) AreCounted (meaning_in_core items) (core-meaning items sound)

pub stays-good : (items : List Item) → IsSound items → StaysGood items
stays-good items sound = runs-are-good (core_of (topology_of items)) AreCounted (meaning_in_core items) (core-meaning items sound)
