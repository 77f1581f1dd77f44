use Rattle.std.proofs.Common.{◌≡◌, map, take}
use Rattle.std.specs.BTreeMap.{get}
use Rattle.std.specs.Ordering.{nat_cmp}
use Rattle.std.specs.Prelude.{unwrap_or}
use Rattle.ksql_place.specs.Order.{greatest}
use Rattle.topology.proofs.tasks.deepest.Given as goal

abbrev pub invariant-loop-input : goal.invariant-loop-input
invariant-loop-input l = l.deepest ≡ greatest (map (λ input. unwrap_or (get nat_cmp l.depths input.topic) 0) (take l.input-index l.inputs))
