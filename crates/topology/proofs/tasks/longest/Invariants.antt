use Rattle.std.proofs.Common.{◌≡◌, map, take}
use Rattle.std.specs.BTreeMap.{get}
use Rattle.std.specs.Ordering.{nat_cmp}
use Rattle.std.specs.Prelude.{unwrap_or}
use Rattle.ksql_place.specs.Order.{greatest}
use Rattle.topology.proofs.tasks.longest.Given as goal

abbrev pub invariant-loop-sub : goal.invariant-loop-sub
invariant-loop-sub l = l.longest ≡ greatest (map (λ s. unwrap_or (get nat_cmp l.depths s.output) 0) (take l.sub-index l.subs))
