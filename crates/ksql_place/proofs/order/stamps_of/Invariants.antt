use Rattle.std.proofs.Common.{◌≡◌, take}
use Rattle.std.specs.List.{flat_map}
use Rattle.ksql_place.specs.Order.{part_stamps}
use Rattle.ksql_place.proofs.order.stamps_of.Given as goal

abbrev pub invariant-loop-part : goal.invariant-loop-part
invariant-loop-part l = l.stamps.items ≡ flat_map (part_stamps l.feed) (take l.part-index l.parts)
