use Rattle.std.proofs.Common.{◌∙◌, ap}
use Rattle.std.specs.List.{flat_map}
use Rattle.std.proofs.lemmas.List.{take_all}
use Rattle.ksql_place.specs.Ascending.{ascending}
use Rattle.ksql_place.specs.Order.{part_stamps, stamp_cmp}
use Rattle.ksql_place.proofs.Ascending.{sorted-ascending}
use Rattle.ksql_place.proofs.Orders.{stamp_total}
use Rattle.ksql_place.proofs.order.stamps_of.Goals as goal

pub returns : goal.returns
returns c =
    sorted-ascending stamp_total c.loop-part.stamps.items c.sort.new.self.items c.in_ok-sort.ensures.sorted c.in_ok-sort.ensures.stable
    ∙ ap (ascending stamp_cmp) (c.loop-part.invariant ∙ ap (flat_map (part_stamps c.args.feed)) (take_all _ _ c.loop-part-test.false))
