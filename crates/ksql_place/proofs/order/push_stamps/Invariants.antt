use Rattle.std.proofs.Common.{◌≡◌, ◌++◌, take, drop}
use Rattle.ksql_place.specs.Order.{greatest, part_stamps, stamped}
use Rattle.ksql_place.proofs.order.push_stamps.Given as goal

-- the stamps so far, and those to come after their times, are the stamps of the partition
abbrev pub invariant-loop-index : goal.invariant-loop-index
invariant-loop-index l =
    let part = l.fn.part in
    let before = take l.index part.times in
    record {
      told : l.stamps.items ++ stamped l.fn.feed part.topic part.part part.first before (drop l.index part.times) ≡ l.fn.stamps.items ++ part_stamps l.fn.feed part;
      greatest : l.high ≡ greatest before;
    }
