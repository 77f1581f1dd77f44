use Rattle.std.proofs.Common.{◌≡◌, map, get_or, take}
use Rattle.std.specs.List.{AllZip}
use Rattle.topic_log.specs.Ready.{HasRoom}
use Rattle.topic_log.specs.Taking.{KeepsRoom}
use Rattle.topic_log.specs.Views.{EachAt, part_view}
use Rattle.topic_log.proofs.prepared.reserve_parts.Given as goal

-- the partitions so far have room, and none lost any
abbrev pub invariant-loop-index : goal.invariant-loop-index
invariant-loop-index l = record {
  views : map part_view l.parts.items ≡ map part_view l.fn.parts.items;
  rooms : EachAt (λ q part. HasRoom l.writer (get_or l.counts q 0) part) (take l.index l.parts.items);
  kept : AllZip KeepsRoom l.fn.parts.items l.parts.items;
}
