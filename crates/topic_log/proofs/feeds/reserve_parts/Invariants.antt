use Rattle.std.proofs.Common.{◌≡◌, map, slice_index, take}
use Rattle.topic_log.specs.Feeding.{HasShownRoom}
use Rattle.topic_log.specs.Views.{EachAt, part_view}
use Rattle.topic_log.proofs.feeds.reserve_parts.Given as goal

-- the partitions so far have room
abbrev pub invariant-loop-index : goal.invariant-loop-index
invariant-loop-index l = record {
  views : map part_view l.parts.items ≡ map part_view l.fn.parts.items;
  rooms : EachAt (λ q part. HasShownRoom (slice_index l.counts q) part) (take l.index l.parts.items);
}
