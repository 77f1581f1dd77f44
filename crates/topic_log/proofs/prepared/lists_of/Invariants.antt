use Rattle.std.proofs.Common.{◌≡◌, length, get_or}
use Rattle.topic_log.specs.Taking.{IsEmptyRoom, room_beside}
use Rattle.topic_log.specs.Views.{EachAt}
use Rattle.topic_log.proofs.prepared.lists_of.Given as goal

-- the lists so far
abbrev pub invariant-loop-count : goal.invariant-loop-count
invariant-loop-count l = record {
  len : length l.lists.items ≡ l.count-index;
  lists : EachAt (λ q list. IsEmptyRoom (room_beside l.whole (get_or l.counts q 0)) list) l.lists.items;
}
