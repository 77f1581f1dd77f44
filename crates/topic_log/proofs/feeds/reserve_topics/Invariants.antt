use Rattle.std.proofs.Common.{◌≡◌, map, slice_index, take}
use Rattle.std.specs.Prelude.{IfSome, slice_get}
use Rattle.topic_log.specs.Feeding.{HasShownRoom}
use Rattle.topic_log.specs.Views.{EachAt, topic_view}
use Rattle.topic_log.proofs.feeds.reserve_topics.Given as goal

-- the topics so far have room
abbrev pub invariant-loop-index : goal.invariant-loop-index
invariant-loop-index l = record {
  views : map topic_view l.topics.items ≡ map topic_view l.fn.topics.items;
  rooms : EachAt (λ topic t. IfSome (slice_get l.counts topic) (λ of_topic. EachAt (λ q part. HasShownRoom (slice_index of_topic.items q) part) t.parts.items)) (take l.index l.topics.items);
}
