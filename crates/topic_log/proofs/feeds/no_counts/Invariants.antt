use Rattle.std.proofs.Common.{◌≡◌, [], length}
use Rattle.std.specs.Prelude.{IfSome, slice_get}
use Rattle.topic_log.specs.Feeding.{IsCounted}
use Rattle.topic_log.specs.Views.{EachAt}
use Rattle.topic_log.proofs.feeds.no_counts.Given as goal

-- the zeros so far
abbrev pub invariant-loop-topic : goal.invariant-loop-topic
invariant-loop-topic l = record {
  len : length l.counts.items ≡ l.topic-index;
  counts : EachAt (λ topic of_topic. IfSome (slice_get l.topics topic) (λ t. IsCounted topic [] t of_topic.items)) l.counts.items;
}
