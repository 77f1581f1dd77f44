use Rattle.std.proofs.Common.{◌≡◌, length, take}
use Rattle.std.specs.Prelude.{IfSome, slice_get}
use Rattle.topic_log.specs.Feeding.{IsCounted}
use Rattle.topic_log.specs.Views.{EachAt}
use Rattle.topic_log.proofs.feeds.counts_of.Given as goal

-- the counts so far
abbrev pub invariant-loop-record : goal.invariant-loop-record
invariant-loop-record l = record {
  len : length l.counts.items ≡ length l.topics;
  counts : EachAt (λ topic of_topic. IfSome (slice_get l.topics topic) (λ t. IsCounted topic (take l.record-index l.records) t of_topic.items)) l.counts.items;
}
