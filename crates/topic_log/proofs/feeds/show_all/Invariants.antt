use Rattle.std.specs.List.{All}
use Rattle.std.specs.Vec.Iter.{into_iter_items}
use Rattle.topic_log.specs.Feeding.{IsThere, WillShowAll}
use Rattle.topic_log.proofs.feeds.show_all.Given as goal

-- with the remaining records, each partition will show all records for it
abbrev pub invariant-loop-record : goal.invariant-loop-record
invariant-loop-record l = record {
  there : All (IsThere l.fn.topics.items) (into_iter_items l.record-iterator);
  shows : WillShowAll l.fn.records.items (into_iter_items l.record-iterator) l.fn.topics.items l.topics.items;
}
