use Rattle.std.proofs.Common.{◌≡◌, ◌≢◌, ◌++◌, List, drop, length}
use Rattle.std.specs.List.{All}
use Rattle.std.specs.Vec.Iter.{into_iter_items}
use Rattle.ksql_place.specs.declared.change.SourceRecord.{SourceRecord}
use Rattle.topic_feeds.specs.Reaching.{Reaches}
use Rattle.topic_feeds.proofs.Reaching.{IsFed}
use Rattle.topic_feeds.proofs.feeding.Reached.feed.Given as goal

-- the records of the feed so far come after those from before
abbrev pub invariant-loop-fed : goal.invariant-loop-fed
invariant-loop-fed l =
    let since = drop (length l.fn.records.items) l.records.items in
    record {
      kept : l.records.items ≡ l.fn.records.items ++ since;
      is_fed : (before : List SourceRecord) → Reaches l.relation before l.fn.self → All (λ r. r.stamp.feed ≢ l.feed) before →
          IsFed l.feed l.relation l.fn.feds before since (into_iter_items l.fed-iterator) l.self l.highs.items;
    }
