use Rattle.std.proofs.Common.{List}
use Rattle.ksql_place.specs.Ascending.{ascending}
use Rattle.ksql_place.specs.Order.{record_cmp}
use Rattle.ksql_place.specs.declared.change.SourceRecord.{SourceRecord}
use Rattle.core_state.specs.State.{is_in}
use Rattle.core_state.proofs.Feeds.{All-ascending}
use Rattle.topic_log.specs.Shelves.{shelf_of}
use Rattle.topic_log.proofs.Fed.{rise_apart}
use Rattle.node_tests.proofs.Modest.{IsModestRecord, shown-after}
use Rattle.node_tests.proofs.tasks.feed_two.Goals as goal

pub feed-requires-clause-rises_apart : goal.feed-requires-clause-rises_apart
feed-requires-clause-rises_apart c = rise_apart c.in_ok-two_records.field-0.items c.in_ok-two_records.ensures.ascends

pub returns-clause-shown : goal.returns-clause-shown
returns-clause-shown c =
    let records : List SourceRecord = c.in_ok-two_records.field-0.items in
    shown-after ((shelf_of c.args.broker.now).shown 0 0) ((shelf_of c.feed.new.self).shown 0 0) (is_in 0 0) (ascending record_cmp records) (c.requires.opens.shown 0 0)
    (c.in_ok-feed.ensures.feeds.sources 0 0 c.requires.source) (All-ascending record_cmp IsModestRecord records c.in_ok-two_records.ensures.short)
