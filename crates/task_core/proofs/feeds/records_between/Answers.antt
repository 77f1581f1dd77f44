use Rattle.std.proofs.Common.{rules}
use Rattle.ksql_place.specs.declared.change.SourceRecord.{SourceRecord}
use Rattle.task_core.proofs.Cuts.{between-range, cut-order, searched}
use Rattle.task_core.proofs.feeds.records_between.Goals as goal

pub slice_bounds-result-count : goal.slice_bounds-result-count
slice_bounds-result-count c =
    let xs = c.args.records.now in
    let first = c.partition_point-first in
    let end = c.partition_point-end in
    cut-order (λ (r : SourceRecord). r.stamp.feed) c.args.from c.args.to xs first.result end.result c.requires.forward
    (searched (λ (r : SourceRecord). r.stamp.feed) c.args.from xs first.result c.requires.order first.ensures.bound first.ensures.partitioned (λ a r f k. search rules))
    (searched (λ (r : SourceRecord). r.stamp.feed) c.args.to xs end.result c.requires.order end.ensures.bound end.ensures.partitioned (λ a r f k. search rules))

pub slice_bounds-result-start : goal.slice_bounds-result-start
slice_bounds-result-start c =
    let xs = c.args.records.now in
    let first = c.partition_point-first in
    let end = c.partition_point-end in
    cut-order (λ (r : SourceRecord). r.stamp.feed) c.args.from c.args.to xs first.result end.result c.requires.forward
    (searched (λ (r : SourceRecord). r.stamp.feed) c.args.from xs first.result c.requires.order first.ensures.bound first.ensures.partitioned (λ a r f k. search rules))
    (searched (λ (r : SourceRecord). r.stamp.feed) c.args.to xs end.result c.requires.order end.ensures.bound end.ensures.partitioned (λ a r f k. search rules))

pub returns : goal.returns
returns c =
    let xs = c.args.records.now in
    let first = c.partition_point-first in
    let end = c.partition_point-end in
    between-range (λ (r : SourceRecord). r.stamp.feed) c.args.from c.args.to xs first.result end.result c.requires.forward
    (searched (λ (r : SourceRecord). r.stamp.feed) c.args.from xs first.result c.requires.order first.ensures.bound first.ensures.partitioned (λ a r f k. search rules))
    (searched (λ (r : SourceRecord). r.stamp.feed) c.args.to xs end.result c.requires.order end.ensures.bound end.ensures.partitioned (λ a r f k. search rules))
