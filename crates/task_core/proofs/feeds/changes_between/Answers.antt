use Rattle.std.proofs.Common.{rules}
use Rattle.core_state.specs.State.{feed_of}
use Rattle.task_core.proofs.Cuts.{between-range, cut-order, searched}
use Rattle.task_core.proofs.feeds.changes_between.Goals as goal

pub slice_bounds-result-count : goal.slice_bounds-result-count
slice_bounds-result-count c =
    let xs = c.args.changes.now in
    let first = c.partition_point-first in
    let end = c.partition_point-end in
    cut-order feed_of c.args.from c.args.to xs first.result end.result c.requires.forward
    (searched feed_of c.args.from xs first.result c.requires.order first.ensures.bound first.ensures.partitioned (λ a r f k. search rules))
    (searched feed_of c.args.to xs end.result c.requires.order end.ensures.bound end.ensures.partitioned (λ a r f k. search rules))

pub slice_bounds-result-start : goal.slice_bounds-result-start
slice_bounds-result-start c =
    let xs = c.args.changes.now in
    let first = c.partition_point-first in
    let end = c.partition_point-end in
    cut-order feed_of c.args.from c.args.to xs first.result end.result c.requires.forward
    (searched feed_of c.args.from xs first.result c.requires.order first.ensures.bound first.ensures.partitioned (λ a r f k. search rules))
    (searched feed_of c.args.to xs end.result c.requires.order end.ensures.bound end.ensures.partitioned (λ a r f k. search rules))

pub returns : goal.returns
returns c =
    let xs = c.args.changes.now in
    let first = c.partition_point-first in
    let end = c.partition_point-end in
    between-range feed_of c.args.from c.args.to xs first.result end.result c.requires.forward
    (searched feed_of c.args.from xs first.result c.requires.order first.ensures.bound first.ensures.partitioned (λ a r f k. search rules))
    (searched feed_of c.args.to xs end.result c.requires.order end.ensures.bound end.ensures.partitioned (λ a r f k. search rules))
