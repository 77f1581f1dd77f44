use Rattle.std.proofs.Common.{◌∙◌, ap₂}
use Rattle.topic_log.specs.Entries.{entries_of}
use Rattle.task_core.proofs.Lists.{IsNonDecreasing-changes, IsNonDecreasing-records, between-both}
use Rattle.task_core.proofs.feeds.fed_between.Goals as goal

pub records_between-requires-clause-order : goal.records_between-requires-clause-order
records_between-requires-clause-order c = IsNonDecreasing-records c.args.entries.fed.now c.args.entries.said.now c.requires.order

pub changes_between-requires-clause-order : goal.changes_between-requires-clause-order
changes_between-requires-clause-order c = IsNonDecreasing-changes c.args.entries.fed.now c.args.entries.said.now c.requires.order

pub returns : goal.returns
returns c =
    ap₂ entries_of c.records_between.ensures c.changes_between.ensures
    ∙ between-both c.args.from c.args.to c.args.entries.fed.now c.args.entries.said.now
