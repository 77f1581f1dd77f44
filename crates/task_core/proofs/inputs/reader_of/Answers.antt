use Rattle.std.proofs.Common.{◌∙◌}
use Rattle.topic_log.specs.Shelves.{shelf_of}
use Rattle.task_core.proofs.Takes.{takes-two}
use Rattle.task_core.proofs.inputs.reader_of.Goals as goal

pub returns-in-len2-up-clause-pending : goal.returns-in-len2-up-clause-pending
returns-in-len2-up-clause-pending c nodes left right =
    let first = c.rest_of-in-len2-up.ensures in
    let second = c.rest_of-in-len2-up-2.ensures in
    takes-two nodes c.args.inputs.now (λ topic. (shelf_of c.args.broker.now).shown topic c.args.feeds.part) c.args.feeds.from c.args.feeds.to
    c.rest_of-in-len2-up.result c.rest_of-in-len2-up-2.result _ _ c.in-len2-up.len_at_least c.requires.two
    (record { kind_is = first.kind ∙ left; input_is = first.input; entries_are = first.entries })
    (record { kind_is = second.kind ∙ right; input_is = second.input; entries_are = second.entries })
