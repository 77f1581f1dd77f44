use Rattle.std.proofs.Common.{sym, subst}
use Rattle.run_text.specs.Shown.{HasTopicOf}
use Rattle.run_text.proofs.ShownLemmas.{topic-at, topic-inside}
use Rattle.cluster_tests.proofs.standing.closed_of.Goals as goal

pub closed-requires : goal.closed-requires
closed-requires c =
    topic-inside c.args.broker.now c.relation_of.result.now
    (subst (HasTopicOf c.args.broker.now) (sym c.relation_of.ensures)
    (topic-at c.args.broker.now c.args.items.now c.loop-item.item-index c.item-item.result c.requires c.loop-item-test.true c.item-item.is))
