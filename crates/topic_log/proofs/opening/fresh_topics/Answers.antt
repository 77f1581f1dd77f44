use Rattle.std.proofs.Common.{sym, subst, ◌+◌, List, take}
use Rattle.std.specs.List.{AllZip}
use Rattle.topic_log.specs.Opening.{IsFreshTopic}
use Rattle.topic_log.specs.declared.shelves.TopicShelf.{TopicShelf}
use Rattle.topic_log.proofs.Fresh.{fresh-more}
use Rattle.topic_log.proofs.opening.fresh_topics.Goals as goal

pub loop-topic-preserved : goal.loop-topic-preserved
loop-topic-preserved c =
    subst (λ (ts : List TopicShelf). AllZip IsFreshTopic (take (c.loop-topic.topic-index + 1) c.args.topics.now) ts) (sym c.in_ok-push.ensures.items)
    (fresh-more c.args.topics.now c.loop-topic.fresh.items c.loop-topic.topic-index c.topic-item.result c.in_ok-fresh_topic.field-0
    c.loop-topic-test.true c.topic-item.is c.loop-topic.invariant c.in_ok-fresh_topic.ensures)
