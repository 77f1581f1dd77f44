use Rattle.std.proofs.Common.{take}
use Rattle.std.specs.List.{AllZip}
use Rattle.topic_log.specs.Opening.{IsFreshTopic}
use Rattle.topic_log.proofs.opening.fresh_topics.Given as goal

-- the fresh topics are those of the topics so far
abbrev pub invariant-loop-topic : goal.invariant-loop-topic
invariant-loop-topic l = AllZip IsFreshTopic (take l.topic-index l.topics) l.fresh.items
