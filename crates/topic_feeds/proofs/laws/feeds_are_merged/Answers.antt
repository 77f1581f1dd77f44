use Rattle.topic_feeds.proofs.Partitions.{part-stamped}
use Rattle.topic_feeds.proofs.Merged.{order-stamps, order-taken}
use Rattle.topic_feeds.proofs.laws.feeds_are_merged.Goals as goal

pub returns : goal.returns
returns c = record { parts = part-stamped; stamps = order-stamps; merged = order-taken }
