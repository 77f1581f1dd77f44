use Rattle.std.proofs.Common.{length}
use Rattle.ksql_cli.proofs.topics.+read_topics.Given as goal

abbrev pub decreases-read_topics : goal.decreases-read_topics
decreases-read_topics g l = length l.items.now
