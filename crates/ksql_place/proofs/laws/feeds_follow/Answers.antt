use Rattle.ksql_place.proofs.Feeds.{ascending-feeds}
use Rattle.ksql_place.proofs.laws.feeds_follow.Goals as goal

pub returns : goal.returns
returns c = ascending-feeds
