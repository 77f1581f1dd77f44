-- Sources that can be fed.
use Rattle.std.specs.Prelude.{◌≢◌, ℕ, ◌≤◌, All}
use Rattle.feed_laws.specs.Feeds.{Source}

-- a source can be fed: its relation has 1 to 64 partitions, and no record before is of this feed
pub record CanFeed (feed : ℕ) (s : Source) : Type 0 where
  pub some : 1 ≤ s.relation.partitions
  pub few : s.relation.partitions ≤ 64
  pub none : All (λ r. r.stamp.feed ≢ feed) s.before
