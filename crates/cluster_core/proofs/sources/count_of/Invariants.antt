use Rattle.std.proofs.Common.{◌≡◌, drop}
use Rattle.feed_laws.specs.Feeds.{Source}
use Rattle.cluster_laws.specs.Progress.{counted}
use Rattle.cluster_core.proofs.sources.count_of.Given as goal

-- the counts that are left decide
abbrev pub invariant-loop-count : goal.invariant-loop-count
invariant-loop-count l = (s : Source) → s.relation.number ≡ l.topic → counted (drop l.count-index l.counts) s ≡ counted l.counts s
