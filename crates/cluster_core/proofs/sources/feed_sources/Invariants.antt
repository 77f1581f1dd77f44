use Rattle.std.proofs.Common.{List}
use Rattle.std.specs.List.{All, AllZip}
use Rattle.std.specs.Vec.Iter.{into_iter_items}
use Rattle.feed_laws.specs.Feeds.{Source}
use Rattle.cluster_core.specs.Cluster.{IsKept}
use Rattle.cluster_laws.specs.Progress.{taken}
use Rattle.cluster_laws.specs.Feeding.{CanFeed}
use Rattle.cluster_core.proofs.Sourcing.{AreFed}
use Rattle.cluster_core.proofs.sources.feed_sources.Given as goal

-- some sources were fed, and the others are left
abbrev pub invariant-loop-source : goal.invariant-loop-source
invariant-loop-source l =
    (ss : List Source) → AllZip IsKept l.fn.sources.items ss → All (CanFeed l.feed) ss →
    AreFed l.feed (taken l.step) ss (into_iter_items l.source-iterator) l.after.items l.records.items
