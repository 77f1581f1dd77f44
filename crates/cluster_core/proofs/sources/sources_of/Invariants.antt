use Rattle.std.proofs.Common.{drop}
use Rattle.cluster_core.specs.Sourcing.{AreBuilt}
use Rattle.cluster_core.proofs.sources.sources_of.Given as goal

abbrev pub invariant-loop-item : goal.invariant-loop-item
invariant-loop-item l = AreBuilt l.items l.fn.files.items l.sources.items (drop l.item-index l.items) l.left.items
