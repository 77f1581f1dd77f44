use Rattle.std.proofs.Common.{take}
use Rattle.feed_laws.specs.Fitting.{AreFilesOf}
use Rattle.cluster_tests.proofs.files.files_of.Given as goal

-- the files are those of the items so far
abbrev pub invariant-loop-item : goal.invariant-loop-item
invariant-loop-item l = AreFilesOf (take l.item-index l.items) l.files.items
