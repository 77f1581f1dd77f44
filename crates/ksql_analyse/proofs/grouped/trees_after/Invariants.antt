use Rattle.std.proofs.Common.{◌≡◌, map, take}
use Rattle.grouped_expressions.specs.Grouped.{after}
use Rattle.ksql_analyse.proofs.grouped.trees_after.Given as goal

abbrev pub invariant-loop-tree : goal.invariant-loop-tree
invariant-loop-tree l = l.made.items ≡ map (after l.columns) (take l.tree-index l.trees)
