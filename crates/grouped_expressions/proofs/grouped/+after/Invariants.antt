use Rattle.std.proofs.Common.{◌≡◌, take, map}
use Rattle.grouped_expressions.specs.Grouped.{after, when_after}
use Rattle.grouped_expressions.proofs.grouped.+after.Given as goal

-- the results so far are those of a prefix of the list
abbrev pub invariant-each_after-loop-tree : goal.invariant-each_after-loop-tree
invariant-each_after-loop-tree l = l.made.items ≡ map (after l.columns) (take l.tree-index l.tree-items)

abbrev pub invariant-each_when_after-loop-when : goal.invariant-each_when_after-loop-when
invariant-each_when_after-loop-when l = l.made.items ≡ map (when_after l.columns) (take l.when-index l.when-items)
