use Rattle.std.proofs.Common.{map, take}
use Rattle.ksql_analyse.specs.Judgement.{AreTypedTrees, exprs}
use Rattle.ksql_analyse.proofs.trees.column_trees.Given as goal

abbrev pub invariant-loop-column : goal.invariant-loop-column
invariant-loop-column l = AreTypedTrees l.scope (exprs (map (λ c. c.now) (take l.column-index l.columns))) l.trees.items
