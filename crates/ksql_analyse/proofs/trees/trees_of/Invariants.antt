use Rattle.std.proofs.Common.{take}
use Rattle.ksql_analyse.specs.Judgement.{AreTypedTrees}
use Rattle.ksql_analyse.proofs.trees.trees_of.Given as goal

abbrev pub invariant-loop-expr : goal.invariant-loop-expr
invariant-loop-expr l = AreTypedTrees l.scope (take l.expr-index l.exprs) l.trees.items
