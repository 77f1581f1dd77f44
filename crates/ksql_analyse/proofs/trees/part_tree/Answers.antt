use Rattle.std.proofs.Common.{All, [], Option, subst}
use Rattle.std.proofs.lemmas.List.Elements.{All-head}
use Rattle.expression_trees.specs.declared.tree.Expr.{Expr}
use Rattle.ksql_clauses.specs.Sources.{there}
use Rattle.ksql_analyse.specs.Typable.{IsTypable}
use Rattle.ksql_analyse.proofs.trees.part_tree.Goals as goal

pub tree_of-requires-clause-typable : goal.tree_of-requires-clause-typable
tree_of-requires-clause-typable c =
    All-head (IsTypable c.args.scope.now) c.in-Some.expr []
    (subst (λ (o : Option Expr). All (IsTypable c.args.scope.now) (there o)) c.in-Some.is c.requires.typable)
