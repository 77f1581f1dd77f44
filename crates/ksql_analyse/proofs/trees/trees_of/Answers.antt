use Rattle.std.proofs.Common.{List, arith, subst, sym}
use Rattle.std.proofs.lemmas.List.Elements.{All-get_or}
use Rattle.expression_trees.specs.declared.tree.Expr.{Expr}
use Rattle.ksql_analyse.specs.Judgement.{AreTypedTrees}
use Rattle.ksql_analyse.specs.Typable.{IsValued}
use Rattle.ksql_analyse.proofs.lists.Pushing.{all-taken, trees-next}
use Rattle.ksql_analyse.proofs.forms.ValuedTrees.{trees-valued}
use Rattle.ksql_analyse.proofs.trees.trees_of.Goals as goal

pub tree_of-requires-clause-typable : goal.tree_of-requires-clause-typable
tree_of-requires-clause-typable c =
    (subst (IsValued c.args.scope.now) (sym c.expr-item.is)
    (All-get_or (IsValued c.args.scope.now) c.args.exprs.now c.loop-expr.expr-index c.expr-item.result (omega arith) c.requires.valued)).typable

pub loop-expr-preserved : goal.loop-expr-preserved
loop-expr-preserved c =
    trees-next c.args.scope.now c.args.exprs.now c.loop-expr.expr-index c.loop-expr.trees.items c.push.new.self.items c.expr-item.result
    c.in_ok-tree_of.field-0 (omega arith) c.loop-expr.invariant c.in_ok-push.ensures.items c.expr-item.is c.in_ok-tree_of.ensures

pub returns-clause-values : goal.returns-clause-values
returns-clause-values c =
    trees-valued c.args.scope.now c.args.exprs.now c.loop-expr.trees.items c.requires.valued
    (subst (λ (es : List Expr). AreTypedTrees c.args.scope.now es c.loop-expr.trees.items) (all-taken c.args.exprs.now c.loop-expr.expr-index (omega arith))
    c.loop-expr.invariant)
