use Rattle.std.proofs.Common.{List, map, arith, subst, sym}
use Rattle.std.proofs.lemmas.List.Elements.{All-get_or, All-map}
use denote.Bor.{Bor}
use Rattle.ksql_clauses.specs.declared.items.Named.{Named}
use Rattle.ksql_analyse.specs.Judgement.{AreTypedTrees, exprs}
use Rattle.ksql_analyse.specs.Typable.{IsValued}
use Rattle.ksql_analyse.proofs.lists.Pushing.{all-taken, column-trees-next}
use Rattle.ksql_analyse.proofs.forms.ValuedTrees.{own-trees}
use Rattle.ksql_analyse.proofs.trees.column_trees.Goals as goal

pub tree_of-requires-clause-typable : goal.tree_of-requires-clause-typable
tree_of-requires-clause-typable c =
    (subst (λ (v : Bor Named). IsValued c.args.scope.now v.now.expr) (sym c.column-item.is)
    (All-get_or (λ (v : Bor Named). IsValued c.args.scope.now v.now.expr) c.args.columns.now c.loop-column.column-index c.column-item.result (omega arith)
    c.requires.valued)).typable

pub loop-column-preserved : goal.loop-column-preserved
loop-column-preserved c =
    column-trees-next c.args.scope.now c.args.columns.now c.loop-column.column-index c.loop-column.trees.items c.push.new.self.items c.column-item.result
    c.in_ok-tree_of.field-0 (omega arith) c.loop-column.invariant c.in_ok-push.ensures.items c.column-item.is c.in_ok-tree_of.ensures

pub returns-clause-values : goal.returns-clause-values
returns-clause-values c =
    own-trees c.args.scope.now (map (λ v. v.now) c.args.columns.now) c.loop-column.trees.items
    (All-map (λ (v : Named). IsValued c.args.scope.now v.expr) (λ (v : Bor Named). v.now) c.args.columns.now c.requires.valued)
    (subst (λ (vs : List (Bor Named)). AreTypedTrees c.args.scope.now (exprs (map (λ v. v.now) vs)) c.loop-column.trees.items)
    (all-taken c.args.columns.now c.loop-column.column-index (omega arith)) c.loop-column.invariant)
