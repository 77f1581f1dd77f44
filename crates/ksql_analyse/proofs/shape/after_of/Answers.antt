use Rattle.std.proofs.Common.{◌∙◌, ap, map, subst, sym}
use Rattle.grouped_expressions.specs.Grouped.{after}
use Rattle.ksql_analyse.specs.Typable.{AreColumnTrees}
use Rattle.ksql_analyse.proofs.forms.ValuedTrees.{trees-after}
use Rattle.ksql_analyse.proofs.shape.after_of.Goals as goal

pub returns-clause-values : goal.returns-clause-values
returns-clause-values c =
    (c.in_ok-trees.trees.items, c.in_ok-trees.ensures.trees, c.in_ok-values.ensures ∙ ap (map (after c.args.columns.now)) c.deref.ensures.value)

pub returns-clause-valued : goal.returns-clause-valued
returns-clause-valued c =
    subst (AreColumnTrees (map (λ v. v.now) c.args.values.now)) (sym (c.in_ok-values.ensures ∙ ap (map (after c.args.columns.now)) c.deref.ensures.value))
    (trees-after c.args.columns.now (map (λ v. v.now) c.args.values.now) c.in_ok-trees.trees.items c.in_ok-trees.ensures.values)
