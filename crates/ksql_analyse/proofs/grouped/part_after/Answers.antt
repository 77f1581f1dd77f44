use Rattle.std.proofs.Common.{◌∙◌, All, [], Option, Some, ap, subst, sym}
use Rattle.std.proofs.lemmas.List.Elements.{All-head}
use Rattle.expression_trees.specs.declared.tree.Expr.{Expr}
use Rattle.ksql_clauses.specs.Sources.{there}
use Rattle.ksql_typing.specs.Standing.{IsTypedTree}
use Rattle.grouped_expressions.specs.Grouped.{after}
use Rattle.ksql_analyse.specs.Judgement.{IsTypedPart}
use Rattle.ksql_analyse.specs.Typable.{IsTypable}
use Rattle.ksql_analyse.proofs.grouped.part_after.Goals as goal

pub tree_of-requires-clause-typable : goal.tree_of-requires-clause-typable
tree_of-requires-clause-typable c =
    subst (IsTypable c.args.scope.now) (sym c.get.ensures)
    (All-head (IsTypable c.args.scope.now) c.in-Some.expr []
    (subst (λ (o : Option Expr). All (IsTypable c.args.scope.now) (there o)) c.in-Some.is c.requires.typable))

pub returns-in_ok-after-in-Some : goal.returns-in_ok-after-in-Some
returns-in_ok-after-in-Some c =
    let s = c.args.scope.now in
    let x = c.in_ok-tree_of-in-Some.field-0 in (
      Some x,
      subst (λ (o : Option Expr). IsTypedPart s o (Some x)) (sym c.in-Some.is)
          (subst (λ (a : Expr). IsTypedTree s a x) c.get.ensures c.in_ok-tree_of-in-Some.ensures),
      ap Some (c.in_ok-after-in-Some.ensures ∙ ap (after c.args.columns.now) (c.get-in-Some.ensures ∙ c.in_ok-tree-in-Some.ensures)),
    )
