use Rattle.std.proofs.Common.{◌∙◌, ◌+◌, ◌^◌, ◌≤◌, All, List, Option, length, ap, ap₂, arith, map, subst, sym}
use denote.Bor.{Bor}
use Rattle.expression_trees.specs.declared.tree.Expr.{Expr}
use Rattle.ksql_scopes.specs.declared.scope.Scope.{Scope}
use Rattle.ksql_clauses.specs.declared.items.Named.{Named}
use Rattle.ksql_clauses.specs.Sources.{item_scope, there}
use Rattle.ksql_clauses.specs.Keys.{key_columns}
use Rattle.ksql_analyse.specs.Judgement.{AreAggs, AreTypedTrees, exprs, grouped_columns}
use Rattle.ksql_analyse.specs.Typable.{AreColumnTrees, IsAggregable, IsTypable, IsValued}
use Rattle.ksql_analyse.proofs.accepted.GroupedShapes.{aggs-are, columns-few, grouped-made}
use Rattle.ksql_analyse.proofs.lists.Moving.{moved-two}
use Rattle.ksql_analyse.proofs.forms.ValuedTrees.{trees-counted, values-lent}
use Rattle.ksql_analyse.proofs.shape.grouped_shape.Goals as goal

pub trees_of-requires-clause-valued : goal.trees_of-requires-clause-valued
trees_of-requires-clause-valued c =
    let found = c.requires.ready.found in
    moved-two (λ (s : Scope) (es : List Expr). All (IsValued s) es) _ _ _ _ (sym found.scope_is) (sym (c.deref-2.ensures.value ∙ found.groups_are))
    (c.requires.ready.typable.grouped c.requires.grouped).keys

pub aggs_of-requires-clause-aggregable : goal.aggs_of-requires-clause-aggregable
aggs_of-requires-clause-aggregable c =
    let f = c.args.findings.now in
    let found = c.requires.ready.found in
    let aggs = aggs-are f.select.now f.known.items _ _ _ c.in_ok-exprs.ensures (c.deref.ensures.value ∙ found.columns_are) found.having_is in
    moved-two (λ (s : Scope) (es : List Expr). All (IsAggregable s) es) _ _ _ _ (sym found.item_scope_is) (sym (c.deref-3.ensures.value ∙ aggs))
    (c.requires.ready.typable.grouped c.requires.grouped).aggregates

pub after_grouping-requires-clause-having : goal.after_grouping-requires-clause-having
after_grouping-requires-clause-having c =
    let found = c.requires.ready.found in
    moved-two (λ (s : Scope) (o : Option Expr). All (IsTypable s) (there o)) _ _ _ _ (sym found.item_scope_is) (sym found.having_is)
    (c.requires.ready.typable.grouped c.requires.grouped).having

pub after_grouping-requires-clause-values : goal.after_grouping-requires-clause-values
after_grouping-requires-clause-values c =
    let f = c.args.findings.now in
    let q = f.select.now in
    let ks = f.known.items in
    subst (λ (s : Scope). All (λ v. IsValued s v.now.expr) c.deref-6.result.now) (sym c.requires.ready.found.item_scope_is)
    (values-lent (λ (v : Named). IsValued (item_scope q ks) v.expr) q ks c.deref-6.result.now (ap (map (λ v. v.now)) c.deref-6.ensures.value ∙ c.in_ok-values.ensures)
    c.requires.ready.typable.columns)

pub after_grouping-requires-clause-columns : goal.after_grouping-requires-clause-columns
after_grouping-requires-clause-columns c =
    let f = c.args.findings.now in
    let found = c.requires.ready.found in
    let aggs = aggs-are f.select.now f.known.items _ _ _ c.in_ok-exprs.ensures (c.deref.ensures.value ∙ found.columns_are) found.having_is in
    let few : length f.groups.items + length c.in_ok-exprs.exprs.items + 2 ≤ 2 ^ 32 =
    omega (arith, (c.requires.ready.typable.grouped c.requires.grouped).few, ap length found.groups_are, ap length aggs) in
    columns-few f.scope f.item_scope f.groups.items c.in_ok-exprs.exprs.items c.in_ok-keys.keys.items c.in_ok-aggs.aggs.items
    (grouped_columns f.item_scope c.deref-4.result.now c.deref-5.result.now) (ap₂ (grouped_columns f.item_scope) c.deref-4.ensures.value c.deref-5.ensures.value)
    (subst (λ (es : List Expr). AreTypedTrees f.scope es c.in_ok-keys.keys.items) c.deref-2.ensures.value c.in_ok-keys.ensures.trees)
    (subst (λ (es : List Expr). AreAggs f.item_scope es c.in_ok-aggs.aggs.items) c.deref-3.ensures.value c.in_ok-aggs.ensures) few

pub returns : goal.returns
returns c =
    let f = c.args.findings.now in
    let q = f.select.now in
    let ks = f.known.items in
    let found = c.requires.ready.found in
    let aggs = aggs-are q ks _ _ _ c.in_ok-exprs.ensures (c.deref.ensures.value ∙ found.columns_are) found.having_is in
    let values = ap (map (λ (v : Bor Named). v.now)) c.deref-6.ensures.value ∙ c.in_ok-values.ensures in
    let trees = subst (λ (es : List Expr). AreTypedTrees f.scope es c.in_ok-keys.keys.items) c.deref-2.ensures.value c.in_ok-keys.ensures.trees in
    record {
      is = grouped-made q ks f.scope f.item_scope f.groups.items c.in_ok-exprs.exprs.items (exprs (map (λ v. v.now) c.deref-6.result.now)) _
          c.in_ok-keys.keys.items c.of.result c.in_ok-after.after.values.items c.of-3.result c.in_ok-aggs.aggs.items c.of-2.result
          (grouped_columns f.item_scope c.deref-4.result.now c.deref-5.result.now) c.window_in.result c.in_ok-after.after.having
          found.scope_is found.item_scope_is found.groups_are aggs (ap exprs values) found.having_is
          (sym c.of.ensures) (sym c.of-3.ensures) (sym c.of-2.ensures)
          (ap₂ (grouped_columns f.item_scope) c.deref-4.ensures.value c.deref-5.ensures.value) c.requires.grouped c.window_in.ensures trees
          (subst (λ (es : List Expr). AreAggs f.item_scope es c.in_ok-aggs.aggs.items) c.deref-3.ensures.value c.in_ok-aggs.ensures)
          c.in_ok-after.ensures.having c.in_ok-after.ensures.values;
      keyed = subst (AreColumnTrees (key_columns q ks)) (sym c.of.ensures)
          (record {
            counted = (c.requires.ready.typable.grouped c.requires.grouped).keyed ∙ ap length (sym found.groups_are)
                ∙ trees-counted f.scope f.groups.items c.in_ok-keys.keys.items trees;
            values = c.in_ok-keys.ensures.values;
          });
      valued = moved-two AreColumnTrees _ _ _ _ values (sym c.of-3.ensures) c.in_ok-after.ensures.valued;
    }
