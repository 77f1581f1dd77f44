use Rattle.std.proofs.Common.{All, map, ap, sym, ◌∙◌, subst}
use denote.Bor.{Bor}
use Rattle.ksql_scopes.specs.declared.scope.Scope.{Scope}
use Rattle.ksql_clauses.specs.declared.items.Named.{Named}
use Rattle.ksql_clauses.specs.Sources.{item_scope}
use Rattle.ksql_analyse.specs.Judgement.{AreTypedTrees, exprs}
use Rattle.ksql_analyse.specs.Typable.{AreColumnTrees, IsValued}
use Rattle.ksql_analyse.proofs.lists.Moving.{moved, moved-two}
use Rattle.ksql_analyse.proofs.forms.ValuedTrees.{keys-lent, values-lent}
use Rattle.ksql_analyse.proofs.shape.plain_shape.Goals as goal

pub column_trees-requires-clause-valued : goal.column_trees-requires-clause-valued
column_trees-requires-clause-valued c =
    let f = c.args.findings.now in
    let q = f.select.now in
    let ks = f.known.items in
    subst (λ (s : Scope). All (λ v. IsValued s v.now.expr) c.deref.result.now) (sym c.requires.ready.found.item_scope_is)
    (keys-lent (λ (v : Named). IsValued (item_scope q ks) v.expr) q ks c.deref.result.now (ap (map (λ v. v.now)) c.deref.ensures.value ∙ c.in_ok-key_columns.ensures)
    c.requires.ready.typable.columns)

pub column_trees-requires-2-clause-valued : goal.column_trees-requires-2-clause-valued
column_trees-requires-2-clause-valued c =
    let f = c.args.findings.now in
    let q = f.select.now in
    let ks = f.known.items in
    subst (λ (s : Scope). All (λ v. IsValued s v.now.expr) c.deref-2.result.now) (sym c.requires.ready.found.item_scope_is)
    (values-lent (λ (v : Named). IsValued (item_scope q ks) v.expr) q ks c.deref-2.result.now
    (ap (map (λ v. v.now)) c.deref-2.ensures.value ∙ c.in_ok-value_columns.ensures) c.requires.ready.typable.columns)

pub returns : goal.returns
returns c =
    let scope = c.requires.ready.found.item_scope_is in
    let keys = ap (map (λ (v : Bor Named). v.now)) c.deref.ensures.value ∙ c.in_ok-key_columns.ensures in
    let values = ap (map (λ (v : Bor Named). v.now)) c.deref-2.ensures.value ∙ c.in_ok-value_columns.ensures in
    record {
      is = (
        c.requires.plain,
        moved AreTypedTrees _ _ _ _ _ _ scope (ap exprs keys) (sym c.of.ensures) c.in_ok-keys.ensures.trees,
        moved AreTypedTrees _ _ _ _ _ _ scope (ap exprs values) (sym c.of-2.ensures) c.in_ok-values.ensures.trees,
      );
      keyed = moved-two AreColumnTrees _ _ _ _ keys (sym c.of.ensures) c.in_ok-keys.ensures.values;
      valued = moved-two AreColumnTrees _ _ _ _ values (sym c.of-2.ensures) c.in_ok-values.ensures.values;
    }
