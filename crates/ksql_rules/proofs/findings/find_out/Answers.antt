use Rattle.std.proofs.Common.{◌≡◌, ◌-◌, ◌^◌, ◌≤◌, All, map, length, ap, ap₂, sym, ◌∙◌, subst}
use Rattle.std.specs.Prelude.{option_map}
use Rattle.ksql_clauses.specs.Items.{result_columns}
use Rattle.ksql_scopes.specs.Resolved.{resolved}
use Rattle.ksql_scopes.specs.Uses.{IsSmall}
use Rattle.ksql_clauses.specs.Sources.{from_scope, item_scope, on_scope, on_exprs, front_exprs, late_exprs}
use Rattle.ksql_rules.specs.Findings.{IsFound}
use Rattle.ksql_clauses.specs.Keys.{first_of, join_key, needs}
use Rattle.ksql_rules.proofs.Within.{few-in, short-in, on-within, front-within}
use Rattle.ksql_rules.proofs.findings.find_out.Goals as goal

pub result_columns-requires-clause-short_relations : goal.result_columns-requires-clause-short_relations
result_columns-requires-clause-short_relations c =
    short-in c.args.catalog.now c.args.select.now c.deref-4.result.now c.requires.relations c.requires.query.aliases_short
    (c.deref-4.ensures.value ∙ c.in_ok-known.ensures)

pub found_in-requires-clause-small : goal.found_in-requires-clause-small
found_in-requires-clause-small c =
    subst (All IsSmall) (sym (ap (λ xs. map (λ a. a.now) xs) c.deref-9.ensures.value ∙ c.in_ok-on.ensures))
    (on-within c.args.select.now c.requires.query.early_small)

pub found_in-requires-clause-columns : goal.found_in-requires-clause-columns
found_in-requires-clause-columns c =
    subst (λ s. length s.columns ≤ 2 ^ 32 - 2) (sym c.in_ok-on_scope.ensures)
    (few-in c.args.catalog.now c.args.select.now c.deref-2.result.now c.requires.relations c.requires.query.aliases_short
    (c.deref-2.ensures.value ∙ c.in_ok-known.ensures))

pub found_in-requires-2-clause-small : goal.found_in-requires-2-clause-small
found_in-requires-2-clause-small c =
    subst (All IsSmall) (sym (ap (λ xs. map (λ a. a.now) xs) c.deref-10.ensures.value ∙ c.in_ok-front.ensures))
    (front-within c.args.select.now c.requires.query.early_small)

pub found_in-requires-2-clause-columns : goal.found_in-requires-2-clause-columns
found_in-requires-2-clause-columns c =
    subst (λ s. length s.columns ≤ 2 ^ 32 - 2) (sym c.in_ok-scope.ensures)
    (few-in c.args.catalog.now c.args.select.now c.deref.result.now c.requires.relations c.requires.query.aliases_short
    (c.deref.ensures.value ∙ c.in_ok-known.ensures))

pub found_in-requires-3-clause-columns : goal.found_in-requires-3-clause-columns
found_in-requires-3-clause-columns c =
    subst (λ s. length s.columns ≤ 2 ^ 32 - 2) (sym c.in_ok-item_scope.ensures)
    (few-in c.args.catalog.now c.args.select.now c.deref-3.result.now c.requires.relations c.requires.query.aliases_short
    (c.deref-3.ensures.value ∙ c.in_ok-known.ensures))

pub returns-clause-found : goal.returns-clause-found
returns-clause-found c =
    let q = c.args.select.now in
    let ks = c.in_ok-known.known.items in
    let scope : c.in_ok-scope.scope ≡ from_scope q ks = c.in_ok-scope.ensures ∙ ap (from_scope q) c.deref.ensures.value in
    let items : c.in_ok-item_scope.item_scope ≡ item_scope q ks = c.in_ok-item_scope.ensures ∙ ap (item_scope q) c.deref-3.ensures.value in
    let columns : c.in_ok-columns.columns.items ≡ result_columns q ks = c.in_ok-columns.ensures ∙ ap (result_columns q) c.deref-4.ensures.value in
    let needed : map (λ es. es.items) c.deref-7.result.now ≡ needs q ks =
    ap (λ ns. map (λ es. es.items) ns) c.deref-7.ensures.value ∙ c.in_ok-needs.ensures ∙ ap (needs q) c.deref-6.ensures.value in
    let on : map (λ a. a.now) c.deref-9.result.now ≡ on_exprs q =
    ap (λ xs. map (λ a. a.now) xs) c.deref-9.ensures.value ∙ c.in_ok-on.ensures in
    let front : map (λ a. a.now) c.deref-10.result.now ≡ front_exprs q =
    ap (λ xs. map (λ a. a.now) xs) c.deref-10.ensures.value ∙ c.in_ok-front.ensures in
    let late : map (λ a. a.now) c.deref-11.result.now ≡ late_exprs q =
    ap (λ xs. map (λ a. a.now) xs) c.deref-11.ensures.value ∙ c.in_ok-late.ensures in
    let on_scopes : c.in_ok-on_scope.on_scope ≡ on_scope q ks = c.in_ok-on_scope.ensures ∙ ap (on_scope q) c.deref-2.ensures.value in
    record {
      within = c.requires.query;
      columns_few =
          subst (λ s. length s.columns ≤ 2 ^ 32 - 2) (sym scope)
          (few-in c.args.catalog.now q ks c.requires.relations c.requires.query.aliases_short c.in_ok-known.ensures);
      scope_is = scope;
      on_scope_is = on_scopes;
      item_scope_is = items;
      early_are = c.in_ok-early.ensures;
      late_are = c.in_ok-late.ensures;
      columns_are = columns;
      places_are = c.in_ok-places.ensures ∙ ap₂ (λ cs ns. map (λ es. first_of es cs) ns) (c.deref-8.ensures.value ∙ columns) needed;
      key_is = c.in_ok-key.ensures ∙ ap (join_key q) c.deref-5.ensures.value;
      groups_are = c.in_ok-groups.ensures ∙ ap₂ (λ s es. map (resolved s) es) scope c.items.ensures;
      having_is = c.in_ok-having.ensures ∙ ap (λ s. option_map (resolved s) q.having) items;
      on_found = subst (λ s. IsFound c.in_ok-in_on.in_on s (on_exprs q)) on_scopes
          (subst (λ es. IsFound c.in_ok-in_on.in_on c.in_ok-on_scope.on_scope es) on c.in_ok-in_on.ensures);
      front_found = subst (λ s. IsFound c.in_ok-in_front.in_front s (front_exprs q)) scope
          (subst (λ es. IsFound c.in_ok-in_front.in_front c.in_ok-scope.scope es) front c.in_ok-in_front.ensures);
      late_found = subst (λ s. IsFound c.in_ok-in_late.in_late s (late_exprs q)) items
          (subst (λ es. IsFound c.in_ok-in_late.in_late c.in_ok-item_scope.item_scope es) late c.in_ok-in_late.ensures);
    }
