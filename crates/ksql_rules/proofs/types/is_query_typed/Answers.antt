use Rattle.std.proofs.Common.{◌≡◌, ◌&&◌, ◌++◌, All, ap, ap₂, sym, ◌∙◌, subst}
use Rattle.std.specs.List.{flat_map, list_all}
use Rattle.ksql_scopes.specs.Uses.{IsSmall}
use Rattle.ksql_clauses.specs.Items.{result_columns}
use Rattle.ksql_clauses.specs.Sources.{from_scope, on_scope, item_scope, there, item_exprs, on_exprs}
use Rattle.ksql_rules.specs.Decided.{fits_truth, is_valued, does_on_agree}
use Rattle.ksql_rules.proofs.Deciding.{turned, query-decided, on, front, early, late, fit, last}
use Rattle.ksql_rules.proofs.Smallness.{columns-small}
use Rattle.ksql_rules.proofs.Within.{All-left, All-right}
use Rattle.ksql_rules.proofs.types.is_query_typed.Goals as goal

pub fits_truth-requires-clause-small : goal.fits_truth-requires-clause-small
fits_truth-requires-clause-small c =
    let q = c.args.findings.now.select.now in
    All-right IsSmall (on_exprs q) (there q.filter)
    (All-left IsSmall (on_exprs q ++ there q.filter) q.group
    (All-left IsSmall (on_exprs q ++ there q.filter ++ q.group) (there q.partition) c.requires.within.early_small))

pub fits_truth-requires-2-clause-small : goal.fits_truth-requires-2-clause-small
fits_truth-requires-2-clause-small c =
    let q = c.args.findings.now.select.now in
    All-right IsSmall (flat_map item_exprs q.items) (there q.having) c.requires.within.late_small

pub are_valued-requires-clause-small : goal.are_valued-requires-clause-small
are_valued-requires-clause-small c =
    let q = c.args.findings.now.select.now in
    let ks = c.args.findings.now.known.items in
    subst (λ cs. All (λ x. IsSmall x.expr) cs) (sym (c.deref.ensures.value ∙ c.requires.columns_are))
    (columns-small (item_scope q ks) ks 0 q.items (All-left IsSmall (flat_map item_exprs q.items) (there q.having) c.requires.within.late_small))

pub returns : goal.returns
returns c =
    let f = c.args.findings.now in
    let q = f.select.now in
    let ks = f.known.items in
    let from = from_scope q ks in
    let items = item_scope q ks in
    let fronts : c.both-early.result ≡ (on q ks && front q ks) =
    c.both-early.ensures ∙ ap₂ (λ a b. a && b) c.requires.on_found.typed_is c.requires.front_found.typed_is in
    let typed : c.both-typed.result ≡ (early q ks && late q ks) =
    c.both-typed.ensures ∙ ap₂ (λ a b. a && b) fronts c.requires.late_found.typed_is in
    let filters : c.in_ok-filter_fits.filter_fits ≡ fits_truth from q.filter =
    c.in_ok-filter_fits.ensures ∙ ap (λ s. fits_truth s q.filter) c.requires.scope_is in
    let having : c.in_ok-having_fits.having_fits ≡ fits_truth items q.having =
    c.in_ok-having_fits.ensures ∙ ap (λ s. fits_truth s q.having) c.requires.item_scope_is in
    let fits : c.both-fit.result ≡ fit q ks = c.both-fit.ensures ∙ ap₂ (λ a b. a && b) filters having in
    let valued : c.in_ok-valued.valued ≡ list_all (is_valued items) (result_columns q ks) =
    c.in_ok-valued.ensures
    ∙ ap₂ (λ s cs. list_all (is_valued s) cs) c.requires.item_scope_is (c.deref.ensures.value ∙ c.requires.columns_are) in
    let agree : c.in_ok-agree.agree ≡ does_on_agree (on_scope q ks) q = c.in_ok-agree.ensures ∙ ap (λ s. does_on_agree s q) c.requires.on_scope_is in
    let lasts : c.both-2.result ≡ last q ks = c.both-2.ensures ∙ ap₂ (λ a b. a && b) valued agree in
    let first : c.both.result ≡ (early q ks && late q ks && fit q ks) = c.both.ensures ∙ ap₂ (λ a b. a && b) typed fits in
    turned c.both-3.result ((early q ks && late q ks && fit q ks) && last q ks) (c.both-3.ensures ∙ ap₂ (λ a b. a && b) first lasts) (query-decided q ks)
