use Rattle.std.proofs.Common.{◌≡◌, ◌||◌, ap₂, sym, ◌∙◌}
use Rattle.std.specs.Prelude.{option_map}
use Rattle.std.specs.List.{list_any}
use Rattle.aggregate_rules.specs.Grouping.{has_bare_column}
use Rattle.ksql_clauses.specs.Items.{result_columns}
use Rattle.ksql_scopes.specs.Resolved.{resolved}
use Rattle.ksql_clauses.specs.Sources.{item_scope, there}
use Rattle.ksql_rules.specs.Breaks.{group_exprs}
use Rattle.ksql_rules.proofs.Mapped.{parts}
use Rattle.ksql_rules.proofs.aggregations.has_bare.Goals as goal

pub returns : goal.returns
returns c =
    let f = c.args.findings.now in
    let q = f.select.now in
    let ks = f.known.items in
    let columns : c.one_is_bare.result ≡ list_any (λ x. has_bare_column (group_exprs q ks) x.expr) (result_columns q ks) =
    c.one_is_bare.ensures
    ∙ ap₂ (λ gs cs. list_any (λ x. has_bare_column gs x.expr) cs) (c.deref.ensures.value ∙ c.requires.groups_are) (c.deref-2.ensures.value ∙ c.requires.columns_are) in
    let having : c.is_having_bare.result ≡ list_any (has_bare_column (group_exprs q ks)) (there (option_map (resolved (item_scope q ks)) q.having)) =
    c.is_having_bare.ensures
    ∙ ap₂ (λ gs h. list_any (has_bare_column gs) (there h)) (c.deref-3.ensures.value ∙ c.requires.groups_are) c.requires.having_is in
    c.either.ensures ∙ ap₂ (λ a b. a || b) columns having
    ∙ sym (parts (has_bare_column (group_exprs q ks)) (λ x. x.expr) (result_columns q ks) (there (option_map (resolved (item_scope q ks)) q.having)))
