use Rattle.std.proofs.Common.{◌≡◌, ◌||◌, ap, ap₂, ◌∙◌}
use Rattle.std.specs.List.{list_any}
use Rattle.aggregate_rules.specs.Grouping.{has_aggregate, has_nested_aggregate}
use Rattle.ksql_clauses.specs.Sources.{early_exprs, late_exprs}
use Rattle.ksql_rules.proofs.Mapped.{lent}
use Rattle.ksql_rules.proofs.aggregations.has_misplaced.Goals as goal

pub returns : goal.returns
returns c =
    let f = c.args.findings.now in
    let early : c.one_has_aggregate.result ≡ list_any has_aggregate (early_exprs f.select.now) =
    c.one_has_aggregate.ensures ∙ ap (λ xs. list_any (λ a. has_aggregate a.now) xs) c.deref.ensures.value
    ∙ lent has_aggregate f.early.items (early_exprs f.select.now) c.requires.early_are in
    let late : c.one_has_nested.result ≡ list_any has_nested_aggregate (late_exprs f.select.now) =
    c.one_has_nested.ensures ∙ ap (λ xs. list_any (λ a. has_nested_aggregate a.now) xs) c.deref-2.ensures.value
    ∙ lent has_nested_aggregate f.late.items (late_exprs f.select.now) c.requires.late_are in
    c.either.ensures ∙ ap₂ (λ a b. a || b) early late
