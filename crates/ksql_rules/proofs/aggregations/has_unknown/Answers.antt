use Rattle.std.proofs.Common.{◌≡◌, ◌||◌, ap, ap₂, ◌∙◌}
use Rattle.std.specs.List.{list_any}
use Rattle.ksql_scopes.specs.Uses.{has_unknown_function}
use Rattle.ksql_clauses.specs.Sources.{early_exprs, late_exprs}
use Rattle.ksql_rules.proofs.Mapped.{lent}
use Rattle.ksql_rules.proofs.aggregations.has_unknown.Goals as goal

pub returns : goal.returns
returns c =
    let f = c.args.findings.now in
    let early : c.one_has_unknown.result ≡ list_any has_unknown_function (early_exprs f.select.now) =
    c.one_has_unknown.ensures ∙ ap (λ xs. list_any (λ a. has_unknown_function a.now) xs) c.deref.ensures.value
    ∙ lent has_unknown_function f.early.items (early_exprs f.select.now) c.requires.early_are in
    let late : c.one_has_unknown-2.result ≡ list_any has_unknown_function (late_exprs f.select.now) =
    c.one_has_unknown-2.ensures ∙ ap (λ xs. list_any (λ a. has_unknown_function a.now) xs) c.deref-2.ensures.value
    ∙ lent has_unknown_function f.late.items (late_exprs f.select.now) c.requires.late_are in
    c.either.ensures ∙ ap₂ (λ a b. a || b) early late
