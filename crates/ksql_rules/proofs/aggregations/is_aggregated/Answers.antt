use Rattle.std.proofs.Common.{ap, ◌∙◌}
use Rattle.std.specs.List.{list_any}
use Rattle.aggregate_rules.specs.Grouping.{has_aggregate}
use Rattle.ksql_clauses.specs.Sources.{late_exprs}
use Rattle.ksql_rules.proofs.Mapped.{lent}
use Rattle.ksql_rules.proofs.aggregations.is_aggregated.Goals as goal

pub returns : goal.returns
returns c =
    c.one_has_aggregate.ensures ∙ ap (λ xs. list_any (λ a. has_aggregate a.now) xs) c.deref.ensures.value
    ∙ lent has_aggregate c.args.findings.now.late.items (late_exprs c.args.findings.now.select.now) c.requires.late_are
