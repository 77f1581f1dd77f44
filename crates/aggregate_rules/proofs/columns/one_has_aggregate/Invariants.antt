use Rattle.std.proofs.Common.{◌≡◌, drop}
use Rattle.std.specs.List.{list_any}
use Rattle.aggregate_rules.specs.Grouping.{has_aggregate}
use Rattle.aggregate_rules.proofs.columns.one_has_aggregate.Given as goal

-- the rest decides
abbrev pub invariant-loop-expr : goal.invariant-loop-expr
invariant-loop-expr l = list_any has_aggregate (drop l.expr-index l.expr-items) ≡ list_any has_aggregate l.expr-items
