use Rattle.std.proofs.Common.{◌≡◌, ◌++◌, drop, map}
use Rattle.ksql_scopes.specs.Uses.{all_of}
use Rattle.aggregate_rules.specs.Grouping.{gives, whole_aggregate}
use Rattle.aggregate_rules.proofs.aggregates.+aggregates.Given as goal

-- what is found, and what remains
abbrev pub invariant-add_all-loop-expr : goal.invariant-add_all-loop-expr
invariant-add_all-loop-expr l =
    l.found.items ++ all_of (map (gives whole_aggregate) (drop l.expr-index l.expr-items)) ≡ l.fn.found.items ++ all_of (map (gives whole_aggregate) l.expr-items)

abbrev pub invariant-add_whens-loop-when : goal.invariant-add_whens-loop-when
invariant-add_whens-loop-when l =
    l.found.items ++ all_of (map (λ w. gives whole_aggregate w.cond ++ gives whole_aggregate w.result) (drop l.when-index l.when-items))
    ≡ l.fn.found.items ++ all_of (map (λ w. gives whole_aggregate w.cond ++ gives whole_aggregate w.result) l.when-items)
