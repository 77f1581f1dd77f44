use Rattle.std.proofs.Common.{◌≡◌, []}
use Rattle.std.specs.Vec.Iter.{into_iter_items}
use Rattle.aggregate_rules.specs.Grouping.{once_from}
use Rattle.aggregate_rules.proofs.columns.once.Given as goal

-- what is found, and what remains
abbrev pub invariant-loop-expr : goal.invariant-loop-expr
invariant-loop-expr l = once_from l.found.items (into_iter_items l.expr-iterator) ≡ once_from [] l.fn.exprs.items
