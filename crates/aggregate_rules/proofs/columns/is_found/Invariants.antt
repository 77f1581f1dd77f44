use Rattle.std.proofs.Common.{◌≡◌, drop}
use Rattle.std.specs.List.{list_any}
use Rattle.expression_trees.specs.Same.{same_expr}
use Rattle.aggregate_rules.proofs.columns.is_found.Given as goal

-- the rest decides
abbrev pub invariant-loop-other : goal.invariant-loop-other
invariant-loop-other l = list_any (same_expr l.expr) (drop l.other-index l.found) ≡ list_any (same_expr l.expr) l.found
