use Rattle.std.proofs.Common.{◌≡◌, ◌++◌}
use Rattle.std.specs.Vec.Iter.{into_iter_items}
use Rattle.ksql_analyse.proofs.grouped.push_all.Given as goal

-- what is pushed, and what remains
abbrev pub invariant-loop-expr : goal.invariant-loop-expr
invariant-loop-expr l = l.all.items ++ into_iter_items l.expr-iterator ≡ l.initial.all.items ++ l.fn.more.items
