use Rattle.std.proofs.Common.{◌≡◌, take}
use Rattle.ksql_expr.proofs.copies.+copy.Given as goal

-- the copies so far are a prefix of the list
abbrev pub invariant-copy_exprs-loop-expr : goal.invariant-copy_exprs-loop-expr
invariant-copy_exprs-loop-expr l = l.copied.items ≡ take l.expr-index l.expr-items

abbrev pub invariant-copy_whens-loop-when : goal.invariant-copy_whens-loop-when
invariant-copy_whens-loop-when l = l.copied.items ≡ take l.when-index l.when-items
