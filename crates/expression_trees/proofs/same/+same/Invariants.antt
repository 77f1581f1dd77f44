use Rattle.std.proofs.Common.{◌≡◌, ◌++◌, take}
use Rattle.expression_trees.proofs.same.+same.Given as goal

-- the front of both lists is one
abbrev pub invariant-are_exprs-loop-x : goal.invariant-are_exprs-loop-x
invariant-are_exprs-loop-x l = take l.x-index l.x-items ++ l.rest ≡ l.fn.b

abbrev pub invariant-are_whens-loop-x : goal.invariant-are_whens-loop-x
invariant-are_whens-loop-x l = take l.x-index l.x-items ++ l.rest ≡ l.fn.b
