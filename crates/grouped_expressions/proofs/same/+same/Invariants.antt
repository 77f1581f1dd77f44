use Rattle.std.proofs.Common.{◌≡◌, ◌++◌, take}
use Rattle.grouped_expressions.proofs.same.+same.Given as goal

-- the prefixes of both lists are the same
abbrev pub invariant-same_trees-loop-x : goal.invariant-same_trees-loop-x
invariant-same_trees-loop-x l = take l.x-index l.x-items ++ l.rest ≡ l.fn.b

abbrev pub invariant-same_whens-loop-x : goal.invariant-same_whens-loop-x
invariant-same_whens-loop-x l = take l.x-index l.x-items ++ l.rest ≡ l.fn.b
