use Rattle.std.proofs.Common.{◌≡◌, ◌++◌, map}
use Rattle.std.specs.Vec.Iter.{into_iter_items}
use Rattle.op_chain.specs.Chain.{entries_of}
use Rattle.op_chain.proofs.along.give.Given as goal

-- what is given, and what remains
abbrev pub invariant-loop-change : goal.invariant-loop-change
invariant-loop-change l = l.out.items ++ map (λ e. e.change) (entries_of (into_iter_items l.change-iterator)) ≡ l.fn.out.items ++ map (λ e. e.change) (entries_of l.fn.entries.items)
