use Rattle.std.proofs.Common.{◌≡◌, ◌++◌, length}
use Rattle.cluster_core.proofs.sources.take_feds.Given as goal

-- those taken come before the remaining ones
abbrev pub invariant-loop : goal.invariant-loop
invariant-loop l = record {
  whole : l.feds.items ++ l.left.items ≡ l.fn.left.items;
  took : length l.feds.items ≡ l.counter;
}
