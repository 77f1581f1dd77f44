use Rattle.std.proofs.Common.{◌≡◌, map, length}
use Rattle.ksql_types.specs.Names.{are_distinct}
use Rattle.ksql_types.proofs.names.are_distinct.Given as goal

-- the rest decides
abbrev pub invariant-loop-names : goal.invariant-loop-names
invariant-loop-names l = are_distinct (map (λ name. name.now) l.names) ≡ are_distinct (map (λ name. name.now) l.fn.names)

abbrev pub decreases-loop-names : goal.decreases-loop-names
decreases-loop-names l = length l.names
