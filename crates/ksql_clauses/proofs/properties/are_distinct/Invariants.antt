use Rattle.std.proofs.Common.{◌≡◌, ℕ, List, map, length, bytes_eq}
use Rattle.ksql_types.specs.Names.{are_distinct}
use Rattle.ksql_clauses.specs.Properties.{name_of, has_kind, value_of}
use Rattle.ksql_clauses.proofs.properties.are_distinct.Given as goal

-- the rest decides
abbrev pub invariant-loop-properties : goal.invariant-loop-properties
invariant-loop-properties l = are_distinct (map name_of l.properties) ≡ are_distinct (map name_of l.fn.properties)

abbrev pub decreases-loop-properties : goal.decreases-loop-properties
decreases-loop-properties l = length l.properties
