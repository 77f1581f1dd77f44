use Rattle.std.proofs.Common.{◌≡◌, ℕ, List, map, length, bytes_eq}
use Rattle.std.specs.Str.{str_to_ascii_uppercase}
use Rattle.ksql_types.specs.Names.{is_among}
use Rattle.ksql_clauses.specs.Properties.{name_of, has_kind, value_of}
use Rattle.ksql_clauses.proofs.properties.is_named_among.Given as goal

-- the rest decides
abbrev pub invariant-loop-properties : goal.invariant-loop-properties
invariant-loop-properties l = is_among (map name_of l.properties) (str_to_ascii_uppercase l.name) ≡ is_among (map name_of l.fn.properties) (str_to_ascii_uppercase l.name)

abbrev pub decreases-loop-properties : goal.decreases-loop-properties
decreases-loop-properties l = length l.properties
