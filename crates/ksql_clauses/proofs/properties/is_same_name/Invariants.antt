use Rattle.std.proofs.Common.{◌≡◌, ℕ, List, map, length, bytes_eq}
use Rattle.std.specs.Str.{str_to_ascii_uppercase}
use Rattle.ksql_clauses.proofs.properties.is_same_name.Given as goal

-- the rest decides
abbrev pub invariant-loop-name : goal.invariant-loop-name
invariant-loop-name l = bytes_eq (str_to_ascii_uppercase l.name) (str_to_ascii_uppercase l.other) ≡ bytes_eq (str_to_ascii_uppercase l.fn.name) (str_to_ascii_uppercase l.fn.other)

abbrev pub decreases-loop-name : goal.decreases-loop-name
decreases-loop-name l = length l.name
