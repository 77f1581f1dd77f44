use Rattle.std.proofs.Common.{◌≡◌, ℕ, List, map, length, bytes_eq}
use Rattle.std.specs.Str.{str_to_ascii_uppercase}
use Rattle.ksql_clauses.proofs.properties.is_word.Given as goal

-- the rest decides
abbrev pub invariant-loop-name : goal.invariant-loop-name
invariant-loop-name l = bytes_eq (str_to_ascii_uppercase l.name) l.word ≡ bytes_eq (str_to_ascii_uppercase l.fn.name) l.fn.word

abbrev pub decreases-loop-name : goal.decreases-loop-name
decreases-loop-name l = length l.name
