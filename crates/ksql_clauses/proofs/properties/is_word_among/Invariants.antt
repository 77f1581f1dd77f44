use Rattle.std.proofs.Common.{◌≡◌, ℕ, List, map, length, bytes_eq}
use Rattle.std.specs.Str.{str_to_ascii_uppercase}
use Rattle.ksql_types.specs.Names.{is_among}
use Rattle.ksql_clauses.proofs.properties.is_word_among.Given as goal

-- the rest decides
abbrev pub invariant-loop-words : goal.invariant-loop-words
invariant-loop-words l = is_among (map (λ word. word.now) l.words) (str_to_ascii_uppercase l.name) ≡ is_among (map (λ word. word.now) l.fn.words) (str_to_ascii_uppercase l.name)

abbrev pub decreases-loop-words : goal.decreases-loop-words
decreases-loop-words l = length l.words
