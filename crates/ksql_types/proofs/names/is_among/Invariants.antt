use Rattle.std.proofs.Common.{◌≡◌, map, length}
use Rattle.ksql_types.specs.Names.{is_among}
use Rattle.ksql_types.proofs.names.is_among.Given as goal

-- the rest decides
abbrev pub invariant-loop-words : goal.invariant-loop-words
invariant-loop-words l = is_among (map (λ word. word.now) l.words) l.name ≡ is_among (map (λ word. word.now) l.fn.words) l.name

abbrev pub decreases-loop-words : goal.decreases-loop-words
decreases-loop-words l = length l.words
