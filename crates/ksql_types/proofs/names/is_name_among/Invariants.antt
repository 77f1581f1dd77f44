use Rattle.std.proofs.Common.{◌≡◌, map, length}
use Rattle.ksql_types.specs.Names.{is_among}
use Rattle.ksql_types.proofs.names.is_name_among.Given as goal

-- the rest decides
abbrev pub invariant-loop-names : goal.invariant-loop-names
invariant-loop-names l = is_among (map (λ word. word.now) l.names) l.name ≡ is_among (map (λ word. word.now) l.fn.names) l.name

abbrev pub decreases-loop-names : goal.decreases-loop-names
decreases-loop-names l = length l.names
