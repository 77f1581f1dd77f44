use Rattle.std.proofs.Common.{◌≡◌, ◌++◌, length, map, option_map}
use Rattle.schedule_text.specs.Forms.{pair_view, pairs_of}
use Rattle.schedule_text.proofs.forms.pairs_of.Given as goal

-- the pairs so far come before those of the remaining words
abbrev pub invariant-loop-rest : goal.invariant-loop-rest
invariant-loop-rest l = pairs_of (map (λ word. word.now) l.words) ≡ option_map (λ later. map pair_view l.pairs.items ++ later) (pairs_of (map (λ word. word.now) l.rest))

abbrev pub decreases-loop-rest : goal.decreases-loop-rest
decreases-loop-rest l = length l.rest
