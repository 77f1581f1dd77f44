use Rattle.std.proofs.Common.{◌≡◌, ◌++◌, drop, map, option_map}
use Rattle.schedule_text.specs.Forms.{pair_view}
use Rattle.schedule_text.specs.Steps.{counts_of}
use Rattle.schedule_text.proofs.standing.counts_of.Given as goal

-- the counts so far come before those of the remaining pairs
abbrev pub invariant-loop-pair : goal.invariant-loop-pair
invariant-loop-pair l =
    counts_of l.items (map pair_view l.pairs) ≡ option_map (λ later. l.counts.items ++ later) (counts_of l.items (map pair_view (drop l.pair-index l.pairs)))
