use Rattle.std.proofs.Common.{◌≡◌, drop}
use Rattle.grouped_expressions.specs.Grouped.{place_from, place_among}
use Rattle.grouped_expressions.proofs.grouped.place_among.Given as goal

-- the rest decides
abbrev pub invariant-loop-i : goal.invariant-loop-i
invariant-loop-i l = place_from l.i (drop l.i l.columns) l.node ≡ place_among l.columns l.node
