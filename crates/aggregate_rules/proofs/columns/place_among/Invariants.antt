use Rattle.std.proofs.Common.{◌≡◌, drop}
use Rattle.aggregate_rules.specs.Grouping.{place_from}
use Rattle.aggregate_rules.proofs.columns.place_among.Given as goal

-- the rest decides
abbrev pub invariant-loop-i : goal.invariant-loop-i
invariant-loop-i l = place_from l.i (drop l.i l.exprs) l.expr ≡ place_from 0 l.exprs l.expr
