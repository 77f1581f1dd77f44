use Rattle.std.proofs.Common.{◌≡◌, map, take}
use Rattle.reference.proofs.program_report.lent.Given as goal

-- the records so far are borrowed
abbrev pub invariant-loop-fed : goal.invariant-loop-fed
invariant-loop-fed l = map (λ r. r.now) l.records.items ≡ take l.fed-index l.order
