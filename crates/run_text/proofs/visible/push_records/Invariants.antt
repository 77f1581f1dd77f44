use Rattle.std.proofs.Common.{◌≡◌, ◌++◌, map, take}
use Rattle.run_text.proofs.visible.push_records.Given as goal

-- the records so far are there
abbrev pub invariant-loop-fed : goal.invariant-loop-fed
invariant-loop-fed l = map (λ r. r.now) l.records.items ≡ map (λ r. r.now) l.initial.records.items ++ take l.fed-index l.more
