use Rattle.std.proofs.Common.{◌≡◌, ◌+◌, length, map, sum, take}
use Rattle.topic_log.proofs.prepared.room_for.Given as goal

-- the number of changes that wait in the lists so far, plus `more`
abbrev pub invariant-loop-changes : goal.invariant-loop-changes
invariant-loop-changes l = l.room ≡ sum (map (λ w. length w.items) (take l.changes-index l.waiting)) + l.more
