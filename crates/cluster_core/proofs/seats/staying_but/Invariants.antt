use Rattle.std.proofs.Common.{◌≡◌, map, not, take}
use Rattle.cluster_laws.specs.Progress.{is_task}
use Rattle.cluster_laws.specs.declared.seats.Seat.{Seat}
use Rattle.cluster_core.proofs.seats.staying_but.Given as goal

-- which stay so far
abbrev pub invariant-loop-seat : goal.invariant-loop-seat
invariant-loop-seat l = l.stays.items ≡ map (λ (s : Seat). not (is_task l.lost s.task.name)) (take l.seat-index l.seats)
