use Rattle.std.proofs.Common.{◌≡◌, ◌++◌, drop}
use Rattle.std.specs.Slice.Iter.{iter_rest}
use Rattle.cluster_laws.specs.Moves.{are_at}
use Rattle.cluster_core.proofs.seats.staying.Given as goal

-- which stay so far, and which of the remaining ones stay, given the remaining owners
abbrev pub invariant-loop-seat : goal.invariant-loop-seat
invariant-loop-seat l = l.stays.items ++ are_at (iter_rest l.owners) (drop l.seat-index l.seats) ≡ are_at l.fn.owners l.seats
