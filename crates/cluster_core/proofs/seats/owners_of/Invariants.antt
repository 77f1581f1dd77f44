use Rattle.std.proofs.Common.{◌≡◌, map, take}
use Rattle.cluster_laws.specs.Moves.{owned_of}
use Rattle.cluster_core.proofs.seats.owners_of.Given as goal

-- the owners so far
abbrev pub invariant-loop-seat : goal.invariant-loop-seat
invariant-loop-seat l = l.owners.items ≡ map owned_of (take l.seat-index l.seats)
