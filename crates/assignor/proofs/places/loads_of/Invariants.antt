use Rattle.std.proofs.Common.{◌≡◌, take}
use Rattle.assignor.specs.Loads.{loads_of}
use Rattle.assignor.proofs.places.loads_of.Given as goal

abbrev pub invariant-loop-place : goal.invariant-loop-place
invariant-loop-place l = l.loads.items ≡ loads_of l.live (take l.place-index l.places)
