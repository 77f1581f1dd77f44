use Rattle.std.proofs.Common.{◌≡◌, [], take}
use Rattle.assignor.specs.Loads.{loads_of}
use Rattle.assignor.proofs.loads.no_loads.Given as goal

abbrev pub invariant-loop-worker : goal.invariant-loop-worker
invariant-loop-worker l = l.loads.items ≡ loads_of (take l.worker-index l.live) []
