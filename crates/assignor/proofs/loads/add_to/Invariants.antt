use Rattle.std.proofs.Common.{◌≡◌, ◌++◌, map, take, drop}
use Rattle.assignor.specs.Loads.{one_more}
use Rattle.assignor.proofs.loads.add_to.Given as goal

-- one task more for the worker among the loads so far
abbrev pub invariant-loop-load : goal.invariant-loop-load
invariant-loop-load l = l.loads ≡ map (one_more l.worker) (take l.load-index l.fn.loads) ++ drop l.load-index l.fn.loads
