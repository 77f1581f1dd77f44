use Rattle.std.proofs.Common.{◌≡◌, drop}
use Rattle.assignor.specs.Loads.{load_among}
use Rattle.assignor.proofs.loads.load_among.Given as goal

abbrev pub invariant-loop-load : goal.invariant-loop-load
invariant-loop-load l = load_among l.worker (drop l.load-index l.loads) ≡ load_among l.worker l.loads
