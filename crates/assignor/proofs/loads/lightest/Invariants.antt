use Rattle.std.proofs.Common.{◌≡◌, drop}
use Rattle.assignor.specs.Loads.{first_load, lightest}
use Rattle.assignor.proofs.loads.lightest.Given as goal

abbrev pub invariant-loop-load : goal.invariant-loop-load
invariant-loop-load l = first_load l.best (lightest (drop l.load-index l.loads)) ≡ lightest l.loads
