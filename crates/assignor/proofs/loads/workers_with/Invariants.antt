use Rattle.std.proofs.Common.{◌≡◌, ◌+◌, drop}
use Rattle.std.specs.Prelude.{◌==◌}
use Rattle.assignor.specs.Rule.{how_many}
use Rattle.assignor.proofs.loads.workers_with.Given as goal

abbrev pub invariant-loop-load : goal.invariant-loop-load
invariant-loop-load l = l.count + how_many (λ load. load.tasks == l.tasks) (drop l.load-index l.loads) ≡ how_many (λ load. load.tasks == l.tasks) l.loads
