use Rattle.std.proofs.Common.{◌==◌, arith}
use Rattle.assignor.proofs.LoadLemmas.{how_many-le}
use Rattle.assignor.proofs.loads.workers_with.Goals as goal

pub overflow_add-count : goal.overflow_add-count
overflow_add-count c = let few = how_many-le (λ load. load.tasks == c.args.tasks) c.args.loads.now in omega (arith, few, c.loop-load.invariant)
