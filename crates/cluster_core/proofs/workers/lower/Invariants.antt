use Rattle.std.proofs.Common.{◌≡◌, filter, nat_lt, take}
use Rattle.cluster_core.proofs.workers.lower.Given as goal

-- the lower ones so far
abbrev pub invariant-loop-other : goal.invariant-loop-other
invariant-loop-other l = l.some.items ≡ filter (λ w. nat_lt w l.worker) (take l.other-index l.live)
