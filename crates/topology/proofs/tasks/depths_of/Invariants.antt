use Rattle.std.proofs.Common.{◌≡◌, ℕ, take}
use Rattle.std.specs.BTreeMap.{get}
use Rattle.std.specs.Ordering.{nat_cmp}
use Rattle.std.specs.Prelude.{unwrap_or}
use Rattle.topology.specs.Tasks.{depth_after}
use Rattle.topology.proofs.tasks.depths_of.Given as goal

abbrev pub invariant-loop-sub : goal.invariant-loop-sub
invariant-loop-sub l = (topic : ℕ) → unwrap_or (get nat_cmp l.depths topic) 0 ≡ depth_after (λ _. 0) (take l.sub-index l.subs) topic
