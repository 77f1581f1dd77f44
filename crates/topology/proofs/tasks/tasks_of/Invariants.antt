use Rattle.std.proofs.Common.{◌≡◌, take}
use Rattle.topology.specs.Tasks.{tasks_of}
use Rattle.topology.proofs.tasks.tasks_of.Given as goal

abbrev pub invariant-loop-sub : goal.invariant-loop-sub
invariant-loop-sub l = l.tasks.items ≡ tasks_of (take l.sub-index l.subs)
