use Rattle.std.proofs.Common.{◌≡◌, ◌++◌, map}
use Rattle.std.specs.List.{range_with_len}
use Rattle.topology.proofs.tasks.push_tasks.Given as goal

abbrev pub invariant-loop-part : goal.invariant-loop-part
invariant-loop-part l = l.tasks.items ≡ l.initial.tasks.items ++ map (λ part. record { sub = l.sub.number; part = part }) (range_with_len 0 l.part)
