use Rattle.std.proofs.Common.{◌≡◌, drop}
use Rattle.topic_log.proofs.Least.{least_from}
use Rattle.topic_log.proofs.shelves.closed_of.Given as goal

-- the least so far, and then that of the rest, is the least of all
abbrev pub invariant-loop-task : goal.invariant-loop-task
invariant-loop-task l = least_from (λ k. k.done) l.least (drop l.task-index l.tasks) ≡ least_from (λ k. k.done) l.initial.least l.tasks
