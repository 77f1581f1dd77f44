use Rattle.std.proofs.Common.{◌≡◌, length}
use Rattle.std.specs.Prelude.{All}
use Rattle.topic_log.specs.Opening.{IsFreshTask}
use Rattle.topic_log.proofs.opening.fresh_tasks.Given as goal

abbrev pub invariant-loop : goal.invariant-loop
invariant-loop l = record {
  count : length l.tasks.items ≡ l.counter;
  fresh : All IsFreshTask l.tasks.items;
}
