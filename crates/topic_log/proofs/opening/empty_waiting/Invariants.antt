use Rattle.std.proofs.Common.{◌≡◌, [], length}
use Rattle.std.specs.Prelude.{All}
use Rattle.topic_log.proofs.opening.empty_waiting.Given as goal

abbrev pub invariant-loop : goal.invariant-loop
invariant-loop l = record {
  count : length l.waiting.items ≡ l.counter;
  empty : All (λ w. w.items ≡ []) l.waiting.items;
}
