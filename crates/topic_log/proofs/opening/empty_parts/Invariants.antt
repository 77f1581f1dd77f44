use Rattle.std.proofs.Common.{◌≡◌, length}
use Rattle.std.specs.Prelude.{All}
use Rattle.topic_log.specs.Opening.{IsEmptyPart}
use Rattle.topic_log.proofs.opening.empty_parts.Given as goal

abbrev pub invariant-loop : goal.invariant-loop
invariant-loop l = record {
  count : length l.parts.items ≡ l.counter;
  empty : All (IsEmptyPart l.writers) l.parts.items;
}
