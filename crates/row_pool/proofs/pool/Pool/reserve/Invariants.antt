use Rattle.std.proofs.Common.{◌≡◌, ◌+◌}
use Rattle.row_pool.proofs.pool.Pool.reserve.Given as goal

-- each step makes one more free block, and keeps the texts
abbrev pub invariant-loop : goal.invariant-loop
invariant-loop l = record {
  spare : l.self.spare ≡ l.fn.self.spare + l.counter;
  texts : l.self.texts ≡ l.fn.self.texts;
}
