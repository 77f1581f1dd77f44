use Rattle.std.proofs.Common.{◌≡◌, ◌++◌, ◌<◌, ◌≤◌, length}
use Rattle.op_chain.specs.Chain.{entries_of}
use Rattle.task_core.specs.Readers.{IsOrdered, left_len, pending}
use Rattle.task_core.proofs.reader.Reader.next.Given as goal

abbrev pub invariant-loop-self : goal.invariant-loop-self
invariant-loop-self l = record {
  order : IsOrdered l.self;
  taken : entries_of l.taken.items ++ pending l.self ≡ pending l.fn.self;
  left : left_len l.self ≤ left_len l.fn.self;
  less : 0 < length l.taken.items → left_len l.self < left_len l.fn.self;
}

abbrev pub decreases-loop-self : goal.decreases-loop-self
decreases-loop-self l = left_len l.self
