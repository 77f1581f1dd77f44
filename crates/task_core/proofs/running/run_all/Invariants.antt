use Rattle.std.proofs.Common.{◌≡◌, List}
use Rattle.operator.specs.Holding.{Maps}
use Rattle.op_chain.specs.Chain.{AreBasesOf, maps_in}
use Rattle.task_core.specs.Readers.{IsOrdered, left_len, pending}
use Rattle.task_core.proofs.Underway.{IsUnderWay}
use Rattle.task_core.proofs.running.run_all.Given as goal

abbrev pub invariant-loop-reader : goal.invariant-loop-reader
invariant-loop-reader l = record {
  nodes : l.chain.nodes ≡ l.fn.chain.nodes;
  order : IsOrdered l.reader;
  under : IsUnderWay l.fn.chain.nodes (maps_in l.fn.chain) (maps_in l.chain) l.fn.out.items l.out.items (pending l.fn.reader) (pending l.reader);
  bases : (bases : List Maps) → AreBasesOf bases l.fn.chain → AreBasesOf bases l.chain;
  sound : l.chain.failed ≡ l.fn.chain.failed;
}

abbrev pub decreases-loop-reader : goal.decreases-loop-reader
decreases-loop-reader l = left_len l.reader
