use Rattle.std.proofs.Common.{◌≡◌, ◌*◌, ◌^◌, take}
use Rattle.std.specs.Prelude.{pos, neg_ℤ, ◌≤ℤ◌}
use Rattle.ksql_nodes.specs.Aggregates.{present, total}
use Rattle.reference.proofs.aggregates.total.Given as goal

abbrev pub invariant-loop-value : goal.invariant-loop-value
invariant-loop-value l = record {
  value : l.total ≡ total (present (take l.value-index l.values));
  low : neg_ℤ (pos (2 ^ 63 * l.value-index)) ≤ℤ l.total;
  high : l.total ≤ℤ pos (2 ^ 63 * l.value-index);
}
