use Rattle.std.proofs.Common.{◌≡◌, ◌≤◌, ◌++◌, drop}
use Rattle.ksql_clauses.specs.Items.{named_from}
use Rattle.ksql_clauses.proofs.items.result_columns.Given as goal

abbrev pub invariant-loop-item : goal.invariant-loop-item
invariant-loop-item l = record {
  counted : l.number ≤ l.item-index;
  found : l.found.items ++ named_from l.scope l.known l.number (drop l.item-index l.item-items) ≡ named_from l.scope l.known 0 l.item-items;
}
