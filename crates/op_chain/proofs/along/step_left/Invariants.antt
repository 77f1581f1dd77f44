use Rattle.std.proofs.Common.{◌≡◌, List, ◌++◌}
use Rattle.std.specs.List.{AllByRecursion}
use Rattle.std.specs.Vec.Iter.{into_iter_items}
use Rattle.ksql_nodes.specs.Entries.{Entry, from_side}
use Rattle.operator.specs.Holding.{IsBaseOf, Maps}
use Rattle.operator.specs.Storable.{IsStorable}
use Rattle.op_chain.specs.Along.{Steps}
use Rattle.op_chain.proofs.Ops.{held_of, node_of}
use Rattle.op_chain.proofs.along.step_left.Given as goal

-- the steps of the changes taken, and the remaining ones
abbrev pub invariant-loop-change : goal.invariant-loop-change
invariant-loop-change l = record {
  node : node_of l.op ≡ node_of l.fn.op;
  next : (taken : List Entry) × (taken ++ from_side 0 (into_iter_items l.change-iterator) ≡ from_side 0 l.fn.changes.items)
      × Steps (node_of l.fn.op) (held_of l.fn.op) (held_of l.op) taken l.fn.out.items l.out.items;
  left : AllByRecursion (λ (e : Entry). IsStorable (node_of l.fn.op) e.side e.change) (from_side 0 (into_iter_items l.change-iterator));
  base : (base : Maps) → IsBaseOf base (held_of l.fn.op) → IsBaseOf base (held_of l.op);
}
