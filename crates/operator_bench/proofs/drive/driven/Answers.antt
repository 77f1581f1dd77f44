use Rattle.std.proofs.Common.{sym, subst}
use Rattle.ksql_nodes.specs.declared.node.Node.{Node}
use Rattle.operator.specs.Storable.{IsStorable}
use Rattle.operator_bench.proofs.drive.driven.Goals as goal

pub step-requires : goal.step-requires
step-requires g c =
    let change = c.in_ok-change.change in
    let side = c.of_entry-side.result.0 in
    subst (λ (node : Node). IsStorable node side change) (sym c.loop-number.invariant) (c.requires side change c.of_entry-side.ensures c.in_ok-change.ensures)
