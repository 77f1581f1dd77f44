use Rattle.std.proofs.Common.{refl, sym, subst}
use Rattle.ksql_nodes.specs.declared.node.Node.{Node}
use Rattle.ksql_nodes.specs.declared.node.Node.TheVariants.{JoinStreamTable}
use Rattle.operator.specs.Holding.{IsOwnLog}
use Rattle.operator.proofs.Numbered.{own-in_store}
use Rattle.join_ops.proofs.Fresh.{stream-replayed}
use Rattle.join_ops.proofs.stream_table_op.StreamTableStoredProcessor.changes.Goals as goal

pub returns-clause-replayed : goal.returns-clause-replayed
returns-clause-replayed c =
    let s = c.args.self.now in
    stream-replayed s.join.kind s.on s.join.left s.join.right s.rows c.with_number.result c.in_ok-changes.field-0 c.with_number.ensures c.in_ok-changes.ensures.given

pub returns-clause-own : goal.returns-clause-own
returns-clause-own c =
    let s = c.args.self.now in
    let node : Node = JoinStreamTable s.join.kind s.on s.join.left s.join.right in
    subst (IsOwnLog node) (sym c.with_number.ensures) (own-in_store node 1 c.in_ok-changes.field-0 refl)
