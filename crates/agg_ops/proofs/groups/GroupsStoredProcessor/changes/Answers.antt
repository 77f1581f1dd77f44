use Rattle.std.proofs.Common.{refl, sym, subst, None}
use Rattle.ksql_nodes.specs.declared.node.Node.{Node}
use Rattle.ksql_nodes.specs.declared.node.Node.TheVariants.{Aggregate}
use Rattle.operator.specs.Holding.{IsOwnLog}
use Rattle.operator.proofs.Numbered.{own-in_store}
use Rattle.agg_ops.proofs.Fresh.{groups-replayed}
use Rattle.agg_ops.proofs.groups.GroupsStoredProcessor.changes.Goals as goal

pub returns-clause-replayed : goal.returns-clause-replayed
returns-clause-replayed c = groups-replayed c.args.self.now.over c.args.self.now.aggs c.args.self.now.kept c.with_number.result c.in_ok-changes.field-0 c.with_number.ensures c.in_ok-changes.ensures.given

pub returns-clause-own : goal.returns-clause-own
returns-clause-own c =
    let node : Node = Aggregate c.args.self.now.over c.args.self.now.aggs None in
    subst (IsOwnLog node) (sym c.with_number.ensures) (own-in_store node 2 c.in_ok-changes.field-0 refl)
