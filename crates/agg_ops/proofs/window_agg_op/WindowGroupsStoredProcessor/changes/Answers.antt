use Rattle.std.proofs.Common.{refl, sym, subst}
use Rattle.std.specs.Prelude.{Some}
use Rattle.ksql_types.specs.declared.relation.Kind.TheVariants.{Stream}
use Rattle.ksql_nodes.specs.declared.node.Node.{Node}
use Rattle.ksql_nodes.specs.declared.node.Node.TheVariants.{Aggregate}
use Rattle.operator.specs.Holding.{IsOwnLog}
use Rattle.operator.proofs.Numbered.{own-in_store}
use Rattle.agg_ops.proofs.WindowHeld.{windows-replayed, windows-loadable}
use Rattle.agg_ops.proofs.window_agg_op.WindowGroupsStoredProcessor.changes.Goals as goal

pub returns-clause-replayed : goal.returns-clause-replayed
returns-clause-replayed c =
    let old = c.self.inside in
    let log = c.in_ok-changes.ensures in
    rw (← c.self.view_is)
    (windows-replayed old.aggs old.window old.kept c.changes.new.self c.with_number.result c.in_ok-changes.field-0 c.with_number.ensures log.replayed log.time log.committed)

pub returns-clause-loadable : goal.returns-clause-loadable
returns-clause-loadable c = windows-loadable c.with_number.result c.in_ok-changes.field-0 c.with_number.ensures c.in_ok-changes.ensures.loadable

pub returns-clause-own : goal.returns-clause-own
returns-clause-own c =
    let node : Node = Aggregate Stream c.self.inside.aggs (Some c.self.inside.window) in
    subst (IsOwnLog node) (sym c.with_number.ensures) (own-in_store node 2 c.in_ok-changes.field-0 refl)
