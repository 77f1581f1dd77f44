use Rattle.std.proofs.Common.{refl, sym, subst}
use Rattle.std.proofs.lemmas.Result.{IfOk-weaker}
use Rattle.ksql_nodes.specs.declared.node.Node.{Node}
use Rattle.ksql_nodes.specs.declared.node.Node.TheVariants.{JoinTables}
use Rattle.state_store.specs.Store.{changes_of}
use Rattle.operator.specs.Holding.{IsOwnLog}
use Rattle.operator.proofs.Numbered.{own-both}
use Rattle.join_ops.proofs.Fresh.{tables-replayed}
use Rattle.join_ops.proofs.table_table_op.TableTableStoredProcessor.changes.Goals as goal

pub returns-clause-replayed : goal.returns-clause-replayed
returns-clause-replayed c =
    let s = c.args.self.now in
    IfOk-weaker c.changes.result _ _ (λ log given base h. tables-replayed s.join.kind s.join.left s.join.right s.tables.left s.tables.right log given base h) c.changes.ensures.given

pub returns-clause-own : goal.returns-clause-own
returns-clause-own c =
    let s = c.args.self.now in
    let node : Node = JoinTables s.join.kind s.join.left s.join.right in
    IfOk-weaker c.changes.result _ _
    (λ log given. subst (IsOwnLog node) (sym given) (own-both node s.tables.left (changes_of s.tables.right) refl refl))
    c.changes.ensures.given
