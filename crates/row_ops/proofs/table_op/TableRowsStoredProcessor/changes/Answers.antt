use Rattle.row_ops.proofs.Fresh.{changes-replayed, changes-own}
use Rattle.row_ops.proofs.table_op.TableRowsStoredProcessor.changes.Goals as goal

pub returns-clause-replayed : goal.returns-clause-replayed
returns-clause-replayed c = changes-replayed c.args.self.now.relation c.args.self.now.rows c.changes.result c.changes.ensures.given

pub returns-clause-own : goal.returns-clause-own
returns-clause-own c = changes-own c.args.self.now.relation c.args.self.now.rows c.changes.result c.changes.ensures.given
