use Rattle.ksql_nodes.specs.Entries.{Entry}
use Rattle.row_ops.proofs.Fresh.{filter-stands}
use Rattle.row_ops.proofs.Idle.{filter-gives, idle-next}
use Rattle.row_ops.proofs.filter_op.FilterProcessor.process.Goals as goal

pub returns-clause-next : goal.returns-clause-next
returns-clause-next c =
    let e : Entry = record { side = c.args._side; change = c.args.change } in
    idle-next c.give.result _ _ _ _ e (λ es. filter-gives c.args.self.now.having c.args.self.now.on es e) (filter-stands c.args.self.now.having c.args.self.now.on) c.give.ensures.given
