use Rattle.ksql_nodes.specs.Entries.{Entry}
use Rattle.row_ops.proofs.Fresh.{rekey-stands}
use Rattle.row_ops.proofs.Idle.{rekey-gives, idle-next}
use Rattle.row_ops.proofs.rekey_op.KeyingProcessor.process.Goals as goal

pub returns-clause-next : goal.returns-clause-next
returns-clause-next c =
    let e : Entry = record { side = c.args._side; change = c.args.change } in
    idle-next c.give.result _ _ _ _ e (λ es. rekey-gives c.args.self.now es e) (rekey-stands c.args.self.now) c.give.ensures.given
