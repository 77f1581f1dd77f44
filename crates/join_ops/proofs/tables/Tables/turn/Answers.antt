use Rattle.std.proofs.lemmas.Result.{IfOk-weaker}
use Rattle.join_ops.proofs.TwoTables.{turns-left, turns-right}
use Rattle.join_ops.proofs.tables.Tables.turn.Goals as goal

pub returns-in-0-clause-next : goal.returns-in-0-clause-next
returns-in-0-clause-next c =
    let s = c.args.self.now in
    IfOk-weaker c.turned.result _ _
    (λ latest next es h. turns-left s.left.map s.right.map c.turned.new.own.map es c.args.change.now latest.own latest.other h next c.args.side c.in-0.is)
    c.turned.ensures.next

pub returns-in-1-clause-next : goal.returns-in-1-clause-next
returns-in-1-clause-next c =
    let s = c.args.self.now in
    IfOk-weaker c.turned-in-1.result _ _
    (λ latest next es h. turns-right s.left.map s.right.map c.turned-in-1.new.own.map es c.args.change.now latest.own latest.other h next c.args.side c.in-1.is)
    c.turned-in-1.ensures.next
