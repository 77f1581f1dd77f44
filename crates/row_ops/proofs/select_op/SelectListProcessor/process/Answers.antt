use Rattle.std.proofs.Common.{◌∙◌, ap₂, sym, List}
use Rattle.ksql_expr.specs.declared.typed.Typed.{Typed}
use Rattle.ksql_nodes.specs.Entries.{Entry}
use Rattle.ksql_nodes.specs.Rows.{selected}
use Rattle.row_ops.proofs.Fresh.{select-stands}
use Rattle.row_ops.proofs.Idle.{select-gives, idle-next}
use Rattle.row_ops.proofs.select_op.SelectListProcessor.process.Goals as goal

pub returns-clause-next : goal.returns-clause-next
returns-clause-next c =
    let e : Entry = record { side = c.args._side; change = c.args.change } in
    let s = c.args.self.now in
    idle-next c.push_selected.result _ _ _ _ e
    (λ es. select-gives s.keys s.items es e ∙ sym (ap₂ (λ (keys items : List Typed). selected keys items c.args.change) c.items-keys.ensures c.items-items.ensures))
    (select-stands s.keys s.items) c.push_selected.ensures.given
