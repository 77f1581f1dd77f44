use Rattle.std.proofs.Common.{◌∙◌, ap, ap₂}
use Rattle.std.specs.FinMap.{get}
use Rattle.ksql_nodes.specs.Entries.{Entry, of_key}
use Rattle.state_store.specs.Store.{with_value}
use Rattle.row_ops.proofs.InputTable.{rows-read, rows-spelled, rows-more}
use Rattle.row_ops.proofs.input_table.turn_at.Goals as goal

pub returns-clause-next : goal.returns-clause-next
returns-clause-next c = λ side es h.
    let store = c.args.store.now in
    let change = c.args.change.now in
    let e : Entry = record { side = side; change = change } in (
      c.in_ok-before.ensures (of_key change.key es) (rows-spelled store.map es change.key h)
          (c.find-found.ensures.value ∙ ap (get store.map) c.requires.bytes ∙ rows-read store.map es change.key h c.requires.key),
      rows-more store.map c.write_at.new.self.map es e h (c.requires.key, c.in_ok-bytes.ensures.spellable)
          (c.in_ok-write_at.ensures.map ∙ ap₂ (with_value store.map) c.requires.bytes c.in_ok-bytes.ensures.bytes),
    )
