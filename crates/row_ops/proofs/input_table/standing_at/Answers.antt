use Rattle.std.proofs.Common.{◌≡◌, ◌∙◌, ap, ℕ, List, Ok, Err, Result}
use Rattle.std.specs.Prelude.{Option, IfOk}
use Rattle.std.specs.FinMap.{get}
use Rattle.ksql_types.specs.declared.value.Value.{Value}
use Rattle.ksql_nodes.specs.Entries.{Entry, Row, of_key}
use Rattle.record_codec.specs.Spelling.{values, IsSpellableRow}
use Rattle.state_store.specs.Store.{Values}
use Rattle.row_ops.specs.InputTable.{HoldsRows, latest_row}
use Rattle.row_ops.proofs.InputTable.{rows-read, rows-spelled}
use Rattle.row_ops.proofs.input_table.standing_at.Goals as goal

-- what holds of a result for all keys and entries holds of its Ok for all of them
of-all : {E : Type 0} (m : Values) (bytes : List ℕ) (r : Result (Option (ℕ × Row)) E) →
    ((key : List Value) (es : List Entry) → bytes ≡ values key → IsSpellableRow key → HoldsRows m es → IfOk r (λ found. found ≡ latest_row (of_key key es))) →
    IfOk r (λ found. (key : List Value) (es : List Entry) → bytes ≡ values key → IsSpellableRow key → HoldsRows m es → found ≡ latest_row (of_key key es))
of-all m bytes (Ok found) h = h
of-all m bytes (Err e) h = tt

pub returns : goal.returns
returns c =
    let m = c.args.store.now.map in
    of-all m c.args.bytes.now c.kept_in.result
    (λ key es is spellable h. c.kept_in.ensures (of_key key es) (rows-spelled m es key h)
    (c.get.ensures ∙ ap (get m) is ∙ rows-read m es key h spellable))
