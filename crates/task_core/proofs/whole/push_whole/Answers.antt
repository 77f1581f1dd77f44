use Rattle.std.proofs.Common.{◌≡◌, ◌∙◌, ap, refl, subst, ℕ, zero, suc, List, [], ◌∷◌, ◌++◌}
use Rattle.ksql_place.specs.declared.change.Change.{Change}
use Rattle.ksql_nodes.specs.Entries.{from_side}
use Rattle.op_chain.specs.Chain.{entries_of}
use Rattle.op_chain.specs.declared.chain.Entry.{Entry}
use Rattle.topology.specs.Contents.{with_cells}
use Rattle.task_core.proofs.whole.push_whole.Goals as goal

-- of a change only what it says gets key columns
body-alone : (columns : ℕ) (c : Change) → record c { body = (with_cells columns c).body } ≡ with_cells columns c
body-alone zero c = refl
body-alone (suc columns) c = refl

pub returns : goal.returns
returns c =
    let change : Change = c.args.change.now in
    let columns : ℕ = c.args.columns in
    let place = c.in_ok-copy.ensures in
    let key = c.in_ok-copy-2.ensures in
    let body = c.in_ok-body.ensures in
    let pushed : Change = record { place = c.in_ok-copy.field-0; time = change.time; key = c.in_ok-copy-2.field-0; span = change.span; body = c.in_ok-body.body } in
    let same : pushed ≡ record change { body = (with_cells columns change).body } = λ i. record { place = place i; time = change.time; key = key i; span = change.span; body = body i } in
    let put = c.put_entry.ensures ∙ ap (λ (es : List Entry). entries_of es ++ from_side c.args.side (pushed ∷ [])) c.in_ok-reserve.ensures.items in
    subst (λ (x : Change). entries_of c.put_entry.new.taken.items ≡ entries_of c.args.taken.now.items ++ from_side c.args.side (x ∷ []))
    (same ∙ body-alone columns change) put
