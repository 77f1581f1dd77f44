use Rattle.std.proofs.Common.{◌≡◌, ℕ, List, Option, None, Some, IfSome, position, slice_get, ap, sym, ◌∙◌}
use Rattle.std.specs.Cmp.Lexicographic.{bytes_decides}
use Rattle.std.specs.Map.{keys_of}
use Rattle.state_store.specs.Slots.{Slot, keys_in}
use Rattle.state_store.proofs.SlotLemmas.{is_key, HasKey, HasKey-position, slice_get-keys_in, list_any-at, list_any-keys_in}
use Rattle.state_store.proofs.slots.index_of.Goals as goal

pub returns-clause-key : goal.returns-clause-key
returns-clause-key c =
    let slots = c.args.slots.now.entries in
    let slot : Slot = (c.in-Some-get_index.there.now, c.in-Some-get_index.field-0-1.now) in
    let here : slice_get slots c.in-Some.index ≡ Some slot =
    ap (λ es. slice_get es c.in-Some.index) (sym c.as_slice-entries.ensures.entries) ∙ sym c.in-Some-get_index.ensures.entry in
    let same : slot.0.items ≡ c.args.key.now = sym c.as_slice.ensures.value ∙ (bytes_decides c.as_slice.result.now c.args.key.now).0 (sym c.if-eq.ensures) in
    let at : HasKey slots c.in-Some.index c.args.key.now = record { slot = slot; here = here; same = same } in
    slice_get-keys_in slots c.in-Some.index c.args.key.now at

pub returns-clause-found : goal.returns-clause-found
returns-clause-found c = sym (list_any-at (keys_in c.args.slots.now.entries) c.in-Some.index c.args.key.now (returns-clause-key c))

looked_up : (slots : List Slot) (key : List ℕ) (found : Option ℕ) → found ≡ position (is_key key) (keys_of slots) → IfSome found (λ index. slice_get (keys_in slots) index ≡ Some key)
looked_up slots key None e = tt
looked_up slots key (Some index) e = slice_get-keys_in slots index key (HasKey-position slots index key (sym e))

pub returns-2-clause-key : goal.returns-2-clause-key
returns-2-clause-key c = looked_up c.args.slots.now.entries c.args.key.now c.get_index_of.result c.get_index_of.ensures.index

pub returns-2-clause-found : goal.returns-2-clause-found
returns-2-clause-found c = c.get_index_of.ensures.found ∙ sym (list_any-keys_in c.args.slots.now.entries c.args.key.now)
