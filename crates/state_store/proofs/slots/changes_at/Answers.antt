use Rattle.std.proofs.Common.{◌≡◌, ◌<◌, ℕ, List, map, length, slice_get, get_or, Some, nat_eq, ap, ap₂, subst, sym, ◌∙◌, ◌++◌, ◌∷◌, [], All}
use Rattle.std.proofs.lemmas.List.{map_more, take_all}
use Rattle.std.specs.Map.Iter.{deref_pair}
use Rattle.std.specs.Option.{option_map}
use Rattle.ksql_types.specs.declared.relation.StoreEntry.{StoreEntry}
use Rattle.state_store.specs.Store.{last_of_each, change_of}
use Rattle.state_store.specs.Slots.{values_in, key_at}
use Rattle.state_store.proofs.LastOfEach.{All-last_of_each}
use Rattle.state_store.proofs.SlotLemmas.{change_of-slot, changes_of-content_of}
use Rattle.state_store.proofs.slots.changes_at.Goals as goal

-- the indexes of the loop are those of slots
within : (c : goal.After-get_index) → get_or c.as_slice-index-items.result.now c.loop-index.index-index 0 < length c.args.slots.now.entries
within c =
    let P : ℕ → Type 0 = λ index. index < length c.args.slots.now.entries in
    let items = c.as_slice-index-items.result.now in
    let last = last_of_each nat_eq c.args.writes.now in
    let same : items ≡ last = c.as_slice-index-items.ensures.keys ∙ c.in_ok-last.ensures in
    let all : All P items = subst (All P) (sym same) (All-last_of_each nat_eq P c.args.writes.now c.requires) in
    all c.loop-index.index-index 0 c.loop-index-test.true

pub unwrap-requires : goal.unwrap-requires
unwrap-requires c =
    let P : ℕ → Type 0 = λ n. get_or c.as_slice-index-items.result.now c.loop-index.index-index 0 < n in
    c.get_index.ensures.found.1 (subst P (ap length (sym c.as_slice-entries.ensures.entries)) (within c))

-- the entry that is made is the change of the slot
change_is : (c : goal.In_ok-push) → c.in_ok-change.field-0 ≡ change_of (values_in c.args.slots.now.entries) (key_at c.args.slots.now.entries (get_or c.as_slice-index-items.result.now c.loop-index.index-index 0))
change_is c =
    let slots = c.args.slots.now.entries in
    let index = get_or c.as_slice-index-items.result.now c.loop-index.index-index 0 in
    let slot = deref_pair c.unwrap.result in
    let here : slice_get slots index ≡ Some slot =
    ap (λ es. slice_get es index) (sym c.as_slice-entries.ensures.entries) ∙ sym c.get_index.ensures.entry ∙ ap (option_map deref_pair) c.unwrap.ensures in
    c.in_ok-change.ensures
    ∙ (λ i. record { store = 0; key = c.as_slice.ensures.value i; value = slot.1 })
    ∙ sym (change_of-slot slots index slot c.as_slice-entries.ensures.unique here)

pub loop-index-preserved : goal.loop-index-preserved
loop-index-preserved c =
    let slots = c.args.slots.now.entries in
    let items = c.as_slice-index-items.result.now in
    c.in_ok-push.ensures.items
    ∙ ap₂ (λ (changes : List StoreEntry) change. changes ++ change ∷ []) c.loop-index.invariant (change_is c)
    ∙ sym (map_more (λ i. change_of (values_in slots) (key_at slots i)) items c.loop-index.index-index 0 c.loop-index-test.true)

pub returns : goal.returns
returns c =
    let slots = c.args.slots.now.entries in
    let writes = c.args.writes.now in
    let items = c.as_slice-index-items.result.now in
    let F : ℕ → StoreEntry = λ i. change_of (values_in slots) (key_at slots i) in
    c.loop-index.invariant
    ∙ ap (map F) (take_all c.loop-index.index-index items c.loop-index-test.false ∙ c.as_slice-index-items.ensures.keys ∙ c.in_ok-last.ensures)
    ∙ changes_of-content_of slots c.as_slice-entries.ensures.unique writes c.requires
