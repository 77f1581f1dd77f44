use Rattle.std.proofs.Common.{◌≡◌, ◌++◌, ◌∷◌, [], false, Option, None, Some, refl, ap, ap₂, sym, ◌∙◌, is_some, if◌then◌else◌, slice_get, true≢false}
use Rattle.std.specs.Map.{lookup}
use Rattle.indexmap.proofs.CallerLemmas.{updates-with_value_at}
use Rattle.state_store.specs.Store.{with_value}
use Rattle.state_store.specs.Slots.{keys_in, values_in}
use Rattle.state_store.proofs.SlotLemmas.{is_key, same_key, same_key_equiv, values_in-update, list_any-keys_in, HasKey, HasKey-keys_in, keys_in-set_value_at, keys_in-insert_entry, insert_index-new, slice_get-last}
use Rattle.state_store.proofs.slots.put.Goals as goal

at_index : (c : goal.Joined-index_mut-value) → HasKey c.args.slots.now.entries c.in-Some.index c.args.key.now
at_index c =
    HasKey-keys_in c.args.slots.now.entries c.in-Some.index c.args.key.now c.in-Some.ensures.key

pub returns-in-Some-clause-values : goal.returns-in-Some-clause-values
returns-in-Some-clause-values c =
    let slots = c.args.slots.now in
    let at = at_index c in
    let updates = updates-with_value_at slots c.in-Some.index c.args.value same_key_equiv c.in-Some.ensures.unique at.slot.0 at.slot.1 at.here in
    values_in-update slots.entries _ at.slot.0.items (Some c.args.value) updates.1 updates.3
    ∙ ap (λ key. with_value (values_in slots.entries) key c.args.value) at.same

pub returns-in-Some-clause-keys : goal.returns-in-Some-clause-keys
returns-in-Some-clause-keys c =
    let slots = c.args.slots.now in
    let keys = keys_in slots.entries in
    keys_in-set_value_at slots c.in-Some.index c.args.value
    ∙ ap (λ b. if b then keys else keys ++ c.args.key.now ∷ []) c.in-Some.ensures.found

pub returns-in-Some-clause-index : goal.returns-in-Some-clause-index
returns-in-Some-clause-index c =
    ap (λ keys. slice_get keys c.in-Some.index) (keys_in-set_value_at c.args.slots.now c.in-Some.index c.args.value)
    ∙ c.in-Some.ensures.key

pub returns-in_ok-index-in-None-clause-values : goal.returns-in_ok-index-in-None-clause-values
returns-in_ok-index-in-None-clause-values c =
    let slots = c.args.slots.now.entries in
    let key = c.in_ok-copied-in-None.field-0 in
    let updates = c.in_ok-index-in-None.ensures.updates in
    values_in-update slots _ key.items (Some c.args.value) updates.1 updates.3
    ∙ ap (λ k. with_value (values_in slots) k c.args.value) c.in_ok-copied-in-None.ensures

none_from : {X : Type 0} (o : Option X) → false ≡ is_some o → o ≡ None
none_from None e = refl
none_from (Some x) e = absurd (true≢false (sym e))

absent : (c : goal.Joined-branch-3) → lookup (same_key c.in_ok-copied-in-None.field-0) c.args.slots.now.entries ≡ None
absent c =
    ap (λ key. lookup (is_key key) c.args.slots.now.entries) c.in_ok-copied-in-None.ensures
    ∙ none_from _ (c.in-None.ensures.found ∙ list_any-keys_in c.args.slots.now.entries c.args.key.now)

keys_after : (c : goal.Joined-branch-3) → keys_in c.insert_full.new.self.entries ≡ keys_in c.args.slots.now.entries ++ c.args.key.now ∷ []
keys_after c =
    ap keys_in c.in_ok-index-in-None.ensures.entries
    ∙ keys_in-insert_entry c.args.slots.now c.in_ok-copied-in-None.field-0 c.args.value (absent c)
    ∙ ap (λ key. keys_in c.args.slots.now.entries ++ key ∷ []) c.in_ok-copied-in-None.ensures

pub returns-in_ok-index-in-None-clause-keys : goal.returns-in_ok-index-in-None-clause-keys
returns-in_ok-index-in-None-clause-keys c =
    let keys = keys_in c.args.slots.now.entries in
    keys_after c ∙ ap (λ b. if b then keys else keys ++ c.args.key.now ∷ []) c.in-None.ensures.found

pub returns-in_ok-index-in-None-clause-index : goal.returns-in_ok-index-in-None-clause-index
returns-in_ok-index-in-None-clause-index c =
    let keys = keys_in c.args.slots.now.entries in
    let index = c.in_ok-index-in-None.ensures.index ∙ insert_index-new c.args.slots.now.entries c.in_ok-copied-in-None.field-0 (absent c) in
    ap₂ slice_get (keys_after c) index ∙ slice_get-last keys c.args.key.now
