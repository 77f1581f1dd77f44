use Rattle.std.proofs.Common.{◌≡◌, ℕ, List, Option, None, Some, is_some, false, true≢false, refl, ap, ap₂, sym, subst, ◌∙◌}
use Rattle.std.specs.FinMap as finite
use Rattle.ksql_types.specs.declared.relation.StoreEntry.{StoreEntry}
use Rattle.state_store.specs.Store.{with_value}
use Rattle.state_store.specs.Slots.{values_in}
use Rattle.state_store.proofs.ReplayLemmas.{with_value-same}
use Rattle.state_store.proofs.slots.remove_deleted.Goals as goal
use Rattle.state_store.proofs.slots.remove_deleted.Goals.{then-is_none, else-is_none}

none_from : (o : Option (List ℕ)) → is_some o ≡ false → o ≡ None
none_from None e = refl
none_from (Some x) e = absurd (true≢false e)

held_at : (c : goal.Joined-is_none) → finite.get (values_in c.args.slots.now.entries) c.change-item.result.key ≡ c.change-item.result.value
held_at c =
    let P : StoreEntry → Type 0 = λ change. finite.get (values_in c.args.slots.now.entries) change.key ≡ change.value in
    subst P (sym c.change-item.is) (c.requires c.loop-change.change-index c.change-item.result c.loop-change-test.true)

pub loop-change-preserved : goal.loop-change-preserved
loop-change-preserved c =
    elim c.if-is_none.branch [
      | then-is_none w ↦
          let values = values_in c.args.slots.now.entries in
          let change = c.change-item.result in
          let held : finite.get values change.key ≡ change.value = held_at c in
          let none : change.value ≡ None = none_from change.value w.if-is_none.ensures in
          ap (λ slots. values_in slots.entries) w.slots-is
          ∙ w.remove.ensures
          ∙ ap₂ (λ m key. with_value m key None) c.loop-change.invariant w.items.ensures
          ∙ ap (with_value values change.key) (sym (held ∙ none))
          ∙ with_value-same values change.key
      | else-is_none w ↦ ap (λ slots. values_in slots.entries) w.slots-is ∙ c.loop-change.invariant
    ]
