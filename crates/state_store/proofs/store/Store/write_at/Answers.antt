use Rattle.std.proofs.Common.{◌≡◌, ◌++◌, ◌∷◌, [], List, ℕ, map, ap, ◌∙◌}
use Rattle.state_store.specs.Store.{with_value}
use Rattle.state_store.specs.Slots.{values_in, key_at}
use Rattle.state_store.proofs.ReplayLemmas.{IsBase-write}
use Rattle.state_store.proofs.SlotLemmas.{map-key_at-push}
use Rattle.state_store.proofs.store.Store.write_at.Goals as goal

pub returns-clause-written : goal.returns-clause-written
returns-clause-written c =
    let old = c.self.inside.slots.entries in
    let new = c.put.new.slots.entries in
    let writes = c.self.inside.writes.items in
    ap (map (key_at new)) (c.in_ok-push.ensures.items ∙ ap (λ (is : List ℕ). is ++ c.in_ok-index.index ∷ []) c.reserve.ensures.items)
    ∙ map-key_at-push old new c.args.key.now writes c.in_ok-index.index c.in_ok-index.ensures.keys c.in_ok-index.ensures.index c.self.invariant
    ∙ ap (λ s. s.written ++ c.args.key.now ∷ []) c.self.view_is

pub returns-clause-base : goal.returns-clause-base
returns-clause-base c base is =
    let map_is : values_in c.put.new.slots.entries ≡ with_value c.args.self.now.map c.args.key.now c.args.value =
    c.in_ok-index.ensures.values ∙ ap (λ s. with_value s.map c.args.key.now c.args.value) c.self.view_is in
    IsBase-write base c.args.self.now _ c.args.key.now c.args.value map_is (returns-clause-written c) is
