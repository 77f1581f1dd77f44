use Rattle.std.proofs.Common.{None, Some, ap, ◌∙◌}
use Rattle.std.specs.Option.{option_map}
use Rattle.state_store.proofs.SlotLemmas.{get-content_of}
use Rattle.state_store.proofs.store.Store.held.Goals as goal

pub returns-in_err-slot : goal.returns-in_err-slot
returns-in_err-slot c =
    ap (option_map (λ held. held.1.now)) c.from_residual.ensures
    ∙ get-content_of c.self.inside.slots.entries c.self.inside.writes.items c.args.self.now c.args.key.now None c.self.view_is c.in_err-slot.ensures.value

pub returns-in_err-value : goal.returns-in_err-value
returns-in_err-value c =
    let found = ap Some c.in_err-value.ensures.value ∙ c.in_ok-slot.ensures.value in
    ap (option_map (λ held. held.1.now)) c.from_residual-in_err-value.ensures
    ∙ get-content_of c.self.inside.slots.entries c.self.inside.writes.items c.args.self.now c.args.key.now (Some None) c.self.view_is found

pub returns : goal.returns
returns c =
    let value = c.in_ok-value.value.now in
    let found = ap Some c.in_ok-value.ensures.value ∙ c.in_ok-slot.ensures.value in
    ap Some c.items.ensures
    ∙ get-content_of c.self.inside.slots.entries c.self.inside.writes.items c.args.self.now c.args.key.now (Some (Some value)) c.self.view_is found
