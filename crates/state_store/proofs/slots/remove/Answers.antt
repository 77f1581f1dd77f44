use Rattle.std.proofs.Common.{None}
use Rattle.state_store.proofs.SlotLemmas.{values_in-update}
use Rattle.state_store.proofs.slots.remove.Goals as goal

pub returns : goal.returns
returns c =
    let updates = c.swap_remove.ensures.updates in
    values_in-update c.args.slots.now.entries c.swap_remove.new.self.entries c.args.key.now None updates.1 updates.3
