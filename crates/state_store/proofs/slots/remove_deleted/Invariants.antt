use Rattle.std.proofs.Common.{◌≡◌}
use Rattle.state_store.specs.Slots.{values_in}
use Rattle.state_store.proofs.slots.remove_deleted.Given as goal

abbrev pub invariant-loop-change : goal.invariant-loop-change
invariant-loop-change l = values_in l.slots.entries ≡ values_in l.fn.slots.entries
