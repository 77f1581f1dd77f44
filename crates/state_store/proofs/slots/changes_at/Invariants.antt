use Rattle.std.proofs.Common.{◌≡◌, map, take}
use Rattle.state_store.specs.Store.{change_of}
use Rattle.state_store.specs.Slots.{values_in, key_at}
use Rattle.state_store.proofs.slots.changes_at.Given as goal

abbrev pub invariant-loop-index : goal.invariant-loop-index
invariant-loop-index l = l.changes.items ≡ map (λ index. change_of (values_in l.slots.entries) (key_at l.slots.entries index)) (take l.index-index l.index-items)
