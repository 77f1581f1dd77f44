use Rattle.std.proofs.Common.{◌≡◌, take}
use Rattle.std.specs.FinMap.{empty}
use Rattle.state_store.specs.Store.{replay, numbered}
use Rattle.state_store.specs.Slots.{values_in}
use Rattle.state_store.proofs.slots.replayed.Given as goal

abbrev pub invariant-loop-entry : goal.invariant-loop-entry
invariant-loop-entry l = values_in l.slots.entries ≡ replay empty (numbered l.number (take l.entry-index l.log))
