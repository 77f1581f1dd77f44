use Rattle.std.proofs.Common.{◌≡◌, take}
use Rattle.state_store.specs.Store.{numbered}
use Rattle.operator.specs.Holding.{time_after}
use Rattle.window_store.specs.Windows.{of_time}
use Rattle.window_store.proofs.loading.loaded_time.Given as goal

abbrev pub invariant-loop-entry : goal.invariant-loop-entry
invariant-loop-entry l = l.time ≡ time_after 0 (of_time (numbered l.number (take l.entry-index l.log)))
