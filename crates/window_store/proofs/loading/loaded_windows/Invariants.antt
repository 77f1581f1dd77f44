use Rattle.std.proofs.Common.{◌≡◌, All, take}
use Rattle.std.specs.FinMap.{empty}
use Rattle.state_store.specs.Store.{replay, numbered, IsBase}
use Rattle.window_store.specs.Windows.{IsWindowKey, of_windows}
use Rattle.window_store.proofs.loading.loaded_windows.Given as goal

abbrev pub invariant-loop-entry : goal.invariant-loop-entry
invariant-loop-entry l = record {
  map : l.kept.map ≡ replay empty (of_windows (numbered l.number (take l.entry-index l.log)));
  base : IsBase empty l.kept;
  written : All IsWindowKey l.kept.written;
}
