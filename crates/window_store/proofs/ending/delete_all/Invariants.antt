use Rattle.std.proofs.Common.{All, List, ℕ, take}
use Rattle.state_store.specs.Store.{Values, IsBase}
use Rattle.window_store.specs.Windows.{IsWindowKey}
use Rattle.window_store.proofs.Removals.{IsGone, IsLeft}
use Rattle.window_store.proofs.ending.delete_all.Given as goal

abbrev pub invariant-loop-key : goal.invariant-loop-key
invariant-loop-key l = record {
  gone : All (IsGone l.kept.map) (take l.key-index l.keys);
  others : (b : List ℕ) → IsLeft l.keys l.initial.kept.map l.kept.map b;
  written : All IsWindowKey l.kept.written;
  base : (base : Values) → IsBase base l.initial.kept → IsBase base l.kept;
}
