use Rattle.std.proofs.Common.{◌≡◌, ◌<◌, ℕ, List, btree_map_len}
use Rattle.std.specs.FinMap as finite
use Rattle.state_store.specs.Store.{Values, IsBase}
use Rattle.window_store.specs.Windows.{start_of}
use Rattle.window_store.specs.Starts.{IsIndex}
use Rattle.window_store.proofs.ending.end_until.Given as goal

abbrev pub invariant-loop-start : goal.invariant-loop-start
invariant-loop-start l = record {
  index : IsIndex l.starts l.kept;
  others : (b : List ℕ) → l.last < start_of b → finite.get l.kept.map b ≡ finite.get l.initial.kept.map b;
  base : (base : Values) → IsBase base l.initial.kept → IsBase base l.kept;
}

abbrev pub decreases-loop-start : goal.decreases-loop-start
decreases-loop-start l = btree_map_len l.starts
