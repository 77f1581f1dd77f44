use Rattle.std.proofs.Common.{◌≡◌, ℕ, List, ◌++◌, take}
use Rattle.std.specs.Prelude.{max}
use Rattle.ksql_place.specs.declared.change.Change.{Change}
use Rattle.ksql_nodes.specs.Entries.{Entry, latest_time}
use Rattle.state_store.specs.Store.{Values, IsBase}
use Rattle.agg_ops.specs.WindowGroups.{HoldsWindows}
use Rattle.agg_ops.proofs.WindowSteps.{IsAddedTo}
use Rattle.agg_ops.proofs.window_agg_op.give.Given as goal

-- the change was added to its first windows
abbrev pub invariant-loop-index : goal.invariant-loop-index
invariant-loop-index l = record {
  size : l.windows.size ≡ l.fn.windows.size;
  time : l.windows.time ≡ max l.fn.windows.time l.fn.change.time;
  base : (base : Values) → IsBase base l.fn.windows.content → IsBase base l.windows.content;
  out : (some : List Change) × (l.out.items ≡ l.fn.out.items ++ some);
  next : (side : ℕ) (es : List Entry) → l.fn.windows.time ≡ latest_time es → HoldsWindows l.fn.aggs l.fn.window l.fn.windows.content.map l.fn.windows.time es →
      IsAddedTo l.fn.aggs l.fn.window l.windows.content.map l.windows.time es (record { side = side; change = l.fn.change }) (take l.index l.span-items) l.fn.out.items l.out.items;
}
