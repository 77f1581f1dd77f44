use Rattle.std.proofs.Common.{take}
use Rattle.std.specs.FinMap.{empty}
use Rattle.state_store.specs.Store.{replay}
use Rattle.window_store.specs.Starts.{IsByStart}
use Rattle.window_store.proofs.Noting.{AreNoted}
use Rattle.window_store.proofs.starts.index_of.Given as goal

abbrev pub invariant-loop-change : goal.invariant-loop-change
invariant-loop-change l = record {
  by_start : IsByStart l.starts;
  held : AreNoted l.starts (replay empty (take l.change-index l.changes));
}
