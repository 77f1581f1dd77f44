use Rattle.std.proofs.Common.{◌≡◌, ◌<◌, ◌^◌, ◌++◌, All, filter, take, length}
use Rattle.std.specs.BTreeMap.{keys}
use Rattle.window_store.proofs.HeldStarts.{is_held}
use Rattle.window_store.proofs.store.WStore.starts.Given as goal

abbrev pub invariant-loop-start : goal.invariant-loop-start
invariant-loop-start l = record {
  at : take (length l.key) l.at.items ≡ l.key;
  fits : All (λ start. start < 2 ^ 64) l.held.items;
  held : l.held.items ++ filter (is_held l.self-inside.kept.map l.key) l.start-iterator ≡ filter (is_held l.self-inside.kept.map l.key) (keys l.self-inside.starts);
}
