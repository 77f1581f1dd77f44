use Rattle.std.proofs.Common.{◌≡◌, ◌++◌, map, take}
use Rattle.ksql_analyse.proofs.grouped.push_keys.Given as goal

abbrev pub invariant-loop-key : goal.invariant-loop-key
invariant-loop-key l = l.columns.items ≡ l.initial.columns.items ++ map (λ x. x.node) (take l.key-index l.keys)
