use Rattle.std.proofs.Common.{◌≡◌, take}
use Rattle.topic_files.proofs.tree.is_named.Given as goal

-- the names match as far as they were compared
abbrev pub invariant-loop-i : goal.invariant-loop-i
invariant-loop-i l = take l.i l.key ≡ take l.i l.name
