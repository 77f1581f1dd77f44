use Rattle.std.proofs.Common.{◌≡◌, ◌++◌, map, take}
use Rattle.run_text.specs.Standings.{standing_in, standing_of}
use Rattle.run_text.proofs.visible.push_changes.Given as goal

-- the changes so far are there
abbrev pub invariant-loop-change : goal.invariant-loop-change
invariant-loop-change l = map standing_of l.changes.items ≡ map standing_of l.initial.changes.items ++ standing_in l.part (take l.change-index l.more)
