use Rattle.std.proofs.Common.{◌≡◌, map, take}
use Rattle.run_text.specs.Lines.{shown_of}
use Rattle.run_text.specs.Printed.{shown_in}
use Rattle.run_text.specs.Standings.{standing_of}
use Rattle.run_text.proofs.visible.standing_lines.Given as goal

-- the changes so far have their lines
abbrev pub invariant-loop-standing : goal.invariant-loop-standing
invariant-loop-standing l = map shown_of l.lines.items ≡ map (λ s. shown_in s.part s.change) (map standing_of (take l.standing-index l.changes))
