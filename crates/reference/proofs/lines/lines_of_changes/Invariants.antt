use Rattle.std.proofs.Common.{◌≡◌, map, take}
use Rattle.run_text.specs.Lines.{shown_of}
use Rattle.run_text.specs.Report.{meant}
use Rattle.reference.proofs.lines.lines_of_changes.Given as goal

-- the changes so far have their lines
abbrev pub invariant-loop-change : goal.invariant-loop-change
invariant-loop-change l = map shown_of l.lines.items ≡ meant l.relation (take l.change-index l.changes)
