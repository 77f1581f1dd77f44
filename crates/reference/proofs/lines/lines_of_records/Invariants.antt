use Rattle.std.proofs.Common.{◌≡◌, map, take}
use Rattle.query_meaning.specs.Parts.{rows_said}
use Rattle.run_text.specs.Lines.{shown_of}
use Rattle.run_text.specs.Report.{meant}
use Rattle.reference.proofs.lines.lines_of_records.Given as goal

-- what the records so far say has its lines
abbrev pub invariant-loop-fed : goal.invariant-loop-fed
invariant-loop-fed l = map shown_of l.lines.items ≡ meant l.relation (rows_said l.number (take l.fed-index l.order))
