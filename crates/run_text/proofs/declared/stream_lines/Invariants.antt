use Rattle.std.proofs.Common.{◌≡◌, map, take}
use Rattle.query_meaning.specs.Parts.{rows_said}
use Rattle.run_text.specs.Lines.{shown_of}
use Rattle.run_text.specs.RowKeys.{as_fed}
use Rattle.run_text.proofs.declared.stream_lines.Given as goal

-- what the records so far say has its lines
abbrev pub invariant-loop-fed : goal.invariant-loop-fed
invariant-loop-fed l = map shown_of l.lines.items ≡ as_fed (rows_said l.number (map (λ r. r.now) (take l.fed-index l.records)))
