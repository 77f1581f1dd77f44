use Rattle.std.proofs.Common.{◌≡◌, ◌++◌, flat_map, map, take, string_bytes}
use Rattle.topic_files.specs.Printed.{printed_by}
use Rattle.run_text.specs.Lines.{shown_of}
use Rattle.run_text.specs.Printed.{row_line}
use Rattle.run_text.proofs.section.push_rows.Given as goal

-- the lines of the rows so far are written
abbrev pub invariant-loop-row : goal.invariant-loop-row
invariant-loop-row l =
    string_bytes l.out ≡ string_bytes l.initial.out ++ flat_map (row_line (printed_by l.printer)) (map shown_of (take l.row-index l.rows))
