use Rattle.std.proofs.Common.{◌≡◌, ◌++◌, flat_map, map, take, string_bytes}
use Rattle.topic_files.specs.Printed.{printed_by}
use Rattle.run_text.specs.Lines.{shown_of}
use Rattle.run_text.specs.Printed.{change_line}
use Rattle.run_text.proofs.section.push_changes.Given as goal

-- the lines of the changes so far are written
abbrev pub invariant-loop-line : goal.invariant-loop-line
invariant-loop-line l =
    string_bytes l.out ≡ string_bytes l.initial.out ++ flat_map (change_line (printed_by l.printer)) (map shown_of (take l.line-index l.lines))
