use Rattle.std.proofs.Common.{◌≡◌, ◌++◌, flat_map, map, take, string_bytes}
use Rattle.reference.specs.Plain.{changes_of}
use Rattle.reference.specs.Sections.{sections}
use Rattle.run_text.specs.Report.{section_text}
use Rattle.reference.proofs.program_report.push_items.Given as goal

-- the sections of the items so far are written
abbrev pub invariant-loop-item : goal.invariant-loop-item
invariant-loop-item l = string_bytes l.out ≡ string_bytes l.initial.out ++ flat_map section_text (sections l.closed (take l.item-index l.items) l.order (map changes_of l.lists))
