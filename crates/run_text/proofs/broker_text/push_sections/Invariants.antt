use Rattle.std.proofs.Common.{◌≡◌, ◌++◌, flat_map, map, take, string_bytes}
use Rattle.run_text.specs.Report.{section_text}
use Rattle.run_text.specs.Shown.{section_shown}
use Rattle.run_text.proofs.broker_text.push_sections.Given as goal

-- the sections of the items so far are written
abbrev pub invariant-loop-number : goal.invariant-loop-number
invariant-loop-number l = string_bytes l.out ≡ string_bytes l.initial.out ++ flat_map section_text (map (section_shown l.broker) (take l.number l.items))
