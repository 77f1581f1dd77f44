use Rattle.std.proofs.Common.{◌≡◌, flat_map, map, take, string_bytes}
use Rattle.run_text.specs.Report.{summary_text}
use Rattle.run_text.specs.Shown.{section_shown}
use Rattle.run_text.proofs.broker_text.broker_summary.Given as goal

-- the summaries of the items so far are written
abbrev pub invariant-loop-item : goal.invariant-loop-item
invariant-loop-item l = string_bytes l.out ≡ flat_map summary_text (map (section_shown l.broker) (take l.item-index l.program.items))
