use Rattle.std.proofs.Common.{◌≡◌, ◌++◌, flat_map, take, string_bytes}
use Rattle.trace_text.specs.Trace.{progress_line}
use Rattle.trace_text.proofs.trace.push_all_progress.Given as goal

-- the lines of the entries so far are written
abbrev pub invariant-loop-entry : goal.invariant-loop-entry
invariant-loop-entry l = string_bytes l.out ≡ string_bytes l.initial.out ++ flat_map progress_line (take l.entry-index l.happened)
