use Rattle.std.proofs.Common.{◌≡◌, ◌++◌, map, take, string_bytes}
use denote.Text.{Utf8}
use denote.Shadow.{shadow}
use Rattle.topic_files.specs.Printed.{comma_joined, printed}
use Rattle.topic_files.proofs.Texts.{comma_after}
use Rattle.run_text.proofs.printed.push_cells.Given as goal

-- the values so far are written, and a comma is next unless there is none
abbrev pub invariant-loop-cell : goal.invariant-loop-cell
invariant-loop-cell l = record {
  written : string_bytes l.out ≡ string_bytes l.fn.out ++ comma_joined (map printed (take l.cell-index l.cells));
  next : l.separator ≡ comma_after (map printed (take l.cell-index l.cells));
  is_text : shadow (Utf8 l.separator);
}
