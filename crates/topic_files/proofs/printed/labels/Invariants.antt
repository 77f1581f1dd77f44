use Rattle.std.proofs.Common.{◌≡◌, map, take, string_bytes}
use denote.Text.{Utf8}
use denote.Shadow.{shadow}
use Rattle.topic_files.specs.Printed.{after_commas, labels_of}
use Rattle.topic_files.proofs.Texts.{comma_after}
use Rattle.topic_files.proofs.printed.labels.Given as goal

-- the labels so far are those of the first columns, and a comma is next unless there is none
abbrev pub invariant-loop-column : goal.invariant-loop-column
invariant-loop-column l = record {
  made : map string_bytes l.labels.items ≡ after_commas (labels_of (take l.column-index l.columns));
  next : l.separator ≡ comma_after (labels_of (take l.column-index l.columns));
  is_text : shadow (Utf8 l.separator);
}
