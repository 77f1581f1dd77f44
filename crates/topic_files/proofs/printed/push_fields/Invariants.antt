use Rattle.std.proofs.Common.{◌≡◌, ◌++◌, map, take, length, string_bytes}
use Rattle.std.specs.List.{concat}
use Rattle.topic_files.specs.Printed.{fields_of}
use Rattle.topic_files.proofs.printed.push_fields.Given as goal

-- the fields so far are written
abbrev pub invariant-loop-label : goal.invariant-loop-label
invariant-loop-label l = record {
  written : string_bytes l.out ≡ string_bytes l.fn.out
      ++ concat (fields_of (take (length l.yielded) (map string_bytes l.labels)) (take (length l.yielded) l.row));
  can : (goal.iterator-loop-label).can_next l.label-iterator;
  finite : (goal.iterator-loop-label).is_finite l.label-iterator;
}
