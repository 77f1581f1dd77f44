use Rattle.std.proofs.Common.{◌≡◌, map, take}
use Rattle.csv.specs.Records.{AllText, fields_of}
use Rattle.topic_files.specs.Delimited.{field_text}
use Rattle.topic_files.proofs.delimited.record_of.Given as goal

-- the fields so far are those of the values so far
abbrev pub invariant-loop-value : goal.invariant-loop-value
invariant-loop-value l = record {
  fields : fields_of l.fields ≡ map field_text (take l.value-index l.row);
  utf8 : AllText (fields_of l.fields);
}
