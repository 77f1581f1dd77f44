use Rattle.std.proofs.Common.{length}
use Rattle.json.specs.Json.{value}
use Rattle.topic_files.specs.LineFields.{seen}
use Rattle.topic_files.proofs.LineFieldLemmas.{FieldsRead}
use Rattle.topic_files.proofs.read.read_fields.Given as goal

-- some members have been read, and their fields are those so far
abbrev pub invariant-members : goal.invariant-members
invariant-members l = FieldsRead (value 126) l.initial.reader (seen l.fields) l.reader

abbrev pub decreases-members : goal.decreases-members
decreases-members l = length l.reader
