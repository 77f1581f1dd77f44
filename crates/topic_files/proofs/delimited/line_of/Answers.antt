-- A row of texts without its line feed is a text.
use Rattle.std.proofs.Common.{◌≡◌, IsUtf8, rules, sym, subst}
use Rattle.csv.specs.Records.{fields_of}
use Rattle.csv.specs.Writing.{default_writer, row_text}
use Rattle.topic_files.specs.Delimited.{without_end}
use Rattle.topic_files.proofs.RowTexts.{IsUtf8-line}
use Rattle.topic_files.proofs.delimited.line_of.Goals as goal

pub unwrap-requires : goal.unwrap-requires
unwrap-requires c =
    let fields = fields_of c.in_ok-fields.fields in
    let is : c.pop.new.self.items ≡ without_end (row_text default_writer fields) = search rules in
    c.from_utf8.ensures.succeeds (subst IsUtf8 (sym is) (IsUtf8-line fields c.in_ok-fields.ensures.utf8))
