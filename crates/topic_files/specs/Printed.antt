-- The printed text of a row.
use Rattle.std.specs.Prelude.{ℕ, List, [], ◌∷◌, ◌++◌, codes, if◌then◌else◌, map, string_bytes}
use Rattle.std.specs.Fmt.{signed_decimal}
use Rattle.std.specs.List.{concat, join_with_byte}
use Rattle.json.specs.Print.{quoted}
use Rattle.ksql_types.specs.declared.relation.Column.{Column}
use Rattle.ksql_types.specs.declared.relation.Format.{Format}
use Rattle.ksql_types.specs.declared.relation.Format.TheVariants.{Json, Delimited}
use Rattle.ksql_types.specs.declared.relation.Relation.{Relation}
use Rattle.ksql_types.specs.declared.value.Value.{Value}
use Rattle.ksql_types.specs.declared.value.Value.TheVariants as values
use Rattle.topic_files.specs.Delimited.{line_of}
use Rattle.topic_files.specs.declared.printed.Printer.{Printer}
use Rattle.topic_files.specs.declared.printed.Printer.TheVariants.{Objects, Texts}

-- a value, as JSON
unfoldable pub printed : Value → List ℕ
printed values.Null = codes "null"
printed (values.Int number) = signed_decimal number
printed (values.Big number) = signed_decimal number
printed (values.Txt text) = quoted text
printed (values.Bool truth) = if truth then codes "true" else codes "false"

-- pieces separated by commas
abbrev pub comma_joined : List (List ℕ) → List ℕ
comma_joined pieces = join_with_byte 44 pieces

-- what precedes the value of a column: its name and a colon
unfoldable pub label_of : Column → List ℕ
label_of column = quoted column.name ++ codes ":"

abbrev pub labels_of : List Column → List (List ℕ)
labels_of columns = map label_of columns

-- the fields of an object: each label with its value
unfoldable pub fields_of : List (List ℕ) → List Value → List (List ℕ)
fields_of [] values = []
fields_of (label ∷ labels) [] = []
fields_of (label ∷ labels) (value ∷ row) = (label ++ printed value) ∷ fields_of labels row

-- an object whose fields have these labels, without blanks
unfoldable pub labelled_text : List (List ℕ) → List Value → List ℕ
labelled_text labels row = codes "{" ++ (comma_joined (fields_of labels row) ++ codes "}")

-- a row as a JSON object of these columns, in order
abbrev pub object_text : List Column → List Value → List ℕ
object_text columns row = labelled_text (labels_of columns) row

-- a row in a format: an object, or its comma-separated fields as a JSON text
unfoldable pub row_in : Format → List Column → List Value → List ℕ
row_in Json columns row = object_text columns row
row_in Delimited columns row = quoted (line_of row)

-- the printed value of a row of a relation
abbrev pub value_text : Relation → List Value → List ℕ
value_text relation row = row_in relation.format relation.schema.values row

-- labels, each after a comma except the first
unfoldable pub after_commas : List (List ℕ) → List (List ℕ)
after_commas [] = []
after_commas (label ∷ labels) = label ∷ map (λ next. codes "," ++ next) labels

-- an object with these texts before its values, without blanks
abbrev pub led_text : List (List ℕ) → List Value → List ℕ
led_text labels row = codes "{" ++ (concat (fields_of labels row) ++ codes "}")

-- a row as a printer prints it
abbrev pub printed_by : Printer → List Value → List ℕ
printed_by (Objects labels) row = led_text (map string_bytes labels.items) row
printed_by Texts row = quoted (line_of row)
