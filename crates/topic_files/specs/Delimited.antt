-- DELIMITED values: rows of comma-separated fields, as `csv` reads and writes them (RFC 4180).
use Rattle.std.specs.Prelude.{ℕ, ◌^◌, ◌-◌, ℤ, pos, negsuc, List, [], ◌∷◌, length, map, take, codes, Bool, true, false, ◌==◌, nat_lt, if◌then◌else◌, Option, Some, None, option_map, option_and_then, is_some}
use Rattle.std.specs.Fmt.{signed_decimal}
use Rattle.std.specs.Str.{is_utf8}
use Rattle.std.specs.Str.Parse.{signed_digits_value}
use Rattle.csv.specs.Machine.{next_record, Read}
use Rattle.csv.specs.Reading.{default_config, strip_bom}
use Rattle.csv.specs.Writing.{default_writer, row_text}
use Rattle.csv.specs.declared.parser.State.TheVariants.{StartRecord}
use Rattle.ksql_types.specs.declared.relation.Column.{Column}
use Rattle.ksql_types.specs.declared.value.SqlType.{SqlType}
use Rattle.ksql_types.specs.declared.value.SqlType.TheVariants as types
use Rattle.ksql_types.specs.declared.value.Value.{Value}
use Rattle.ksql_types.specs.declared.value.Value.TheVariants as values
use Rattle.ksql_expr.specs.Value.{are_digits}
use Rattle.topic_files.specs.Cells.{as_int, is_like, text_value, truth_text}

-- ---- reading

-- the fields of the only row, None if there is none or another row follows
abbrev alone : Option Read → Option (List (List ℕ))
alone None = None
alone (Some row) = if is_some (next_record default_config row.1 [] [] row.2) then None else Some row.0

-- the fields of a text that is exactly one row, None for any other text
abbrev pub fields_of : List ℕ → Option (List (List ℕ))
fields_of text = alone (next_record default_config StartRecord [] [] (strip_bom text))

-- a field without a minus sign at its start
abbrev pub without_minus : List ℕ → List ℕ
without_minus [] = []
without_minus (byte ∷ more) = if byte == 45 then more else byte ∷ more

-- the whole number in a field: an optional minus sign and digits
abbrev pub whole : List ℕ → Option ℤ
whole field = if are_digits (without_minus field) then Some (signed_digits_value 10 field) else None

-- a number as a signed 64-bit number, None if it is out of range
abbrev pub as_big : ℤ → Option ℤ
as_big (pos n) = if nat_lt n (2 ^ 63) then Some (pos n) else None
as_big (negsuc n) = if nat_lt n (2 ^ 63) then Some (negsuc n) else None

-- the truth value in a field, in lower or upper case
abbrev pub truth_in : List ℕ → Option Bool
truth_in field = if is_like (codes "true") field then Some true else (if is_like (codes "false") field then Some false else None)

-- the value of a field that isn't empty, None if it isn't of this type
abbrev pub written : SqlType → List ℕ → Option Value
written types.Int field = option_map values.Int (option_and_then as_int (whole field))
written types.Big field = option_map values.Big (option_and_then as_big (whole field))
written types.Text field = text_value field
written types.Bool field = option_map values.Bool (truth_in field)

-- the value of a field: NULL if it is empty, None if it isn't of its column's type
abbrev pub field_value : SqlType → List ℕ → Option Value
field_value ty field = if length field == 0 then Some values.Null else (if is_utf8 field then written ty field else None)

-- the row of these fields: one field for each column
abbrev pub row_of : List Column → List (List ℕ) → Option (List Value)
row_of [] [] = Some []
row_of [] (field ∷ fields) = None
row_of (column ∷ columns) [] = None
row_of (column ∷ columns) (field ∷ fields) =
    option_and_then (λ value. option_map (λ more. value ∷ more) (row_of columns fields)) (field_value column.ty field)

-- the row in a text, None if it isn't exactly one row of these columns
abbrev pub text_row : List Column → List ℕ → Option (List Value)
text_row columns text = option_and_then (row_of columns) (fields_of text)

-- ---- writing

-- a value as a field; NULL is an empty one
unfoldable pub field_text : Value → List ℕ
field_text values.Null = []
field_text (values.Int number) = signed_decimal number
field_text (values.Big number) = signed_decimal number
field_text (values.Txt text) = text
field_text (values.Bool truth) = truth_text truth

-- a line without its line feed
abbrev pub without_end : List ℕ → List ℕ
without_end line = take (length line - 1) line

-- a row as text, without the line end
abbrev pub line_of : List Value → List ℕ
line_of row = without_end (row_text default_writer (map field_text row))
