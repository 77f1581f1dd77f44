-- The values of fields, by the types of their columns.
use Rattle.std.specs.Prelude.{ℕ, ◌^◌, ℤ, pos, negsuc, List, [], ◌∷◌, length, codes, bytes_eq, Bool, nat_lt, nat_le, if◌then◌else◌, Option, Some, None, option_map, option_and_then}
use Rattle.std.specs.Option.{option_or}
use Rattle.std.specs.Ordering.{nat_cmp, is_lt}
use Rattle.std.specs.Cmp.Lexicographic.{slice_cmp}
use Rattle.std.specs.Str.{str_to_ascii_uppercase}
use Rattle.std.specs.Fmt.{signed_decimal}
use Rattle.serde_json.specs.Data.{Data, Members, no_members, member}
use Rattle.serde_json.specs.Find.{get, as_bool, as_str, as_object}
use Rattle.ksql_types.specs.declared.relation.Column.{Column}
use Rattle.ksql_types.specs.declared.value.SqlType.{SqlType}
use Rattle.ksql_types.specs.declared.value.SqlType.TheVariants as types
use Rattle.ksql_types.specs.declared.value.Value.{Value}
use Rattle.ksql_types.specs.declared.value.Value.TheVariants as values
use Rattle.ksql_types.specs.Text.{longest_value}
use Rattle.topic_files.specs.TopicLine.{unless_null, whole_number}

-- a text as a value, None if it is too long
abbrev pub text_value : List ℕ → Option Value
text_value text = if nat_le (length text) longest_value then Some (values.Txt text) else None

-- a number as a signed 32-bit number, None if it is out of range
abbrev pub as_int : ℤ → Option ℤ
as_int (pos n) = if nat_lt n (2 ^ 31) then Some (pos n) else None
as_int (negsuc n) = if nat_lt n (2 ^ 31) then Some (negsuc n) else None

-- a signed 32-bit whole number
abbrev pub int_of : Data → Option ℤ
int_of json = option_and_then as_int (whole_number json)

-- the value of a JSON field, None if it isn't of this type
abbrev pub typed : SqlType → Data → Option Value
typed types.Int json = option_map values.Int (int_of json)
typed types.Big json = option_map values.Big (whole_number json)
typed types.Text json = option_and_then text_value (as_str json)
typed types.Bool json = option_map values.Bool (as_bool json)

-- a truth value as text
abbrev pub truth_text : Bool → List ℕ
truth_text truth = if truth then codes "true" else codes "false"

-- a text, or the text of a whole number or truth value
abbrev pub text_form : Data → Option (List ℕ)
text_form json = option_or (as_str json) (option_or (option_map signed_decimal (whole_number json)) (option_map truth_text (as_bool json)))

-- the value of this type that a JSON field stands for in a row: VARCHAR also takes the text of whole numbers and truth
-- values
abbrev pub value_of_type : SqlType → Data → Option Value
value_of_type types.Int json = typed types.Int json
value_of_type types.Big json = typed types.Big json
value_of_type types.Text json = option_and_then text_value (text_form json)
value_of_type types.Bool json = typed types.Bool json

-- whether two names are equal in upper case
abbrev pub is_like : List ℕ → List ℕ → Bool
is_like name other = bytes_eq (str_to_ascii_uppercase name) (str_to_ascii_uppercase other)

-- a member, unless another one has a lesser name
abbrev pub lesser : List ℕ × Data → Option (List ℕ × Data) → List ℕ × Data
lesser one None = one
lesser one (Some other) = if is_lt (slice_cmp nat_cmp other.0 one.0) then other else one

-- the member with the least name, in byte order, among those whose names equal this one in upper case
abbrev pub least_like : List ℕ → Members → Option (List ℕ × Data)
least_like name no_members = None
least_like name (member key json more) = if is_like key name then Some (lesser (key, json) (least_like name more)) else least_like name more

-- the field with exactly this name, else the one with the least name that equals it in upper case
abbrev pub named_field : List ℕ → Data → Option Data
named_field name json = option_or (get name json) (option_map (λ found. found.1) (option_and_then (least_like name) (as_object json)))

-- the field of the column with this name, None if it is missing or null
abbrev pub column_field : List ℕ → Data → Option Data
column_field name json = option_and_then unless_null (named_field name json)

-- the value of a field of a type: NULL without the field, None if the field isn't of the type
abbrev pub cell_of : SqlType → Option Data → Option Value
cell_of ty None = Some values.Null
cell_of ty (Some json) = value_of_type ty json

-- the value of a column in an object
abbrev pub cell : Column → Data → Option Value
cell column json = cell_of column.ty (column_field column.name json)

-- the values of columns in an object, None if a field isn't of its column's type
abbrev pub cells : List Column → Data → Option (List Value)
cells [] json = Some []
cells (column ∷ columns) json = option_and_then (λ value. option_map (λ more. value ∷ more) (cells columns json)) (cell column json)
