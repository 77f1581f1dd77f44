-- Topic lines.
use Rattle.std.specs.Prelude.{ℕ, ◌^◌, ◌&&◌, ◌||◌, ℤ, pos, negsuc, List, codes, Bool, true, nat_le, if◌then◌else◌, Option, Some, None, option_and_then, is_some}
use Rattle.std.specs.Str.{is_utf8}
use Rattle.serde_json.specs.Data.{Data}
use Rattle.serde_json.specs.Read.{read}
use Rattle.serde_json.specs.Find.{get, as_null, as_bool, as_number, as_i64, as_str, as_object}

-- the greatest time of a record, in milliseconds
abbrev pub last_time : ℕ
last_time = 2 ^ 53

-- the JSON of a line, None if it isn't UTF-8 or serde_json doesn't read it
abbrev pub data_of : List ℕ → Option Data
data_of line = if is_utf8 line then read line else None

-- a null counts as missing
abbrev pub unless_null : Data → Option Data
unless_null json = if is_some (as_null json) then None else Some json

-- the field with this name, None if it is missing or null
abbrev pub present : List ℕ → Data → Option Data
present name json = option_and_then unless_null (get name json)

-- a signed 64-bit whole number
abbrev pub whole_number : Data → Option ℤ
whole_number json = option_and_then as_i64 (as_number json)

-- a number as a time, None if it isn't from 0 to the last time
abbrev pub as_time : ℤ → Option ℕ
as_time (pos n) = if nat_le n last_time then Some n else None
as_time (negsuc n) = None

-- the time of a line: the whole number of its field t
abbrev pub time_of : Data → Option ℕ
time_of json = option_and_then as_time (option_and_then whole_number (get (codes "t") json))

-- whether this is allowed in the key field: nothing, a text, a whole number or a truth value
abbrev pub is_key : Option Data → Bool
is_key None = true
is_key (Some json) = is_some (as_str json) || is_some (whole_number json) || is_some (as_bool json)

-- whether this is allowed in the value field: nothing, an object or a text
abbrev pub is_value : Option Data → Bool
is_value None = true
is_value (Some json) = is_some (as_object json) || is_some (as_str json)

-- the time of a topic line: an object with a time, and with a key and a value of these kinds; None for any other JSON
abbrev pub topic_time : Data → Option ℕ
topic_time json = if is_key (present (codes "k") json) && is_value (present (codes "v") json) then time_of json else None
