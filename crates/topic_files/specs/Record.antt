-- The record of a topic line, by the schema and the format of its relation.
use Rattle.std.specs.Prelude.{ℕ, List, [], ◌∷◌, codes, if◌then◌else◌, Option, Some, None, option_map, option_and_then, is_some}
use Rattle.serde_json.specs.Data.{Data}
use Rattle.serde_json.specs.Find.{as_object, as_str}
use Rattle.ksql_types.specs.declared.relation.Column.{Column}
use Rattle.ksql_types.specs.declared.relation.Format.{Format}
use Rattle.ksql_types.specs.declared.relation.Format.TheVariants.{Json, Delimited}
use Rattle.ksql_types.specs.declared.relation.Relation.{Relation}
use Rattle.ksql_types.specs.declared.value.Value.{Value}
use Rattle.ksql_place.specs.declared.change.Decoded.{Decoded}
use Rattle.ksql_place.specs.declared.change.Decoded.TheVariants.{Good, Tombstone, Skipped}
use Rattle.topic_files.specs.declared.topic.Fed.{Fed}
use Rattle.topic_files.specs.Cells.{cells, typed}
use Rattle.topic_files.specs.Delimited.{text_row}
use Rattle.topic_files.specs.TopicLine.{data_of, present, topic_time}

-- the key that the field k stands for, by the key columns: none if k is missing; without a key column k is ignored;
-- with one key column k must be of its type, else None; with several key columns no k fits
abbrev pub key_of : List Column → Option Data → Option (List Value)
key_of columns None = Some []
key_of [] (Some json) = Some []
key_of (column ∷ []) (Some json) = option_map (λ value. value ∷ []) (typed column.ty json)
key_of (first ∷ second ∷ more) (Some json) = None

-- the row in an object, None if this is no object or a field isn't of its column's type
abbrev pub object_row : List Column → Data → Option (List Value)
object_row columns json = if is_some (as_object json) then cells columns json else None

-- the row in a text of comma-separated fields, None if this is no text or not exactly one row of these columns
abbrev pub delimited_row : List Column → Data → Option (List Value)
delimited_row columns json = option_and_then (text_row columns) (as_str json)

-- the row that a JSON field stands for in a format, None if it stands for none
abbrev pub row_in : Format → List Column → Data → Option (List Value)
row_in Json columns json = object_row columns json
row_in Delimited columns json = delimited_row columns json

-- a row, or skipped if there is none
abbrev pub good_row : Option (List Value) → Decoded
good_row (Some row) = Good row
good_row None = Skipped

-- the value that a JSON field stands for: a row of the relation's value columns in its format, or skipped if it stands
-- for none
abbrev pub decoded : Relation → Data → Decoded
decoded relation json = good_row (row_in relation.format relation.schema.values json)

-- the value of the field v: a tombstone if it is missing
abbrev pub field_value : Relation → Option Data → Decoded
field_value relation None = Tombstone
field_value relation (Some json) = decoded relation json

-- the record with a time, a value and a key: skipped, and without a key, if k isn't of the key's type
abbrev pub keyed : ℕ → Decoded → Option (List Value) → Fed
keyed time value (Some key) = record { time = time; key = key; value = value }
keyed time value None = record { time = time; key = []; value = Skipped }

-- the record of a topic line with this time
abbrev pub record_at : Relation → Data → ℕ → Fed
record_at relation json time =
    keyed time (field_value relation (present (codes "v") json)) (key_of relation.schema.keys (present (codes "k") json))

-- the record of a line's JSON, None if it is no topic line
abbrev pub fed_of_data : Relation → Data → Option Fed
fed_of_data relation json = option_map (record_at relation json) (topic_time json)

-- the record of a line, None if it is no topic line
abbrev pub fed_of : Relation → List ℕ → Option Fed
fed_of relation line = option_and_then (fed_of_data relation) (data_of line)
