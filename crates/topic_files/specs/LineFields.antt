-- The members of a line's object that make it a topic line.
use Rattle.std.specs.Prelude.{ℕ, List, [], ◌∷◌, length, codes, bytes_eq, Bool, ◌&&◌, if◌then◌else◌, Option, Some, None, option_map, option_and_then}
use Rattle.json.specs.Token.{Token}
use Rattle.json.specs.Json as json
use Rattle.serde_json.specs.Data.{Data, Members, no_members}
use Rattle.serde_json.specs.Read.{converted, of_members}
use Rattle.serde_json.specs.Find.{as_object, get_member}
use Rattle.ksql_types.specs.declared.relation.Relation.{Relation}
use Rattle.topic_files.specs.declared.topic.Fed.{Fed}
use Rattle.topic_files.specs.Record.{field_value, key_of, keyed}
use Rattle.topic_files.specs.TopicLine.{as_time, is_key, is_value, unless_null, whole_number}
use Rattle.topic_files.specs.Tree.{view}
use Rattle.topic_files.specs.declared.line.LineFields.{LineFields}

-- the fields t, k and v of an object
pub record Fields : Type 0 where
  pub time : Option Data
  pub key : Option Data
  pub value : Option Data

-- the fields among members
abbrev pub fields_in : Members → Fields
fields_in members = record { time = get_member (codes "t") members; key = get_member (codes "k") members; value = get_member (codes "v") members }

-- the fields of a JSON object, None if it is no object
abbrev pub fields_of : Data → Option Fields
fields_of json = option_map fields_in (as_object json)

-- the fields that were read, None if they make no object
abbrev pub if_read : Bool → Fields → Option Fields
if_read is fields = if is then Some fields else None

-- what follows the brace that opens an object, if there is one
abbrev pub after_begin_object : List Token → Option (List Token)
after_begin_object [] = None
after_begin_object (Token.begin_object ∷ ts) = Some ts
after_begin_object (Token.end_object ∷ ts) = None
after_begin_object (Token.begin_array ∷ ts) = None
after_begin_object (Token.end_array ∷ ts) = None
after_begin_object (Token.key s ∷ ts) = None
after_begin_object (Token.string s ∷ ts) = None
after_begin_object (Token.number s ∷ ts) = None
after_begin_object (Token.boolean b ∷ ts) = None
after_begin_object (Token.null ∷ ts) = None
after_begin_object (Token.bad ∷ ts) = None

-- the members of an object, from its tokens after the opening brace, nested no deeper than the number
abbrev pub members_within : ℕ → json.Parse Members
members_within depth tokens = converted (λ ms. of_members ms no_members) (json.members (json.value depth) (length tokens) tokens)

-- the fields that were read, as data
abbrev pub seen : LineFields → Fields
seen fields = record { time = option_map view fields.time; key = option_map view fields.key; value = option_map view fields.value }

-- the time of a topic line with these fields, None if they make none
abbrev pub time_in : Fields → Option ℕ
time_in fields =
    if is_key (option_and_then unless_null fields.key) && is_value (option_and_then unless_null fields.value)
    then option_and_then as_time (option_and_then whole_number fields.time) else None

-- the record of a topic line with these fields
abbrev pub fed_in : Relation → Fields → Option Fed
fed_in relation fields =
    option_map (λ time. keyed time (field_value relation (option_and_then unless_null fields.value)) (key_of relation.schema.keys (option_and_then unless_null fields.key))) (time_in fields)

-- a field after one more member: that member if it has the name, else the field before
abbrev pub field_after : List ℕ → Data → List ℕ → Option Data → Option Data
field_after name json own before = if bytes_eq name own then Some json else before
