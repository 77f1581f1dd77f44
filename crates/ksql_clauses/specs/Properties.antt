-- The properties of WITH (ksqlDB reference manual, "CREATE STREAM" and "CREATE STREAM AS SELECT").
use Rattle.std.specs.Prelude.{ℕ, ◌==◌, Bool, true, false, not, ◌&&◌, ◌||◌, nat_lt, if◌then◌else◌, List, [], ◌∷◌, length, map, Option, Some, None, is_some, is_none, unwrap_or, option_and_then, codes, bytes_eq, find}
use Rattle.std.specs.List.{list_any, list_all}
use Rattle.std.specs.Str.{str_to_ascii_uppercase}
use Rattle.ksql_types.specs.declared.relation.Format.{Format}
use Rattle.ksql_types.specs.declared.relation.Format.TheVariants.{Json, Delimited}
use Rattle.statement_trees.specs.declared.tree.Property.{Property}
use Rattle.statement_trees.specs.declared.tree.PropertyValue.{PropertyValue}
use Rattle.statement_trees.specs.declared.tree.PropertyValue.TheVariants as is
use Rattle.ksql_types.specs.Names.{is_among, are_distinct, is_topic_name}

-- the properties whose value is a text, and those whose value is digits
abbrev pub text_properties : List (List ℕ)
text_properties = codes "KAFKA_TOPIC" ∷ codes "KEY_FORMAT" ∷ codes "VALUE_FORMAT" ∷ []

abbrev pub digits_properties : List (List ℕ)
digits_properties = codes "PARTITIONS" ∷ codes "REPLICAS" ∷ []

-- a property's name, in any case
abbrev pub name_of : Property → List ℕ
name_of p = str_to_ascii_uppercase p.name

-- whether a property is known, and its value has the property's kind
abbrev pub has_kind : List ℕ → PropertyValue → Bool
has_kind name (is.Text content) = is_among text_properties name
has_kind name (is.Digits number) = is_among digits_properties name

-- the first value of a property
abbrev pub value_of : List ℕ → List Property → Option PropertyValue
value_of name ps = option_and_then (λ p. Some p.value) (find (λ p. bytes_eq (name_of p) name) ps)

abbrev pub text_in : PropertyValue → Option (List ℕ)
text_in (is.Text content) = Some content
text_in (is.Digits number) = None

abbrev pub digits_in : PropertyValue → Option ℕ
digits_in (is.Text content) = None
digits_in (is.Digits number) = Some number

abbrev pub topic_in : List Property → Option (List ℕ)
topic_in ps = option_and_then text_in (value_of (codes "KAFKA_TOPIC") ps)

abbrev pub partitions_in : List Property → Option ℕ
partitions_in ps = option_and_then digits_in (value_of (codes "PARTITIONS") ps)

-- the format with a name, in any case
abbrev pub format_named : List ℕ → Option Format
format_named name =
    if bytes_eq (str_to_ascii_uppercase name) (codes "JSON") then Some Json
    else if bytes_eq (str_to_ascii_uppercase name) (codes "DELIMITED") then Some Delimited
    else None

abbrev pub format_in : List Property → Option Format
format_in ps = option_and_then format_named (option_and_then text_in (value_of (codes "VALUE_FORMAT") ps))

-- whether a format is unknown
abbrev pub is_bad_format : Option PropertyValue → Bool
is_bad_format (Some (is.Text name)) = not (is_some (format_named name))
is_bad_format _ = false

abbrev pub is_bad_key_format : Option PropertyValue → Bool
is_bad_key_format (Some (is.Text name)) = not (bytes_eq (str_to_ascii_uppercase name) (codes "KAFKA"))
is_bad_key_format _ = false

abbrev pub is_zero : Option ℕ → Bool
is_zero None = false
is_zero (Some number) = number == 0

-- whether properties are wrong by themselves: one is unknown, repeated or of the wrong kind, a format is unknown, or
-- the number of partitions is 0
abbrev pub are_bad : List Property → Bool
are_bad ps =
    not (list_all (λ p. has_kind (name_of p) p.value) ps) || not (are_distinct (map name_of ps))
    || is_bad_format (value_of (codes "VALUE_FORMAT") ps) || is_bad_key_format (value_of (codes "KEY_FORMAT") ps)
    || is_zero (partitions_in ps)
