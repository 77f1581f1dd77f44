-- Names of columns and topics (ksqlDB reference manual, "Identifiers" and "Pseudocolumns"; Apache Kafka, "Topic
-- names").
use Rattle.std.specs.Prelude.{ℕ, Bool, true, not, ◌&&◌, ◌||◌, ◌==◌, nat_le, List, [], ◌∷◌, length, codes, bytes_eq}
use Rattle.std.specs.List.{list_any, list_all}
use Rattle.std.specs.Char.{is_ascii_alphanumeric}

-- whether a text is one of these
abbrev pub is_among : List (List ℕ) → List ℕ → Bool
is_among names name = list_any (bytes_eq name) names

-- names that no column can have
abbrev pub reserved_columns : List (List ℕ)
reserved_columns = codes "ROWTIME" ∷ codes "ROWKEY" ∷ codes "WINDOWSTART" ∷ codes "WINDOWEND" ∷ []

-- whether all names differ
abbrev pub are_distinct : List (List ℕ) → Bool
are_distinct [] = true
are_distinct (name ∷ names) = not (is_among names name) && are_distinct names

-- whether columns can have these names
abbrev pub are_column_names : List (List ℕ) → Bool
are_column_names names = are_distinct names && list_all (λ name. not (is_among reserved_columns name)) names

-- whether a character can stand in the name of a topic
abbrev pub is_topic_byte : ℕ → Bool
is_topic_byte c = is_ascii_alphanumeric c || (c == 46) || (c == 95) || (c == 45)

-- whether a text is a legal topic name: 1 to 249 ASCII letters, digits, `.`, `_` and `-`, and neither `.` nor `..`
abbrev pub is_topic_name : List ℕ → Bool
is_topic_name name =
    nat_le 1 (length name) && nat_le (length name) 249 && list_all is_topic_byte name
    && not (bytes_eq name (codes ".")) && not (bytes_eq name (codes ".."))
