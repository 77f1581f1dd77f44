-- The lines of a report about records and changes. `print` gives the text of a row.
use Rattle.std.specs.Prelude.{◌≡◌, ℕ, List, [], ◌∷◌, ◌++◌, map, codes, decimal, string_bytes, String, Option, Some, None}
use Rattle.ksql_types.specs.declared.value.Value.{Value}
use Rattle.ksql_types.specs.declared.relation.Span.{Span}
use Rattle.ksql_place.specs.Said.{row_in}
use Rattle.ksql_place.specs.declared.change.Change.{Change}
use Rattle.ksql_place.specs.declared.change.SourceRecord.{SourceRecord}
use Rattle.topic_files.specs.Printed.{comma_joined, printed}
use Rattle.topic_log.specs.Views.{EachAt}

-- values separated by commas
unfoldable pub cells_text : List Value → List ℕ
cells_text cells = comma_joined (map printed cells)

-- a key, as JSON: null, the value of one column, or an array of several
unfoldable pub key_text : List Value → List ℕ
key_text [] = codes "null"
key_text (cell ∷ []) = printed cell
key_text (first ∷ second ∷ cells) = codes "[" ++ (cells_text (first ∷ second ∷ cells) ++ codes "]")

-- the window of a change, if it has one
unfoldable pub span_text : Option Span → List ℕ
span_text None = []
span_text (Some span) = codes ",\"w\":[" ++ (decimal span.start ++ (codes "," ++ (decimal span.end ++ codes "]")))

-- a row, or null if it is gone
unfoldable pub row_text : (List Value → List ℕ) → Option (List Value) → List ℕ
row_text print None = codes "null"
row_text print (Some row) = print row

-- What is shown of a change: its partition, its time, its key and window, and the row that it leaves, if any.
pub record Shown : Type 0 where
  pub part : ℕ
  pub time : ℕ
  pub key : List Value
  pub span : Option Span
  pub row : Option (List Value)

-- what is shown of a change in a partition
abbrev pub shown_in : ℕ → Change → Shown
shown_in part c = record { part = part; time = c.time; key = c.key; span = c.span; row = row_in c.body }

-- time, key, window and value, up to the end of the line
unfoldable pub fields_text : (List Value → List ℕ) → Shown → List ℕ
fields_text print shown =
    decimal shown.time
    ++ (codes ",\"k\":" ++ (key_text shown.key
    ++ (span_text shown.span
    ++ (codes ",\"v\":" ++ (row_text print shown.row
    ++ codes "}\n")))))

-- the start of the line of a change in a partition, up to its time
unfoldable pub start_text : ℕ → List ℕ
start_text part = codes "{\"p\":" ++ (decimal part ++ codes ",\"t\":")

-- texts that are the starts of lines, each at the number of its partition
abbrev pub AreStarts : {Z : Type 0} → List (String Z) → Type 0
AreStarts starts = EachAt (λ part start. string_bytes start ≡ start_text part) starts

-- the line of a change
unfoldable pub change_line : (List Value → List ℕ) → Shown → List ℕ
change_line print shown = codes "{\"p\":" ++ (decimal shown.part ++ (codes ",\"t\":" ++ fields_text print shown))

-- the line of a row of a table
unfoldable pub row_line : (List Value → List ℕ) → Shown → List ℕ
row_line print shown = codes "row {\"t\":" ++ fields_text print shown

-- the line of a record that was fed: feed, topic, partition, offset and time
unfoldable pub order_line : List ℕ → SourceRecord → List ℕ
order_line topic fed =
    decimal fed.stamp.feed ++ (codes " " ++ (topic
    ++ (codes " " ++ (decimal fed.stamp.part
    ++ (codes " " ++ (decimal fed.stamp.offset
    ++ (codes " " ++ (decimal fed.time ++ codes "\n"))))))))
