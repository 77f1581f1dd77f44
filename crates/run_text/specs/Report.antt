-- The report on the relations of a program, and its summary.
use Rattle.std.specs.Prelude.{ℕ, ◌≤◌, List, [], ◌∷◌, ◌++◌, length, map, filter, flat_map, count_by, codes, decimal, Bool, true, false, ◌&&◌, if◌then◌else◌, Option, None, Some, slice_get, is_some}
use Rattle.std.specs.List.{list_any}
use Rattle.std.specs.Option.{option_cmp, option_map_or}
use Rattle.std.specs.Cmp.Lexicographic.{slice_cmp}
use Rattle.std.specs.declared.cmp.Ordering.{Ordering}
use Rattle.std.specs.Ordering.{nat_cmp, ordering_then}
use Rattle.ksql_types.specs.Order.{value_cmp}
use Rattle.ksql_types.specs.declared.relation.Kind.{Kind}
use Rattle.ksql_types.specs.declared.relation.Kind.TheVariants as kinds
use Rattle.ksql_types.specs.declared.relation.Relation.{Relation}
use Rattle.ksql_types.specs.declared.relation.Span.{Span}
use Rattle.ksql_types.specs.declared.value.Value.{Value}
use Rattle.ksql_types.specs.declared.value.Value.TheVariants.{Null, Int, Big, Txt, Bool as Truth}
use Rattle.ksql_place.specs.Ascending.{ascending}
use Rattle.ksql_place.specs.Said.{is_skipped}
use Rattle.ksql_place.specs.declared.change.Change.{Change}
use Rattle.ksql_place.specs.declared.change.SourceRecord.{SourceRecord}
use Rattle.ksql_nodes.specs.Entries.{is_same_key}
use Rattle.ksql_nodes.specs.Windows.{is_same_span}
use Rattle.query_meaning.specs.Meaning.{partition_of}
use Rattle.topic_files.specs.Printed.{value_text}
use Rattle.run_text.specs.Printed.{change_line, order_line, row_line, shown_in, Shown}

-- a relation whose report can be written: it has 1 to 64 partitions
pub record IsPrintable (relation : Relation) : Type 0 where
  pub some : 1 ≤ relation.partitions
  pub few : relation.partitions ≤ 64

-- ---- what is shown of a relation

-- the feed up to which a relation is shown, how many of its records were skipped, and its changes
pub record Section : Type 0 where
  pub relation : Relation
  pub closed : ℕ
  pub skipped : ℕ
  pub shown : List Shown

-- how many of some records of a relation's topic were skipped
abbrev pub skipped_of : Relation → List SourceRecord → ℕ
skipped_of relation order = count_by (is_skipped relation) order

-- what is shown of a relation up to a feed, given the records up to there and its changes in their partitions
unfoldable pub section_of : ℕ → Relation → List SourceRecord → List Shown → Section
section_of closed relation order shown = record { relation = relation; closed = closed; skipped = skipped_of relation order; shown = shown }

-- the changes that a relation means, each in the partition of its key's lane, or without a key in that of its record
abbrev pub meant : Relation → List Change → List Shown
meant relation changes = map (λ c. shown_in (partition_of relation c) c) changes

-- ---- the rows of a table

-- whether two changes have the same window, or both none
abbrev pub is_same_window : Option Span → Option Span → Bool
is_same_window None None = true
is_same_window (Some a) (Some b) = is_same_span a b
is_same_window _ _ = false

-- whether two changes are of the same row: key and window are equal
abbrev pub is_same_row : Shown → Shown → Bool
is_same_row a b = is_same_key a.key b.key && is_same_window a.span b.span

-- the latest change of each row
abbrev pub latest_of : List Shown → List Shown
latest_of [] = []
latest_of (a ∷ later) = if list_any (is_same_row a) later then latest_of later else a ∷ latest_of later

-- the rank of a value's type among the types
abbrev pub rank : Value → ℕ
rank Null = 0
rank (Int n) = 1
rank (Big n) = 2
rank (Txt bytes) = 3
rank (Truth b) = 4

-- values compare by type, and those of the same type as in keys
abbrev pub cell_cmp : Value → Value → Ordering
cell_cmp a b = ordering_then (nat_cmp (rank a) (rank b)) (value_cmp a b)

-- windows compare by start, then by end
abbrev pub span_cmp : Span → Span → Ordering
span_cmp a b = ordering_then (nat_cmp a.start b.start) (nat_cmp a.end b.end)

-- rows compare by key, then by window; no window comes first
abbrev pub row_cmp : Shown → Shown → Ordering
row_cmp a b = ordering_then (slice_cmp cell_cmp a.key b.key) (option_cmp span_cmp a.span b.span)

-- the rows that a table has after its changes, by key and window
unfoldable pub rows_of : List Shown → List Shown
rows_of shown = ascending row_cmp (filter (λ s. is_some s.row) (latest_of shown))

-- the rows of a relation that is a table; a stream has none
abbrev pub table_rows : Kind → List Shown → List Shown
table_rows kinds.Stream shown = []
table_rows _ shown = rows_of shown

-- ---- the text

-- the kind of a relation, in a word
abbrev pub kind_text : Kind → List ℕ
kind_text kinds.Stream = codes "stream"
kind_text kinds.Table = codes "table"
kind_text kinds.Windowed = codes "windowed"

-- where a relation comes from, its last feed shown and, if it is declared, how many records were skipped
unfoldable pub origin_text : Bool → ℕ → ℕ → List ℕ
origin_text true closed skipped = codes " declared c=" ++ (decimal closed ++ (codes " skipped=" ++ decimal skipped))
origin_text false closed skipped = codes " query c=" ++ decimal closed

-- the number of rows, for a table alone
unfoldable pub count_text : Kind → List Shown → List ℕ
count_text kinds.Stream rows = []
count_text _ rows = codes " rows=" ++ decimal (length rows)

-- the head line of a relation
unfoldable pub head_line : Section → List ℕ
head_line s =
    kind_text s.relation.kind ++ (codes " " ++ (s.relation.name
    ++ (origin_text s.relation.declared s.closed s.skipped
    ++ (codes " changes=" ++ (decimal (length s.shown) ++ (count_text s.relation.kind (rows_of s.shown) ++ codes "\n"))))))

-- the lines of the rows, for a table alone
unfoldable pub row_lines : Section → List ℕ
row_lines s = flat_map (row_line (value_text s.relation)) (table_rows s.relation.kind s.shown)

-- a relation's head line, the lines of its changes and those of its rows
unfoldable pub section_text : Section → List ℕ
section_text s = head_line s ++ (flat_map (change_line (value_text s.relation)) s.shown ++ row_lines s)

-- the name of the topic of the relation with this number
abbrev pub topic_name : List Relation → ℕ → List ℕ
topic_name relations number = option_map_or (λ relation. relation.topic) (slice_get relations number) []

-- the line of a record that was fed, among these relations
unfoldable pub fed_line : List Relation → SourceRecord → List ℕ
fed_line relations fed = order_line (topic_name relations fed.stamp.topic) fed

-- the order of consumption: its length and a line per record
unfoldable pub order_text : List Relation → List SourceRecord → List ℕ
order_text relations order =
    codes "order " ++ (decimal (length order) ++ (codes "\n" ++ flat_map (fed_line relations) order))

-- the report: the order of consumption, each section, the trace, and the last line
unfoldable pub report : List Relation → List SourceRecord → List Section → List ℕ → List ℕ
report relations order sections trace =
    order_text relations order ++ (flat_map section_text sections ++ (trace ++ codes "end\n"))

-- ---- the summary

-- the lines of a section's rows in a summary: those of a table without windows
abbrev pub summary_rows : Kind → Section → List ℕ
summary_rows kinds.Table s = row_lines s
summary_rows _ s = []

-- a relation's head line and, for a table without windows, the lines of its rows
unfoldable pub summary_text : Section → List ℕ
summary_text s = head_line s ++ summary_rows s.relation.kind s

-- the summary: that of each section, and the last line
unfoldable pub summary : List Section → List ℕ
summary sections = flat_map summary_text sections ++ codes "end\n"
