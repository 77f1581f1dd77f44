-- The keys of a table that have a row, and the lines of its changes.
use Rattle.std.specs.Prelude.{◌≡◌, ℕ, List, Bool, map, is_some}
use Rattle.std.specs.Cmp.Lexicographic.{slice_cmp}
use Rattle.std.specs.Ordering.{is_eq}
use Rattle.indexmap.specs.IndexSet.{IndexSet, contains}
use Rattle.ksql_types.specs.declared.relation.Kind.TheVariants.{Table}
use Rattle.ksql_place.specs.declared.change.Change.{Change}
use Rattle.ksql_place.specs.declared.change.SourceRecord.{SourceRecord}
use Rattle.ksql_nodes.specs.Entries.{Entry, from_side, of_key, row_after}
use Rattle.query_meaning.specs.Parts.{changes_by, said_to}
use Rattle.run_text.specs.Lines.{shown_of}
use Rattle.run_text.specs.Printed.{Shown, shown_in}
use Rattle.run_text.specs.Report.{cell_cmp}
use Rattle.run_text.specs.declared.declared.TableLines.{TableLines}
use Rattle.run_text.specs.declared.row_keys.LentKey.{LentKey}

-- keys are equal if all their values are
abbrev pub is_equal_key : LentKey → LentKey → Bool
is_equal_key a b = is_eq (slice_cmp cell_cmp a.cells.now b.cells.now)

-- the keys are those that have a row after some entries
abbrev pub AreRowKeys : {S : Type 0} → IndexSet LentKey S → List Entry → Type 0
AreRowKeys keys es = (key : LentKey) → contains is_equal_key keys key ≡ is_some (row_after (of_key key.cells.now es))

-- changes, each in its record's partition
abbrev pub as_fed : List Change → List Shown
as_fed changes = map (λ c. shown_in c.place.stamp.part c) changes

-- the lines of a table's changes on some records, and the keys that have a row after these
pub record AreTableLines (number : ℕ) (order : List SourceRecord) (t : TableLines) : Type 0 where
  pub lines : map shown_of t.lines.items ≡ as_fed (changes_by Table number order)
  pub rows : AreRowKeys t.rows (from_side 0 (said_to Table number order))
