-- What the lines of a section show, and how much is written of a section.
use Rattle.std.specs.Prelude.{ℕ, List, Option, None, Some}
use Rattle.ksql_types.specs.declared.relation.Span.{Span}
use Rattle.ksql_types.specs.declared.value.Value.{Value}
use Rattle.ksql_place.specs.Said.{row_in}
use Rattle.ksql_place.specs.declared.change.Decoded.{Decoded}
use Rattle.ksql_place.specs.declared.change.Decoded.TheVariants.{Good}
use Rattle.ksql_place.specs.declared.change.SourceRecord.{SourceRecord}
use Rattle.run_text.specs.declared.line.Line.{Line}
use Rattle.run_text.specs.declared.line.Told.{Told}
use Rattle.run_text.specs.declared.line.Told.TheVariants.{Change, Record}
use Rattle.run_text.specs.declared.section.Extent.{Extent}
use Rattle.run_text.specs.declared.section.Extent.TheVariants.{Whole, Summary}
use Rattle.run_text.specs.Printed.{Shown}
use Rattle.run_text.specs.Report.{section_text, summary_text, Section}

-- the row that a record brings, if any
abbrev pub row_brought : Decoded → Option (List Value)
row_brought (Good row) = Some row
row_brought _ = None

-- what is shown of a record's change, in a partition
abbrev pub fed_in : ℕ → SourceRecord → Shown
fed_in part r = record { part = part; time = r.time; key = r.key; span = None; row = row_brought r.value }

-- the time of a change on a line
abbrev pub time_of : Told → ℕ
time_of (Change c) = c.now.time
time_of (Record r) = r.now.time

-- its key
abbrev pub key_of : Told → List Value
key_of (Change c) = c.now.key
key_of (Record r) = r.now.key

-- its window, if it has one
abbrev pub span_of : Told → Option Span
span_of (Change c) = c.now.span
span_of (Record r) = None

-- the row that it leaves, if any
abbrev pub row_of : Told → Option (List Value)
row_of (Change c) = row_in c.now.body
row_of (Record r) = row_brought r.now.value

-- what a line shows
abbrev pub shown_of : Line → Shown
shown_of line = record { part = line.part; time = time_of line.told; key = key_of line.told; span = span_of line.told; row = row_of line.told }

-- what is written of a section: all of it, or its summary
abbrev pub extent_text : Extent → Section → List ℕ
extent_text Whole s = section_text s
extent_text Summary s = summary_text s
