-- Borrowed records and changes.
use Rattle.std.specs.Borrow.{Bor}
use Rattle.std.specs.Global.{Vec}
use Rattle.std.specs.Prelude.{ℕ, List, map, Bool, ◌&&◌, ◌==◌, is_some}
use Rattle.ksql_types.specs.declared.relation.Kind.TheVariants.{Stream}
use Rattle.ksql_place.specs.Said.{said_by}
use Rattle.ksql_place.specs.declared.change.Change.{Change}
use Rattle.ksql_place.specs.declared.change.SourceRecord.{SourceRecord}
use Rattle.run_text.specs.Shown.{Standing}
use Rattle.run_text.specs.declared.visible.LentChange.{LentChange}

-- borrowed records
abbrev pub records_lent : Vec (Bor SourceRecord) → List SourceRecord
records_lent records = map (λ r. r.now) records.items

-- a borrowed change, in its partition
abbrev pub standing_of : LentChange → Standing
standing_of lent = record { part = lent.part; change = lent.change.now }

-- changes of one partition
abbrev pub standing_in : ℕ → List Change → List Standing
standing_in part changes = map (λ c. record { part = part; change = c }) changes

-- whether a record brings a row to the stream of this topic
abbrev pub brings_row : ℕ → SourceRecord → Bool
brings_row number r = r.stamp.topic == number && is_some (said_by Stream r.key r.value)
