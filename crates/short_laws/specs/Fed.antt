-- What is known about the records that are fed.
use Rattle.std.specs.Prelude.{◌≡◌, List, All, Some}
use Rattle.ksql_types.specs.Lane.{lane}
use Rattle.ksql_types.specs.declared.relation.Relation.{Relation}
use Rattle.ksql_place.specs.Ascending.{Rises}
use Rattle.ksql_place.specs.Order.{record_cmp}
use Rattle.ksql_place.specs.declared.change.SourceRecord.{SourceRecord}
use Rattle.ksql_program.specs.Program.{relation_at}
use Rattle.ksql_program.specs.declared.program.Item.{Item}
use Rattle.meaning_laws.specs.Bounds.{IsRecordOf}

-- a record is in the partition of its key, or without a key in any partition of its topic
abbrev pub IsInItsPartition : List Item → SourceRecord → Type 0
IsInItsPartition items source = (r : Relation) → relation_at items source.stamp.topic ≡ Some r → source.stamp.part ≡ lane source.key r.partitions source.stamp.part

-- records in the order of consumption, with keys and rows of their relations' columns, in their partitions
pub record IsFed (items : List Item) (order : List SourceRecord) : Type 0 where
  pub rises : Rises record_cmp order
  pub columns : All (IsRecordOf items) order
  pub placed : All (IsInItsPartition items) order
