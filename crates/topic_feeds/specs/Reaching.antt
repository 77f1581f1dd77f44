-- How far a topic has been fed.
use Rattle.std.specs.Prelude.{◌≡◌, ◌<◌, ℕ, List, length, get_or}
use Rattle.ksql_types.specs.declared.relation.Relation.{Relation}
use Rattle.ksql_place.specs.declared.change.SourceRecord.{SourceRecord}
use Rattle.topic_feeds.specs.declared.feeding.Reached.{Reached}
use Rattle.topic_feeds.specs.Feeding.{in_part}

-- a relation's topic has been fed these records so far: their number, in all and in each partition
pub record Reaches (relation : Relation) (before : List SourceRecord) (reached : Reached) : Type 0 where
  pub count : reached.count ≡ length before
  pub long : length reached.parts.items ≡ relation.partitions
  pub each : (part d : ℕ) → part < relation.partitions → get_or reached.parts.items part d ≡ length (in_part part before)
