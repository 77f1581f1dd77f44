-- The records of topic files when they are fed: the place of each, and the order of consumption (Kafka Streams
-- developer guide, "Partitions" and "Task assignment": records with the same key are in the same partition, in the
-- order of their offsets).
use Rattle.std.specs.Prelude.{ℕ, ◌+◌, List, [], ◌∷◌, ◌++◌, length, map, filter, take, drop, flat_map, ◌==◌}
use Rattle.std.specs.List.{range_with_len}
use Rattle.ksql_types.specs.Lane.{lane}
use Rattle.ksql_types.specs.declared.relation.Relation.{Relation}
use Rattle.ksql_place.specs.declared.change.SourceRecord.{SourceRecord}
use Rattle.ksql_place.specs.declared.order.PartTimes.{PartTimes}
use Rattle.ksql_place.specs.Ascending.{ascending}
use Rattle.ksql_place.specs.Order.{greatest, record_cmp}
use Rattle.topic_files.specs.declared.topic.Fed.{Fed}
use Rattle.topic_files.specs.declared.topic.TopicLines.{TopicLines}

-- the records of one partition
abbrev pub in_part : ℕ → List SourceRecord → List SourceRecord
in_part part records = filter (λ r. r.stamp.part == part) records

-- the records of one feed
abbrev pub in_feed : ℕ → List SourceRecord → List SourceRecord
in_feed feed records = filter (λ r. r.stamp.feed == feed) records

-- A record of a feed, after those of its topic fed before. Its partition is the lane of its key, or without a key that
-- of its number in the file. Offsets count from 0 in each partition, through all feeds. Its high is the greatest time
-- in its partition in this feed up to and including it.
abbrev pub fed_after : ℕ → Relation → List SourceRecord → Fed → SourceRecord
fed_after feed relation before fed =
    let part = lane fed.key relation.partitions (length before) in
    let others = in_part part before in
    record {
      stamp = record {
        feed = feed;
        high = greatest (map (λ r. r.time) (in_feed feed others) ++ fed.time ∷ []);
        topic = relation.number;
        part = part;
        offset = length others;
      };
      time = fed.time;
      key = fed.key;
      value = fed.value;
    }

-- the records that one feed brings, after those of the topic fed before
unfoldable pub fed_from : ℕ → Relation → List SourceRecord → List Fed → List SourceRecord
fed_from feed relation before [] = []
fed_from feed relation before (fed ∷ feds) =
    let r = fed_after feed relation before fed in
    r ∷ fed_from feed relation (before ++ r ∷ []) feds

-- the records of a topic after some more feeds, the first of which has this number; each takes this many of the file's
-- remaining records
unfoldable pub fed_in : Relation → List SourceRecord → ℕ → List ℕ → List Fed → List SourceRecord
fed_in relation before feed [] feds = before
fed_in relation before feed (n ∷ ns) feds = fed_in relation (before ++ fed_from feed relation before (take n feds)) (feed + 1) ns (drop n feds)

-- all records of the topics of some relations, one file for each; `counts` gives the number of a file's records that
-- each feed takes
abbrev pub all_fed : (Relation → List Fed → List ℕ) → List Relation → List TopicLines → List SourceRecord
all_fed counts (relation ∷ relations) (file ∷ files) = fed_in relation [] 1 (counts relation file.feds) file.feds ++ all_fed counts relations files
all_fed counts _ _ = []

-- the order of consumption: all records that were fed, ascending by stamp
abbrev pub order_of : (Relation → List Fed → List ℕ) → List Relation → List TopicLines → List SourceRecord
order_of counts relations files = ascending record_cmp (all_fed counts relations files)

-- one partition of a topic: the times of its records in a feed, whose offsets continue from those before
abbrev pub part_of : ℕ → Relation → List SourceRecord → List Fed → ℕ → PartTimes
part_of feed relation before feds part = record {
  topic = relation.number;
  part = part;
  first = length (in_part part before);
  times = map (λ r. r.time) (in_part part (fed_from feed relation before feds));
}

-- what one feed takes of a topic, after the records of it fed before
pub record Feeding : Type 0 where
  pub relation : Relation
  pub before : List SourceRecord
  pub feds : List Fed

-- the records that one feed brings to some topics
abbrev pub feed_of : ℕ → List Feeding → List SourceRecord
feed_of feed feedings = flat_map (λ f. fed_from feed f.relation f.before f.feds) feedings

-- all partitions of these topics in one feed
abbrev pub parts_of : ℕ → List Feeding → List PartTimes
parts_of feed feedings = flat_map (λ f. map (part_of feed f.relation f.before f.feds) (range_with_len 0 f.relation.partitions)) feedings
