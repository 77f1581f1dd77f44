-- The partition of a topic that a change goes to (Kafka Streams developer guide, "Architecture": by its key).
use Rattle.std.specs.Prelude.{ℕ, ◌==◌, Bool, List, unwrap_or, option_map, slice_get}
use Rattle.std.specs.declared.cmp.Ordering.{Ordering}
use Rattle.ksql_types.specs.Lane.{lane}
use Rattle.ksql_types.specs.declared.topic.TopicSpec.{TopicSpec}
use Rattle.ksql_place.specs.Order.{place_cmp}
use Rattle.ksql_place.specs.declared.change.Change.{Change}

-- changes compare by their places
abbrev pub change_cmp : Change → Change → Ordering
change_cmp a b = place_cmp a.place b.place

-- whether a change goes to a partition among n: the lane of its key, or without a key that of its record
abbrev pub is_to : ℕ → ℕ → Change → Bool
is_to n part c = lane c.key n c.place.stamp.part == part

-- the number of partitions of a topic
abbrev pub partitions_of : List TopicSpec → ℕ → ℕ
partitions_of topics number = unwrap_or (option_map (λ t. t.partitions) (slice_get topics number)) 1
