-- The tasks of a topology, and the number of rounds that a record takes from a source to the last topic (Kafka Streams
-- developer guide, "Architecture": as many tasks as partitions).
use Rattle.std.specs.Prelude.{ℕ, ◌+◌, ◌==◌, if◌then◌else◌, List, [], ◌∷◌, map, flat_map}
use Rattle.std.specs.List.{range_with_len}
use Rattle.ksql_types.specs.declared.relation.TaskName.{TaskName}
use Rattle.ksql_place.specs.Order.{greatest}
use Rattle.topology.specs.declared.topology.Sub.{Sub}

-- the tasks of a sub-topology: one for each partition
abbrev pub tasks_of_sub : Sub → List TaskName
tasks_of_sub s = map (λ part. record { sub = s.number; part = part }) (range_with_len 0 s.partitions)

-- the tasks of some sub-topologies
abbrev pub tasks_of : List Sub → List TaskName
tasks_of subs = flat_map tasks_of_sub subs

-- the number of sub-topologies on the longest path to a topic: one more than on the longest path to a topic that its
-- writer reads
abbrev pub with_depth : (ℕ → ℕ) → Sub → ℕ → ℕ
with_depth depth s topic = if topic == s.output then 1 + greatest (map (λ input. depth input.topic) s.inputs) else depth topic

unfoldable pub depth_after : (ℕ → ℕ) → List Sub → ℕ → ℕ
depth_after depth [] = depth
depth_after depth (s ∷ ss) = depth_after (with_depth depth s) ss

-- the chain of a topology: the number of sub-topologies on its longest path from topic to topic
abbrev pub chain_of : List Sub → ℕ
chain_of subs = greatest (map (λ s. depth_after (λ topic. 0) subs s.output) subs)
