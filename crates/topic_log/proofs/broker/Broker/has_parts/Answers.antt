use Rattle.std.proofs.Common.{ℕ, ◌<◌, length, subst}
use Rattle.std.specs.Prelude.{IsSome}
use Rattle.ksql_place.specs.Routing.{partitions_of}
use Rattle.topic_log.specs.declared.shelves.Shelves.{Shelves}
use Rattle.topic_log.specs.Shelves.{part_at, topics_of}
use Rattle.topic_log.proofs.Read.{all-there}
use Rattle.topic_log.proofs.broker.Broker.has_parts.Goals as goal

pub returns : goal.returns
returns c =
    subst (λ (s : Shelves). (topic part : ℕ) → topic < length (topics_of s) → part < partitions_of (topics_of s) topic → IsSome (part_at s topic part)) c.self.view_is
    (all-there c.self.inside.inner c.self.invariant.0)
