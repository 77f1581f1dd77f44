-- All partitions of a broker's topics.
use Rattle.std.proofs.Common.{◌≡◌, ap, ℕ, zero, suc, ◌<◌, List, [], ◌∷◌, length, arith}
use Rattle.std.proofs.lemmas.Option.{none-some}
use Rattle.std.specs.Prelude.{IsSome, Option, Some, unwrap_or}
use Rattle.ksql_types.specs.declared.topic.TopicSpec.{TopicSpec}
use Rattle.ksql_place.specs.Routing.{partitions_of}
use Rattle.topic_log.specs.Shelves.{part_at, topics_of}
use Rattle.topic_log.specs.declared.shelves.Shelves.{Shelves}
use Rattle.cluster_laws.specs.Rounds.{HasParts, count_at}

within : (topics : List TopicSpec) (i n : ℕ) → count_at topics i ≡ Some n → i < length topics
within [] i n at = absurd (none-some n at)
within (t ∷ ts) zero n at = omega arith
within (t ∷ ts) (suc i) n at = let rest : i < length ts = within ts i n at in omega (arith, rest)

-- a broker that has the partitions of each topic that is one
pub all-parts : (b : Shelves) → ((topic part : ℕ) → topic < length (topics_of b) → part < partitions_of (topics_of b) topic → IsSome (part_at b topic part)) → HasParts b
all-parts b has topic part n at low =
    let count : partitions_of (topics_of b) topic ≡ n = ap (λ (o : Option ℕ). unwrap_or o 1) at in
    has topic part (within (topics_of b) topic n at) (omega (arith, low, count))
