-- The records that a feed brings.
use Rattle.std.proofs.Common.{◌≡◌, ap, refl, ℕ, List, [], ◌∷◌, ◌++◌, length, arith}
use Rattle.std.specs.List.{All, AllByRecursion}
use Rattle.std.proofs.Math.Seq.{take-length}
use Rattle.std.proofs.lemmas.List.Elements.{All-from_recursion}
use Rattle.ksql_types.specs.declared.relation.Relation.{Relation}
use Rattle.ksql_place.specs.declared.change.SourceRecord.{SourceRecord}
use Rattle.topic_files.specs.declared.topic.Fed.{Fed}
use Rattle.topic_feeds.specs.Feeding.{fed_after, fed_from, fed_in}

-- one for each line
pub fed-length : (feed : ℕ) (relation : Relation) (before : List SourceRecord) (feds : List Fed) → length (fed_from feed relation before feds) ≡ length feds
unfolding fed_from
fed-length feed relation before [] = refl
fed-length feed relation before (fed ∷ feds) = omega (arith, fed-length feed relation (before ++ fed_after feed relation before fed ∷ []) feds)

-- each is of this feed
pub fed-feed : (feed : ℕ) (relation : Relation) (before : List SourceRecord) (feds : List Fed) → All (λ r. r.stamp.feed ≡ feed) (fed_from feed relation before feds)
unfolding fed_from
fed-feed feed relation before feds = All-from_recursion (λ (r : SourceRecord). r.stamp.feed ≡ feed) (fed_from feed relation before feds) (each before feds)
  where
    each : (earlier : List SourceRecord) (left : List Fed) → AllByRecursion (λ (r : SourceRecord). r.stamp.feed ≡ feed) (fed_from feed relation earlier left)
    each earlier [] = tt
    each earlier (fed ∷ left) = (refl, each (earlier ++ fed_after feed relation earlier fed ∷ []) left)

-- each is of the relation's topic
pub fed-topic : (feed : ℕ) (relation : Relation) (before : List SourceRecord) (feds : List Fed) → All (λ r. r.stamp.topic ≡ relation.number) (fed_from feed relation before feds)
unfolding fed_from
fed-topic feed relation before feds = All-from_recursion (λ (r : SourceRecord). r.stamp.topic ≡ relation.number) (fed_from feed relation before feds) (each before feds)
  where
    each : (earlier : List SourceRecord) (left : List Fed) → AllByRecursion (λ (r : SourceRecord). r.stamp.topic ≡ relation.number) (fed_from feed relation earlier left)
    each earlier [] = tt
    each earlier (fed ∷ left) = (refl, each (earlier ++ fed_after feed relation earlier fed ∷ []) left)

-- a topic whose file is fed all at once
pub fed_in-once : (relation : Relation) (feds : List Fed) → fed_in relation [] 1 (length feds ∷ []) feds ≡ fed_from 1 relation [] feds
unfolding fed_in
fed_in-once relation feds = ap (fed_from 1 relation []) (take-length feds)
