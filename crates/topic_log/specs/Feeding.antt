-- What a feed of records adds to partitions.
use Rattle.std.specs.Prelude.{◌≡◌, ℕ, ◌+◌, ◌≤◌, List, ◌++◌, length, filter, IfSome, IsSome, option_and_then, slice_get, vec_capacity}
use Rattle.ksql_place.specs.Ascending.{Rises}
use Rattle.ksql_place.specs.Order.{record_cmp}
use Rattle.ksql_place.specs.declared.change.SourceRecord.{SourceRecord}
use Rattle.core_state.specs.State.{is_in}
use Rattle.topic_log.specs.declared.shelves.PartShelf.{PartShelf}
use Rattle.topic_log.specs.declared.shelves.TopicShelf.{TopicShelf}
use Rattle.topic_log.specs.Views.{EachAt}

-- for each partition of each topic, those of the records that are in it rise
abbrev pub RiseApart : List SourceRecord → Type 0
RiseApart records = (topic q : ℕ) → Rises record_cmp (filter (is_in topic q) records)

-- the number of records in a partition of a topic
abbrev pub count_in : ℕ → ℕ → List SourceRecord → ℕ
count_in topic q records = length (filter (is_in topic q) records)

-- the partition of a record exists
abbrev pub IsThere : List TopicShelf → SourceRecord → Type 0
IsThere topics r = IsSome (option_and_then (λ t. slice_get t.parts.items r.stamp.part) (slice_get topics r.stamp.topic))

-- for each partition of a topic there is a number: that of the records in it
pub record IsCounted (topic : ℕ) (records : List SourceRecord) (t : TopicShelf) (counts : List ℕ) : Type 0 where
  pub len : length counts ≡ length t.parts.items
  pub each : EachAt (λ q count. count ≡ count_in topic q records) counts

-- a partition has room to show n more records
abbrev pub HasShownRoom : ℕ → PartShelf → Type 0
HasShownRoom more part = length part.fed.items + more ≤ vec_capacity part.fed

-- With the remaining records, a partition shows what it showed before and all records for it, and has room for them.
-- What waits is unchanged.
pub record WillShow (all rest : List SourceRecord) (topic q : ℕ) (was now : PartShelf) : Type 0 where
  pub fed : now.fed.items ++ filter (is_in topic q) rest ≡ was.fed.items ++ filter (is_in topic q) all
  pub said : now.said ≡ was.said
  pub waiting : now.waiting ≡ was.waiting
  pub room : HasShownRoom (count_in topic q rest) now

-- each partition of a topic does, and the rest of the topic is unchanged
pub record TopicWillShow (all rest : List SourceRecord) (topic : ℕ) (was now : TopicShelf) : Type 0 where
  pub spec : now.spec ≡ was.spec
  pub tasks : now.tasks ≡ was.tasks
  pub len : length now.parts.items ≡ length was.parts.items
  pub parts : EachAt (λ q part. IfSome (slice_get was.parts.items q) (λ old. WillShow all rest topic q old part)) now.parts.items

-- each topic does
pub record WillShowAll (all rest : List SourceRecord) (was now : List TopicShelf) : Type 0 where
  pub len : length now ≡ length was
  pub topics : EachAt (λ topic t. IfSome (slice_get was topic) (λ old. TopicWillShow all rest topic old t)) now
