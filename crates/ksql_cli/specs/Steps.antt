-- The steps of a command and the files that they read.
use Rattle.std.specs.Prelude.{◌≡◌, ◌⊎◌, ◌≤◌, ℕ, List, [], ◌∷◌, ◌++◌, length, Some}
use Rattle.std.specs.List.{AllByRecursion}
use Rattle.ksql_types.specs.declared.relation.Relation.{Relation}
use Rattle.ksql_outside.specs.Outside.{read_bytes, JoinedLast}
use Rattle.topic_files.specs.declared.topic.Room.{Room}
use Rattle.topic_files.specs.File.{first_fault}
use Rattle.ksql_cli.specs.declared.status.Status.{Status}
use Rattle.ksql_cli.specs.declared.status.Status.TheVariants as ended
use Rattle.ksql_cli.specs.Command.{Files, topic_file, IsFirstBad, IsTopicDue}

-- the most bytes of a legal topic name
abbrev pub longest_topic : ℕ
longest_topic = 249

-- a relation whose topic file can be read and fed
pub record IsFeedable (relation : Relation) : Type 0 where
  pub short : length relation.topic ≤ longest_topic
  pub some : 1 ≤ relation.partitions
  pub few : relation.partitions ≤ 64

-- a read fault names the last name that joined
abbrev pub IsJoined : List (List ℕ) → List (List ℕ) → Status → Type 0
IsJoined old new (ended.ReadFault name) = JoinedLast old new name
IsJoined old new _ = Unit {0}

-- some names joined
abbrev pub HasGrown : List (List ℕ) → List (List ℕ) → Type 0
HasGrown old new = (names : List (List ℕ)) × (new ≡ old ++ names)

-- why a file wasn't read: this name joined the failed names, or memory is short
abbrev pub IsReadFailure : List (List ℕ) → List (List ℕ) → List ℕ → Status → Type 0
IsReadFailure old new name status = ((status ≡ ended.ReadFault name) × (new ≡ old ++ name ∷ [])) ⊎ (status ≡ ended.OutOfMemory)

-- why the topic file of a relation gave no records
abbrev pub IsFileFailure : List ℕ → Files → Room → Relation → List (List ℕ) → List (List ℕ) → Status → Type 0
IsFileFailure dir all room relation old new (ended.TopicFile topic line why) =
    (topic ≡ relation.topic) × ((file : List ℕ) × (read_bytes (topic_file dir relation) all ≡ Some file) × (first_fault room file ≡ Some (line, why)))
IsFileFailure dir all room relation old new (ended.ReadFault name) = (name ≡ topic_file dir relation) × (new ≡ old ++ name ∷ [])
IsFileFailure dir all room relation old new ended.OutOfMemory = Unit {0}
IsFileFailure dir all room relation old new _ = ⊥

-- why the topic files of relations gave no records
abbrev pub IsTopicFailure : List ℕ → Files → Room → List Relation → List (List ℕ) → List (List ℕ) → Status → Type 0
IsTopicFailure dir all room relations old new (ended.TopicFile topic line why) = IsFirstBad dir all room relations topic line why
IsTopicFailure dir all room relations old new (ended.ReadFault name) = IsTopicDue dir all room relations name × JoinedLast old new name
IsTopicFailure dir all room relations old new ended.OutOfMemory = Unit {0}
IsTopicFailure dir all room relations old new _ = ⊥

-- how the reading of topic files ends without records
abbrev pub IsTopicRefusal : Status → Type 0
IsTopicRefusal (ended.TopicFile topic line why) = Unit {0}
IsTopicRefusal (ended.ReadFault name) = Unit {0}
IsTopicRefusal ended.OutOfMemory = Unit {0}
IsTopicRefusal _ = ⊥

-- the names that joined are those of topic files that were due
abbrev pub AreTopicsDue : List ℕ → Files → Room → List Relation → List (List ℕ) → List (List ℕ) → Type 0
AreTopicsDue dir all room relations old new = (names : List (List ℕ)) × (new ≡ old ++ names) × AllByRecursion (IsTopicDue dir all room relations) names
