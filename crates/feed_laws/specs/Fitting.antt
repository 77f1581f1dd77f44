-- Files and records that fit a program.
use Rattle.std.specs.Prelude.{◌≡◌, ◌≢◌, ℕ, ◌≤◌, ◌^◌, List, [], ◌∷◌, All, Some, true}
use Rattle.std.specs.List.{AllPairs}
use Rattle.ksql_types.specs.declared.relation.Relation.{Relation}
use Rattle.ksql_place.specs.declared.change.SourceRecord.{SourceRecord}
use Rattle.ksql_program.specs.declared.program.Item.{Item}
use Rattle.ksql_program.specs.declared.program.Item.TheVariants.{Declared, Started}
use Rattle.ksql_program.specs.Program.{relation_at}
use Rattle.meaning_laws.specs.Bounds.{IsDecodedOf, IsInTime, IsKeyOf}
use Rattle.short_laws.specs.Short.{HoldsInDecoded, IsProper, IsShortRecord, IsTextRecord}
use Rattle.topic_files.specs.declared.topic.Fed.{Fed}
use Rattle.topic_files.specs.declared.topic.TopicLines.{TopicLines}
use Rattle.short_laws.specs.Fed.{IsFed}
use Rattle.core_state.specs.Wired.{AreCounted}
use Rattle.feed_laws.specs.Feeds.{Source}

-- ---- files

-- a record of a file has a key and a row of its relation's columns, with short values, and a time of at most 2^53
pub record IsFedOf (r : Relation) (f : Fed) : Type 0 where
  pub key : IsKeyOf r.schema.keys f.key
  pub row : IsDecodedOf r.schema.values f.value
  pub proper_key : All IsProper f.key
  pub proper_row : HoldsInDecoded IsProper f.value
  pub time : f.time ≤ 2 ^ 53

-- there is one file for each declared relation, and its records fit
abbrev pub AreFilesOf : List Item → List TopicLines → Type 0
AreFilesOf (Declared r ∷ items) (file ∷ files) = All (IsFedOf r) file.feds × AreFilesOf items files
AreFilesOf (Started q ∷ items) files = AreFilesOf items files
AreFilesOf [] [] = Unit {0}
AreFilesOf _ _ = ⊥

-- ---- records

-- a record is in the topic of a declared relation
abbrev pub IsOfDeclared : List Item → SourceRecord → Type 0
IsOfDeclared items x = (r : Relation) × (relation_at items x.stamp.topic ≡ Some r) × (r.declared ≡ true)

-- records that a program can be fed: in the order of consumption, in their partitions of the topics of declared
-- relations, with short keys and rows of their columns, with times of at most 2^53, and of feeds from 1 on
pub record Fits (items : List Item) (order : List SourceRecord) : Type 0 where
  pub fed : IsFed items order
  pub declared : All (IsOfDeclared items) order
  pub in_time : All IsInTime order
  pub short : All IsShortRecord order
  pub text : All IsTextRecord order
  pub counted : AreCounted order

-- a source is a declared relation's; its remaining records fit, and the earlier ones are of feeds up to the last one
pub record IsSourceOf (items : List Item) (fed : ℕ) (s : Source) : Type 0 where
  pub relation : relation_at items s.relation.number ≡ Some s.relation
  pub declared : s.relation.declared ≡ true
  pub some : 1 ≤ s.relation.partitions
  pub few : s.relation.partitions ≤ 64
  pub left : All (IsFedOf s.relation) s.left
  pub before : All (λ r. r.stamp.feed ≤ fed) s.before

-- the sources of a program after n feeds, at most one for each relation
pub record AreSourcesOf (items : List Item) (fed : ℕ) (sources : List Source) : Type 0 where
  pub each : All (IsSourceOf items fed) sources
  pub apart : AllPairs (λ a b. a.relation.number ≢ b.relation.number) sources
