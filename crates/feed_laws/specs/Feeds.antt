-- What feeds take from topic files, feed by feed.
use Rattle.std.specs.Prelude.{ℕ, List, [], ◌∷◌, ◌++◌, flat_map, take, drop}
use Rattle.ksql_types.specs.declared.relation.Relation.{Relation}
use Rattle.ksql_place.specs.Ascending.{ascending}
use Rattle.ksql_place.specs.Order.{record_cmp}
use Rattle.ksql_place.specs.declared.change.SourceRecord.{SourceRecord}
use Rattle.ksql_program.specs.declared.program.Item.{Item}
use Rattle.ksql_program.specs.declared.program.Item.TheVariants.{Declared, Started}
use Rattle.topic_files.specs.declared.topic.Fed.{Fed}
use Rattle.topic_files.specs.declared.topic.TopicLines.{TopicLines}
use Rattle.topic_feeds.specs.Feeding.{fed_from}

-- a declared relation's topic: the records that were fed to it, and the remaining ones of its file
pub record Source : Type 0 where
  pub relation : Relation
  pub before : List SourceRecord
  pub left : List Fed

-- the sources of a program before any feed, one file for each
abbrev pub sources_of : List Item → List TopicLines → List Source
sources_of (Declared r ∷ items) (file ∷ files) = record { relation = r; before = []; left = file.feds } ∷ sources_of items files
sources_of (Started q ∷ items) files = sources_of items files
sources_of _ _ = []

-- what one feed brings from a source: this many of its records, at most as many as remain
abbrev pub fed_of : ℕ → (Source → ℕ) → Source → List SourceRecord
fed_of feed count s = fed_from feed s.relation s.before (take (count s) s.left)

-- a source after a feed
abbrev pub after_feed : ℕ → (Source → ℕ) → Source → Source
after_feed feed count s = record s { before = s.before ++ fed_of feed count s; left = drop (count s) s.left }

-- the records of one feed, in the order of consumption
abbrev pub records_of : ℕ → (Source → ℕ) → List Source → List SourceRecord
records_of feed count sources = ascending record_cmp (flat_map (fed_of feed count) sources)
