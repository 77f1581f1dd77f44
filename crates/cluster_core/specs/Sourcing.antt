-- Sources as they are built, and as a feed takes records from them.
use Rattle.std.specs.Prelude.{◌≡◌, List, ◌++◌}
use Rattle.std.specs.List.{AllZip}
use Rattle.ksql_program.specs.declared.program.Item.{Item}
use Rattle.topic_files.specs.declared.topic.TopicLines.{TopicLines}
use Rattle.feed_laws.specs.Feeds.{Source, sources_of}
use Rattle.feed_laws.specs.Fitting.{AreFilesOf}
use Rattle.cluster_core.specs.Cluster.{IsKept}
use Rattle.cluster_core.specs.declared.sources.Source.{Source as Kept}

-- the sources of the earlier items are built, and these items and files remain
pub record AreBuilt (items : List Item) (files : List TopicLines) (kept : List Kept) (rest : List Item) (left : List TopicLines) : Type 0 where
  pub before : List Source
  pub each : AllZip IsKept kept before
  pub whole : before ++ sources_of rest left ≡ sources_of items files
  pub fits : AreFilesOf rest left
