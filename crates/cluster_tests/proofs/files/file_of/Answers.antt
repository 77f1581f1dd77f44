use Rattle.std.proofs.Common.{subst, sym}
use Rattle.std.specs.Prelude.{All}
use Rattle.topic_files.specs.declared.topic.TopicLines.{TopicLines}
use Rattle.feed_laws.specs.Fitting.{IsFedOf}
use Rattle.feed_laws.proofs.FileRecords.{fits-file}
use Rattle.cluster_tests.proofs.files.file_of.Goals as goal

pub returns : goal.returns
returns c =
    subst (λ (file : TopicLines). All (IsFedOf c.args.relation.now) file.feds) (sym c.in_ok-read_topic.ensures.records)
    (fits-file c.args.relation.now c.as_bytes.result.now)
