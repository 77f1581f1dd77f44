use Rattle.std.proofs.Common.{◌∙◌, ◌++◌, ap, subst, sym, List, ℕ, codes}
use Rattle.std.specs.Prelude.{All}
use Rattle.std.proofs.lemmas.Result.{IfOk-weaker}
use Rattle.topic_files.specs.declared.topic.TopicLines.{TopicLines}
use Rattle.feed_laws.specs.Fitting.{IsFedOf}
use Rattle.feed_laws.proofs.FileRecords.{fits-file}
use Rattle.ksql_cli.proofs.Causes.{due_short}
use Rattle.ksql_cli.proofs.topics.with_topic.Goals as goal

pub due_file-requires : goal.due_file-requires
due_file-requires g c =
    due_short c.args.dir.now c.args.relation.now.topic c.as_str.result.now
    (c.as_str.ensures.value ∙ c.in_ok-name.ensures.ok ∙ ap (λ (topic : List ℕ). c.args.dir.now ++ (codes "/" ++ (topic ++ codes ".jsonl"))) c.items-topic.ensures.value)
    c.requires.short_dir c.requires.feedable.short

pub returns-in-Ok-clause-fits : goal.returns-in-Ok-clause-fits
returns-in-Ok-clause-fits g c =
    let lines : TopicLines = c.in-Ok.lines in
    let fits : All (IsFedOf c.args.relation.now) lines.feds =
    subst (λ (file : TopicLines). All (IsFedOf c.args.relation.now) file.feds) (sym c.in-Ok.ensures.records)
    (fits-file c.args.relation.now c.as_slice.result.now) in
    IfOk-weaker c.with_lines.result _ _ (λ read is. (lines, fits, is)) c.with_lines.ensures.files
