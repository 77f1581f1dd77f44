use Rattle.std.proofs.Common.{List, [], ◌∷◌, ◌++◌, subst, sym}
use Rattle.ksql_program.specs.declared.program.Item.{Item}
use Rattle.topic_files.specs.declared.topic.TopicLines.{TopicLines}
use Rattle.feed_laws.specs.Fitting.{AreFilesOf}
use Rattle.cluster_tests.proofs.Filing.{declared-last, started-last}
use Rattle.cluster_tests.proofs.files.push_file.Goals as goal

pub returns-in_ok-push-in-Declared : goal.returns-in_ok-push-in-Declared
returns-in_ok-push-in-Declared c = λ before fit.
    let files : List TopicLines = c.args.files.now.items in
    let file : TopicLines = c.in_ok-file-in-Declared.file in
    subst (λ (fs : List TopicLines). AreFilesOf (before ++ c.args.item.now ∷ []) fs) (sym c.in_ok-push-in-Declared.ensures.items)
    (subst (λ (i : Item). AreFilesOf (before ++ i ∷ []) (files ++ file ∷ [])) (sym c.in-Declared.is)
    (declared-last before files c.in-Declared.relation file fit c.in_ok-file-in-Declared.ensures))

pub returns-in-Started : goal.returns-in-Started
returns-in-Started c = λ before fit.
    subst (λ (i : Item). AreFilesOf (before ++ i ∷ []) c.args.files.now.items) (sym c.in-Started.is)
    (started-last before c.args.files.now.items c.in-Started.field-0 fit)
