use Rattle.std.proofs.Common.{rules, List, IfSome, subst, sym}
use Rattle.ksql_types.specs.declared.relation.Relation.{Relation}
use Rattle.ksql_cli.specs.Command.{topic_file}
use Rattle.ksql_cli.specs.Run.{declared_of}
use Rattle.ksql_cli.specs.Steps.{AreTopicsDue}
use Rattle.ksql_cli.proofs.TopicLaws.{all_caused, all_due, all_found, all_joined, declared_first, declared_later, rest_feedable, rest_of}
use Rattle.ksql_cli.proofs.topics.+read_topics.Goals as goal

pub read_topics-requires-2 : goal.read_topics-requires-2
read_topics-requires-2 g t c κs within =
    let first = declared_first c.args.items.now c.first-item.result c.in-Declared.relation c.in-len1-up.len_at_least c.first-item.is c.in-Declared.is in (
      search rules,
      (
        search rules,
        (
          rest_feedable c.in-Declared.relation (declared_of (rest_of c.args.items.now)) (declared_of c.args.items.now) first c.requires.1.1.1.0,
          (c.requires.1.1.1.1.0, (c.in_ok-reading.ensures.few, c.in_ok-reading.ensures.short)),
        ),
      ),
    )

pub returns-clause-found : goal.returns-clause-found
returns-clause-found g t c =
    all_found c.args.dir.now c.read_topics-2.result (λ read. read.items) (g.F.Folder.files c.args.folder.now) (g.F.Folder.files c.with_topic.new.folder)
    c.args.reading.room c.in_ok-reading.reading.room c.in-Declared.relation (declared_of (rest_of c.args.items.now)) (declared_of c.args.items.now)
    c.args.reading.files.items c.in_ok-reading.reading.files.items
    (declared_first c.args.items.now c.first-item.result c.in-Declared.relation c.in-len1-up.len_at_least c.first-item.is c.in-Declared.is)
    c.in_ok-reading.ensures.same_files c.in_ok-reading.ensures.found c.read_topics-2.ensures.found

pub returns-clause-cause : goal.returns-clause-cause
returns-clause-cause g t c =
    all_caused c.args.dir.now c.read_topics-2.result (g.F.Folder.files c.args.folder.now) (g.F.Folder.files c.with_topic.new.folder)
    c.args.reading.room c.in_ok-reading.reading.room c.in-Declared.relation (declared_of (rest_of c.args.items.now)) (declared_of c.args.items.now)
    c.args.reading.files.items c.in_ok-reading.reading.files.items
    (g.F.Folder.failed c.args.folder.now) (g.F.Folder.failed c.with_topic.new.folder) (g.F.Folder.failed c.read_topics-2.new.folder)
    (declared_first c.args.items.now c.first-item.result c.in-Declared.relation c.in-len1-up.len_at_least c.first-item.is c.in-Declared.is)
    c.in_ok-reading.ensures.same_files c.in_ok-reading.ensures.found c.in_ok-reading.ensures.grows c.read_topics-2.ensures.cause

pub returns-clause-joined : goal.returns-clause-joined
returns-clause-joined g t c =
    all_joined c.read_topics-2.result (g.F.Folder.failed c.args.folder.now) (g.F.Folder.failed c.with_topic.new.folder) (g.F.Folder.failed c.read_topics-2.new.folder)
    (topic_file c.args.dir.now c.in-Declared.relation) c.in_ok-reading.ensures.grows c.read_topics-2.ensures.joined

pub returns-clause-reads : goal.returns-clause-reads
returns-clause-reads g t c =
    all_due c.args.dir.now (g.F.Folder.files c.args.folder.now) (g.F.Folder.files c.with_topic.new.folder)
    c.args.reading.room c.in_ok-reading.reading.room c.in-Declared.relation (declared_of (rest_of c.args.items.now)) (declared_of c.args.items.now)
    c.args.reading.files.items c.in_ok-reading.reading.files.items
    (g.F.Folder.failed c.args.folder.now) (g.F.Folder.failed c.with_topic.new.folder) (g.F.Folder.failed c.read_topics-2.new.folder)
    (declared_first c.args.items.now c.first-item.result c.in-Declared.relation c.in-len1-up.len_at_least c.first-item.is c.in-Declared.is)
    c.in_ok-reading.ensures.same_files c.in_ok-reading.ensures.found c.in_ok-reading.ensures.grows c.read_topics-2.ensures.reads

pub returns-in_default-first-clause-reads : goal.returns-in_default-first-clause-reads
returns-in_default-first-clause-reads g t c =
    subst
    (λ (rs : List Relation). IfSome (g.F.Folder.files c.args.folder.now)
    (λ all. AreTopicsDue c.args.dir.now all c.args.reading.room rs (g.F.Folder.failed c.args.folder.now) (g.F.Folder.failed c.read_topics.new.folder)))
    (sym (declared_later c.args.items.now c.first-item.result c.in_default-first.field-0 c.in-len1-up.len_at_least c.first-item.is c.in_default-first.is))
    c.read_topics.ensures.reads
