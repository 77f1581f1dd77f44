use Rattle.std.proofs.Common.{◌∙◌, List, subst, sym}
use Rattle.std.proofs.lemmas.Result.{err_from_is_err_and}
use Rattle.std.specs.Prelude.{All, IfSome}
use Rattle.ksql_program.specs.declared.program.Item.{Item}
use Rattle.ksql_cli.specs.Command.{AreRead}
use Rattle.ksql_cli.specs.Run.{declared_of}
use Rattle.ksql_cli.specs.Stages.{AreDueIn, IsExpected}
use Rattle.ksql_cli.specs.Steps.{IsFeedable}
use Rattle.ksql_cli.proofs.Runs.{files-read, schedule-cause, schedule-due, topics-cause, topics-due}
use Rattle.ksql_cli.proofs.Sounds.{feedable}
use Rattle.ksql_cli.proofs.Stages.{grown-both, later-joined, may-grow}
use Rattle.ksql_cli.proofs.TopicLaws.{whole_few, whole_short}
use Rattle.ksql_cli.proofs.run.inputs_of.Given as given
use Rattle.ksql_cli.proofs.run.inputs_of.Goals as goal
use Rattle.ksql_cli.proofs.run.inputs_of.Goals.{After-schedule_of}

-- the files that were read before the schedule
fed : (g : given.Over) (c : After-schedule_of g) → IfSome (g.F.Folder.files c.args.folder.now) (λ all. AreRead c.args.asked.now all c.in_ok-program.program c.in_ok-files.files.items)
fed g c =
    files-read c.args.asked.now (g.F.Folder.files c.args.folder.now) c.in_ok-program.program c.items.result.now c.items.ensures.value c.in_ok-program.ensures.read
    (g.F.Folder.files c.accepted_program.new.folder) c.in_ok-program.ensures.same_files c.items-2.result.now c.items-2.ensures c.items-topics.result.now c.items-topics.ensures.value
    c.whole_room.result c.whole_room.ensures c.new.result.items c.in_ok-files.files.items c.new.ensures.items c.in_ok-files.ensures.found

-- what was due up to the schedule
due : (g : given.Over) (c : After-schedule_of g) → IsExpected c.args.asked.now.schedule (g.F.Folder.failed c.read_topics.new.folder) (g.F.Folder.failed c.schedule_of.new.folder)
    → IfSome (g.F.Folder.files c.args.folder.now) (λ all. AreDueIn c.args.asked.now all (g.F.Folder.failed c.args.folder.now) (g.F.Folder.failed c.schedule_of.new.folder))
due g c joined =
    schedule-due c.args.asked.now (g.F.Folder.files c.args.folder.now) c.in_ok-program.program c.in_ok-files.files.items
    (fed g c)
    (g.F.Folder.failed c.args.folder.now) (g.F.Folder.failed c.read_topics.new.folder) (g.F.Folder.failed c.schedule_of.new.folder)
    (topics-due c.args.asked.now (g.F.Folder.files c.args.folder.now) c.in_ok-program.program c.items.result.now c.items.ensures.value c.in_ok-program.ensures.read
    (g.F.Folder.files c.accepted_program.new.folder) c.in_ok-program.ensures.same_files c.items-2.result.now c.items-2.ensures c.items-topics.result.now c.items-topics.ensures.value
    c.whole_room.result c.whole_room.ensures (g.F.Folder.failed c.args.folder.now) (g.F.Folder.failed c.accepted_program.new.folder) (g.F.Folder.failed c.read_topics.new.folder)
    c.in_ok-program.ensures.grows c.in_ok-files.ensures.reads)
    joined

pub read_topics-requires-clause-feedable : goal.read_topics-requires-clause-feedable
read_topics-requires-clause-feedable g c =
    subst (λ (items : List Item). All IsFeedable (declared_of items)) (sym c.items-2.ensures) (feedable c.in_ok-program.program.items c.in_ok-program.ensures.sound)

pub read_topics-requires-clause-few : goal.read_topics-requires-clause-few
read_topics-requires-clause-few g c = whole_few c.whole_room.result c.whole_room.ensures

pub read_topics-requires-clause-short : goal.read_topics-requires-clause-short
read_topics-requires-clause-short g c = whole_short c.whole_room.result c.whole_room.ensures

pub returns-in_err-files-clause-cause : goal.returns-in_err-files-clause-cause
returns-in_err-files-clause-cause g c =
    let old = g.F.Folder.failed c.args.folder.now in
    let mid = g.F.Folder.failed c.accepted_program.new.folder in
    let p = err_from_is_err_and c.from_residual-in_err-files.result c.from_residual-in_err-files.ensures.1 in
    rw (p.1, p.2) (topics-cause c.args.asked.now (g.F.Folder.files c.args.folder.now) c.in_ok-program.program c.items.result.now c.items.ensures.value c.in_ok-program.ensures.read
    (g.F.Folder.files c.accepted_program.new.folder) c.in_ok-program.ensures.same_files c.items-2.result.now c.items-2.ensures c.items-topics.result.now c.items-topics.ensures.value
    c.whole_room.result c.whole_room.ensures old mid (g.F.Folder.failed c.read_topics.new.folder) c.in_err-files.field-0.0
    (may-grow old mid c.items.result.now c.in_ok-program.ensures.grows) c.in_err-files.ensures.cause)

pub returns-in_err-files-clause-joined : goal.returns-in_err-files-clause-joined
returns-in_err-files-clause-joined g c =
    let old = g.F.Folder.failed c.args.folder.now in
    let mid = g.F.Folder.failed c.accepted_program.new.folder in
    let p = err_from_is_err_and c.from_residual-in_err-files.result c.from_residual-in_err-files.ensures.1 in
    rw (p.1, p.2) (later-joined old mid (g.F.Folder.failed c.read_topics.new.folder) c.in_err-files.field-0.0 (may-grow old mid c.items.result.now c.in_ok-program.ensures.grows)
    c.in_err-files.ensures.joined)

pub returns-in_err-files-clause-reads : goal.returns-in_err-files-clause-reads
returns-in_err-files-clause-reads g c =
    topics-due c.args.asked.now (g.F.Folder.files c.args.folder.now) c.in_ok-program.program c.items.result.now c.items.ensures.value c.in_ok-program.ensures.read
    (g.F.Folder.files c.accepted_program.new.folder) c.in_ok-program.ensures.same_files c.items-2.result.now c.items-2.ensures c.items-topics.result.now c.items-topics.ensures.value
    c.whole_room.result c.whole_room.ensures (g.F.Folder.failed c.args.folder.now) (g.F.Folder.failed c.accepted_program.new.folder) (g.F.Folder.failed c.read_topics.new.folder)
    c.in_ok-program.ensures.grows c.in_err-files.ensures.reads

pub returns-in_err-schedule-clause-cause : goal.returns-in_err-schedule-clause-cause
returns-in_err-schedule-clause-cause g c =
    let old = g.F.Folder.failed c.args.folder.now in
    let mid = g.F.Folder.failed c.accepted_program.new.folder in
    let then = g.F.Folder.failed c.read_topics.new.folder in
    let p = err_from_is_err_and c.from_residual-in_err-schedule.result c.from_residual-in_err-schedule.ensures.1 in
    rw (p.1, p.2) (schedule-cause c.args.asked.now (g.F.Folder.files c.args.folder.now) c.in_ok-program.program c.in_ok-files.files.items
    (fed g (goal.at.returns-in_err-schedule-clause-cause g c).After-schedule_of)
    (g.F.Folder.files c.read_topics.new.folder) (c.in_ok-files.ensures.same_files ∙ c.in_ok-program.ensures.same_files)
    old then (g.F.Folder.failed c.schedule_of.new.folder) c.in_err-schedule.field-0.0
    (grown-both old mid then (may-grow old mid c.items.result.now c.in_ok-program.ensures.grows) c.in_ok-files.ensures.grows) c.in_err-schedule.ensures.cause)

pub returns-in_err-schedule-clause-joined : goal.returns-in_err-schedule-clause-joined
returns-in_err-schedule-clause-joined g c =
    let old = g.F.Folder.failed c.args.folder.now in
    let mid = g.F.Folder.failed c.accepted_program.new.folder in
    let then = g.F.Folder.failed c.read_topics.new.folder in
    let p = err_from_is_err_and c.from_residual-in_err-schedule.result c.from_residual-in_err-schedule.ensures.1 in
    rw (p.1, p.2) (later-joined old then (g.F.Folder.failed c.schedule_of.new.folder) c.in_err-schedule.field-0.0
    (grown-both old mid then (may-grow old mid c.items.result.now c.in_ok-program.ensures.grows) c.in_ok-files.ensures.grows) c.in_err-schedule.ensures.joined)

pub returns-in_err-schedule-clause-reads : goal.returns-in_err-schedule-clause-reads
returns-in_err-schedule-clause-reads g c = due g (goal.at.returns-in_err-schedule-clause-reads g c).After-schedule_of c.in_err-schedule.ensures.grows

pub returns-clause-reads : goal.returns-clause-reads
returns-clause-reads g c = due g (goal.at.returns-clause-reads g c).After-schedule_of c.in_ok-schedule.ensures.grows
