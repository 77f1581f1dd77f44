use Rattle.ksql_outside.specs.Outside.{Rose}
use Rattle.ksql_cli.specs.declared.status.Status.TheVariants as ended
use Rattle.command_line.specs.Words.{command_of}
use Rattle.ksql_cli.specs.Command.{HasCause, HasText, told}
use Rattle.ksql_cli.specs.Fault.{fault_line}
use Rattle.ksql_cli.proofs.Causes.{complete_of, exact_done, exact_fault, exact_refusal, fault-cause, front_written, wrote_either}
use Rattle.ksql_cli.proofs.SomeStatus.{told_status}
use Rattle.ksql_cli.proofs.Stages.{when-known}
use Rattle.ksql_cli.proofs.headline.ksql.Goals as goal

pub returns-in-Ok-write_whole-clause-exact : goal.returns-in-Ok-write_whole-clause-exact
returns-in-Ok-write_whole-clause-exact g c =
    exact_done (told c.args.words.now (g.F.Folder.files c.args.folder.now)) c.args.words.now (g.F.Folder.failed c.args.folder.now) (g.F.Folder.failed c.whole_text.new.folder)
    (¬ Rose (g.K.Sink.faults c.args.out.now) (g.K.Sink.faults c.write_whole.new.out)) c.in-Ok.finished.text.items c.in-Ok.ensures.text

pub returns-in-Ok-clause-exact : goal.returns-in-Ok-clause-exact
returns-in-Ok-clause-exact g c =
    exact_fault (told c.args.words.now (g.F.Folder.files c.args.folder.now)) c.args.words.now (g.F.Folder.failed c.args.folder.now) (g.F.Folder.failed c.whole_text.new.folder)
    (Rose (g.K.Sink.faults c.args.out.now) (g.K.Sink.faults c.write_whole.new.out)) c.in-Ok.finished.text.items c.in-Err-write_whole.ensures.cause c.in-Ok.ensures.text

pub returns-in-Ok-clause-complete : goal.returns-in-Ok-clause-complete
returns-in-Ok-clause-complete g c =
    complete_of (told c.args.words.now (g.F.Folder.files c.args.folder.now)) c.args.words.now (g.F.Folder.failed c.args.folder.now) (g.F.Folder.failed c.whole_text.new.folder)
    (¬ Rose (g.K.Sink.faults c.args.out.now) (g.K.Sink.faults c.write_whole.new.out)) ended.WriteFault (returns-in-Ok-clause-exact g c)

pub returns-clause-exact : goal.returns-clause-exact
returns-clause-exact g c =
    exact_refusal (told c.args.words.now (g.F.Folder.files c.args.folder.now)) c.args.words.now (g.F.Folder.failed c.args.folder.now) (g.F.Folder.failed c.whole_text.new.folder)
    (¬ Rose (g.K.Sink.faults c.args.out.now) (g.K.Sink.faults c.write_fault.new.out)) c.in-Err.status c.in-Err.ensures.refusal c.in-Err.ensures.cause

pub returns-clause-complete : goal.returns-clause-complete
returns-clause-complete g c =
    complete_of (told c.args.words.now (g.F.Folder.files c.args.folder.now)) c.args.words.now (g.F.Folder.failed c.args.folder.now) (g.F.Folder.failed c.whole_text.new.folder)
    (¬ Rose (g.K.Sink.faults c.args.out.now) (g.K.Sink.faults c.write_fault.new.out)) c.in-Err.status (returns-clause-exact g c)

pub returns-in-Ok-write_whole-clause-decided : goal.returns-in-Ok-write_whole-clause-decided
returns-in-Ok-write_whole-clause-decided g c =
    told_status (told c.args.words.now (g.F.Folder.files c.args.folder.now)) c.args.words.now

pub returns-in-Ok-clause-decided : goal.returns-in-Ok-clause-decided
returns-in-Ok-clause-decided g c =
    told_status (told c.args.words.now (g.F.Folder.files c.args.folder.now)) c.args.words.now

pub returns-clause-decided : goal.returns-clause-decided
returns-clause-decided g c =
    told_status (told c.args.words.now (g.F.Folder.files c.args.folder.now)) c.args.words.now

pub returns-in-Ok-clause-prefix : goal.returns-in-Ok-clause-prefix
returns-in-Ok-clause-prefix g c = λ is.
    front_written (told c.args.words.now (g.F.Folder.files c.args.folder.now)) c.args.words.now (g.K.Sink.written c.args.out.now) (g.K.Sink.written c.write_whole.new.out)
    c.in-Ok.finished.text.items c.as_slice.result.now c.as_slice.ensures.value c.in-Err-write_whole.ensures.prefix c.in-Ok.ensures.text

pub returns-clause-fault : goal.returns-clause-fault
returns-clause-fault g c = λ refusal.
    wrote_either c.write_fault.result (g.K.Sink.written c.args.out.now) (g.K.Sink.written c.write_fault.new.out) (fault_line c.in-Err.status)
    c.write_fault.ensures.whole c.write_fault.ensures.prefix

pub returns-in-Ok-clause-cause : goal.returns-in-Ok-clause-cause
returns-in-Ok-clause-cause g c =
    let old = g.F.Folder.failed c.args.folder.now in
    let new = g.F.Folder.failed c.whole_text.new.folder in
    when-known (λ all. HasText c.args.words.now all c.in-Ok.finished.text.items) (λ all. HasCause c.args.words.now all old new ended.WriteFault)
    (told c.args.words.now (g.F.Folder.files c.args.folder.now)) (λ all. fault-cause (command_of c.args.words.now) all old new c.in-Ok.finished.text.items) c.in-Ok.ensures.text
