use Rattle.std.proofs.Common.{◌∙◌}
use Rattle.ksql_cli.proofs.Pieces.{whole-as, prefix-as, schedule_pieces}
use Rattle.ksql_cli.proofs.fault.write_schedule_line.Goals as goal

pub returns-clause-whole : goal.returns-clause-whole
returns-clause-whole g c =
    whole-as c.write_pieces.result (g.K.Sink.written c.args.out.now) (g.K.Sink.written c.write_pieces.new.out) _ _
    (schedule_pieces c.as_bytes-line.result.now c.as_bytes-why.result.now c.args.line c.args.why
    (c.as_bytes-line.ensures.value ∙ c.format.ensures.text) (c.as_bytes-why.ensures.value ∙ c.step_why_text.ensures))
    c.write_pieces.ensures.whole

pub returns-clause-prefix : goal.returns-clause-prefix
returns-clause-prefix g c =
    prefix-as c.write_pieces.result (g.K.Sink.written c.args.out.now) (g.K.Sink.written c.write_pieces.new.out) _ _
    (schedule_pieces c.as_bytes-line.result.now c.as_bytes-why.result.now c.args.line c.args.why
    (c.as_bytes-line.ensures.value ∙ c.format.ensures.text) (c.as_bytes-why.ensures.value ∙ c.step_why_text.ensures))
    c.write_pieces.ensures.prefix
