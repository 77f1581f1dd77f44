use Rattle.std.proofs.Common.{◌∙◌}
use Rattle.ksql_cli.proofs.Pieces.{whole-as, prefix-as, script_pieces}
use Rattle.ksql_cli.proofs.fault.write_script_line.Goals as goal

pub returns-clause-whole : goal.returns-clause-whole
returns-clause-whole g c =
    whole-as c.write_pieces.result (g.K.Sink.written c.args.out.now) (g.K.Sink.written c.write_pieces.new.out) _ _
    (script_pieces c.as_bytes-statement.result.now c.as_bytes-code.result.now c.args.statement c.args.code
    (c.as_bytes-statement.ensures.value ∙ c.format.ensures.text) (c.as_bytes-code.ensures.value ∙ c.code_text.ensures))
    c.write_pieces.ensures.whole

pub returns-clause-prefix : goal.returns-clause-prefix
returns-clause-prefix g c =
    prefix-as c.write_pieces.result (g.K.Sink.written c.args.out.now) (g.K.Sink.written c.write_pieces.new.out) _ _
    (script_pieces c.as_bytes-statement.result.now c.as_bytes-code.result.now c.args.statement c.args.code
    (c.as_bytes-statement.ensures.value ∙ c.format.ensures.text) (c.as_bytes-code.ensures.value ∙ c.code_text.ensures))
    c.write_pieces.ensures.prefix
