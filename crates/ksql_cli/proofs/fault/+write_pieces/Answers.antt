use Rattle.ksql_cli.proofs.Pieces.{pieces-last}
use Rattle.ksql_cli.proofs.fault.+write_pieces.Goals as goal

pub returns-in_ok-write_whole-in-len1-up-clause-prefix : goal.returns-in_ok-write_whole-in-len1-up-clause-prefix
returns-in_ok-write_whole-in-len1-up-clause-prefix g t c =
    pieces-last c.write_pieces.result (g.K.Sink.written c.args.out.now) (g.K.Sink.written c.write_whole.new.out) (g.K.Sink.written c.write_pieces.new.out)
    c.args.pieces.now _ c.in-len1-up.len_at_least c.in_ok-write_whole-in-len1-up.ensures.whole c.write_pieces.ensures.prefix
