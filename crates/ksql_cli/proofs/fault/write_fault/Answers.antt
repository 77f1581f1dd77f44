use Rattle.std.proofs.Common.{◌∙◌, ap, sym}
use Rattle.ksql_cli.specs.Fault.{fault_line}
use Rattle.ksql_cli.proofs.Pieces.{memory_piece, prefix-as, read_pieces, usage_piece, whole-as}
use Rattle.ksql_cli.proofs.fault.write_fault.Goals as goal

pub returns-in-Usage-clause-whole : goal.returns-in-Usage-clause-whole
returns-in-Usage-clause-whole g c =
    whole-as c.write_whole.result (g.K.Sink.written c.args.out.now) (g.K.Sink.written c.write_whole.new.out) _ _
    (usage_piece ∙ sym (ap fault_line c.in-Usage.is)) c.write_whole.ensures.whole

pub returns-in-Usage-clause-prefix : goal.returns-in-Usage-clause-prefix
returns-in-Usage-clause-prefix g c =
    prefix-as c.write_whole.result (g.K.Sink.written c.args.out.now) (g.K.Sink.written c.write_whole.new.out) _ _
    (usage_piece ∙ sym (ap fault_line c.in-Usage.is)) c.write_whole.ensures.prefix

pub returns-in-ReadFault-clause-whole : goal.returns-in-ReadFault-clause-whole
returns-in-ReadFault-clause-whole g c =
    whole-as c.write_pieces.result (g.K.Sink.written c.args.out.now) (g.K.Sink.written c.write_pieces.new.out) _ _
    (read_pieces c.as_bytes-name.result.now c.in-ReadFault.name (c.as_bytes-name.ensures.value ∙ c.items.ensures.value) ∙ sym (ap fault_line c.in-ReadFault.is)) c.write_pieces.ensures.whole

pub returns-in-ReadFault-clause-prefix : goal.returns-in-ReadFault-clause-prefix
returns-in-ReadFault-clause-prefix g c =
    prefix-as c.write_pieces.result (g.K.Sink.written c.args.out.now) (g.K.Sink.written c.write_pieces.new.out) _ _
    (read_pieces c.as_bytes-name.result.now c.in-ReadFault.name (c.as_bytes-name.ensures.value ∙ c.items.ensures.value) ∙ sym (ap fault_line c.in-ReadFault.is)) c.write_pieces.ensures.prefix

pub returns-in-OutOfMemory-clause-whole : goal.returns-in-OutOfMemory-clause-whole
returns-in-OutOfMemory-clause-whole g c =
    whole-as c.write_whole-in-OutOfMemory.result (g.K.Sink.written c.args.out.now) (g.K.Sink.written c.write_whole-in-OutOfMemory.new.out) _ _
    (memory_piece ∙ sym (ap fault_line c.in-OutOfMemory.is)) c.write_whole-in-OutOfMemory.ensures.whole

pub returns-in-OutOfMemory-clause-prefix : goal.returns-in-OutOfMemory-clause-prefix
returns-in-OutOfMemory-clause-prefix g c =
    prefix-as c.write_whole-in-OutOfMemory.result (g.K.Sink.written c.args.out.now) (g.K.Sink.written c.write_whole-in-OutOfMemory.new.out) _ _
    (memory_piece ∙ sym (ap fault_line c.in-OutOfMemory.is)) c.write_whole-in-OutOfMemory.ensures.prefix
