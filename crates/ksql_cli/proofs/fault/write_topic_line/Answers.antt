use Rattle.std.proofs.Common.{◌∙◌, ◌++◌, refl}
use Rattle.std.specs.Prelude.{codes, decimal}
use Rattle.ksql_outside.specs.Outside.{WrotePrefix}
use Rattle.ksql_cli.specs.Fault.{topic_line, why_text}
use Rattle.ksql_cli.proofs.Pieces.{on-err, prefix-as, prefix-first, prefix-last, topic_pieces, whole-as, whole-last}
use Rattle.ksql_cli.proofs.fault.write_topic_line.Goals as goal

pub returns-in_err-write_pieces-clause-prefix : goal.returns-in_err-write_pieces-clause-prefix
returns-in_err-write_pieces-clause-prefix g c =
    let old = g.K.Sink.written c.args.out.now in
    let new = g.K.Sink.written c.write_pieces.new.out in
    let rest = decimal c.args.line ++ (codes ": " ++ (why_text c.args.why ++ codes "\n")) in
    let front = codes "ksql: topic " ++ (c.as_bytes-topic.result.now ++ codes " line ") in
    prefix-as c.from_residual.result old new (front ++ rest) (topic_line c.args.topic.now c.args.line c.args.why)
    (topic_pieces c.as_bytes-topic.result.now c.args.topic.now (decimal c.args.line) (why_text c.args.why) c.args.line c.args.why
    (c.as_bytes-topic.ensures.value ∙ c.items.ensures.value) refl refl)
    (on-err c.from_residual.result (WrotePrefix old new (front ++ rest)) (prefix-first old new front rest c.in_err-write_pieces.ensures.prefix))

pub returns-clause-whole : goal.returns-clause-whole
returns-clause-whole g c =
    let old = g.K.Sink.written c.args.out.now in
    let mid = g.K.Sink.written c.write_pieces.new.out in
    let new = g.K.Sink.written c.write_pieces-2.new.out in
    let rest = c.as_bytes-line.result.now ++ (codes ": " ++ (c.as_bytes-why.result.now ++ codes "\n")) in
    let front = codes "ksql: topic " ++ (c.as_bytes-topic.result.now ++ codes " line ") in
    whole-as c.write_pieces-2.result old new (front ++ rest) (topic_line c.args.topic.now c.args.line c.args.why)
    (topic_pieces c.as_bytes-topic.result.now c.args.topic.now c.as_bytes-line.result.now c.as_bytes-why.result.now c.args.line c.args.why
    (c.as_bytes-topic.ensures.value ∙ c.items.ensures.value) (c.as_bytes-line.ensures.value ∙ c.format.ensures.text) (c.as_bytes-why.ensures.value ∙ c.why_text.ensures))
    (whole-last c.write_pieces-2.result old mid new front rest c.in_ok-write_pieces.ensures.whole c.write_pieces-2.ensures.whole)

pub returns-clause-prefix : goal.returns-clause-prefix
returns-clause-prefix g c =
    let old = g.K.Sink.written c.args.out.now in
    let mid = g.K.Sink.written c.write_pieces.new.out in
    let new = g.K.Sink.written c.write_pieces-2.new.out in
    let rest = c.as_bytes-line.result.now ++ (codes ": " ++ (c.as_bytes-why.result.now ++ codes "\n")) in
    let front = codes "ksql: topic " ++ (c.as_bytes-topic.result.now ++ codes " line ") in
    prefix-as c.write_pieces-2.result old new (front ++ rest) (topic_line c.args.topic.now c.args.line c.args.why)
    (topic_pieces c.as_bytes-topic.result.now c.args.topic.now c.as_bytes-line.result.now c.as_bytes-why.result.now c.args.line c.args.why
    (c.as_bytes-topic.ensures.value ∙ c.items.ensures.value) (c.as_bytes-line.ensures.value ∙ c.format.ensures.text) (c.as_bytes-why.ensures.value ∙ c.why_text.ensures))
    (prefix-last c.write_pieces-2.result old mid new front rest c.in_ok-write_pieces.ensures.whole c.write_pieces-2.ensures.prefix)
