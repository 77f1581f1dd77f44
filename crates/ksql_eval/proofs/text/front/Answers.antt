use Rattle.std.proofs.Common.{◌∙◌, ◌-◌, length, take}
use Rattle.std.specs.Str.{chars, encode_utf8_all}
use Rattle.ksql_eval.proofs.Texts.{front_and_rest, seam, range_front, take_front}
use Rattle.ksql_eval.proofs.text.front.Goals as goal

pub range-requires-clause-end_boundary : goal.range-requires-clause-end_boundary
range-requires-clause-end_boundary c =
    let parts = front_and_rest c.args.text.now c.after-rest.result.now c.args.count c.utf8.text c.after-rest.ensures.value in
    seam c.args.text.now (encode_utf8_all (take c.args.count (chars c.args.text.now))) c.after-rest.result.now parts c.after-rest.utf8

pub returns-clause-value : goal.returns-clause-value
returns-clause-value c =
    let parts = front_and_rest c.args.text.now c.after-rest.result.now c.args.count c.utf8.text c.after-rest.ensures.value in
    c.range.ensures.value ∙ range_front c.args.text.now (length c.args.text.now - length c.after-rest.result.now) ∙ take_front c.args.text.now (encode_utf8_all (take c.args.count (chars c.args.text.now))) c.after-rest.result.now parts
