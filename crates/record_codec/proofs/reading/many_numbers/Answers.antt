use Rattle.std.proofs.Common.{◌∙◌, ap}
use Rattle.std.proofs.lemmas.Result.{err_from_is_err_and}
use Rattle.record_codec.specs.Spelling.{four, InFour}
use Rattle.record_codec.proofs.Parsers.{times, four_at}
use Rattle.record_codec.proofs.Readers.{stops, reads-times, reads-four}
use Rattle.record_codec.proofs.Given.{unread}
use Rattle.record_codec.proofs.reading.many_numbers.Goals as goal

pub returns-in_err-number : goal.returns-in_err-number
returns-in_err-number c =
    let p = err_from_is_err_and c.from_residual-in_err-number.result c.from_residual-in_err-number.ensures.1 in
    let before = c.loop.invariant in
    let fewer = rw (← before.many) at c.loop-test.true in
    rw (p.1, p.2) (unread reads-four (reads-times four InFour four_at reads-four c.args.count) _ _
    (λ n. ap (times four_at c.args.count) before.parts ∙ stops reads-four c.loop.numbers.items c.args.count c.loop.rest.now before.typed fewer n) _ c.in_err-number.ensures)
