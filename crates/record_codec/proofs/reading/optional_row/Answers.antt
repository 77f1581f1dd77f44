use Rattle.std.proofs.Common.{◌≡◌, ◌∙◌, ap, arith, get_or, refl}
use Rattle.std.proofs.lemmas.Result.{err_from_is_err_and}
use Rattle.record_codec.proofs.Parsers.{row_at, optional_at}
use Rattle.record_codec.proofs.Parts.{reads-row, reads-optional-row}
use Rattle.record_codec.proofs.Passing.{after_first}
use Rattle.record_codec.proofs.Given.{unread}
use Rattle.record_codec.proofs.reading.optional_row.Goals as goal

pub returns-in_err-row-in-1 : goal.returns-in_err-row-in-1
unfolding optional_at
returns-in_err-row-in-1 c =
    let p = err_from_is_err_and c.from_residual.result c.from_residual.ensures.1 in
    let first : get_or c.args.bytes.now 0 0 ≡ 1 = omega arith in
    let e = after_first c.args.bytes.now 1 c.in-1.len_at_least first in
    rw (p.1, p.2) (unread reads-row reads-optional-row _ c.args.bytes.now (λ n. ap (optional_at row_at) e ∙ rw n refl) _ c.in_err-row-in-1.ensures)
