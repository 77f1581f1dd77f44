use Rattle.std.proofs.Common.{true, refl}
use Rattle.std.proofs.lemmas.Result.{err_from_is_err_and}
use Rattle.record_codec.proofs.Parsers.{body_at}
use Rattle.record_codec.proofs.Parts.{reads-optional-row, reads-spelled-body}
use Rattle.record_codec.proofs.Given.{given, unread}
use Rattle.record_codec.proofs.reading.turned.Goals as goal

pub returns-in_err-new : goal.returns-in_err-new
unfolding body_at
returns-in_err-new c =
    let p = err_from_is_err_and c.from_residual-in_err-new.result c.from_residual-in_err-new.ensures.1 in
    rw (p.1, p.2) (unread reads-optional-row (reads-spelled-body true) _ _ (λ n. rw (given reads-optional-row c.in_ok-old.ensures, n) refl) _ c.in_err-new.ensures)
