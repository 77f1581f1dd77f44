use Rattle.std.proofs.Common.{false, refl}
use Rattle.std.proofs.lemmas.Result.{err_from_is_err_and}
use Rattle.record_codec.proofs.Parsers.{body_at}
use Rattle.record_codec.proofs.Parts.{reads-row, reads-spelled-body}
use Rattle.record_codec.proofs.Given.{unread}
use Rattle.record_codec.proofs.reading.said.Goals as goal

pub returns-in_err-row : goal.returns-in_err-row
unfolding body_at
returns-in_err-row c =
    let p = err_from_is_err_and c.from_residual.result c.from_residual.ensures.1 in
    rw (p.1, p.2) (unread reads-row (reads-spelled-body false) _ _ (λ n. rw (n) refl) _ c.in_err-row.ensures)
