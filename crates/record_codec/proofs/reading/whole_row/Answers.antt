use Rattle.std.proofs.Common.{◌≡◌, ◌∙◌, ap, ℕ, List, length, eqb, false, true}
use Rattle.std.proofs.lemmas.Result.{err_from_is_err_and}
use Rattle.record_codec.proofs.Parts.{reads-row}
use Rattle.record_codec.proofs.Given.{whole_none, not_whole}
use Rattle.record_codec.proofs.reading.whole_row.Goals as goal

pub returns-in_err-row : goal.returns-in_err-row
returns-in_err-row c =
    let p = err_from_is_err_and c.from_residual.result c.from_residual.ensures.1 in
    rw (p.1, p.2) (whole_none _ _ _ _ c.in_err-row.ensures)

pub returns-then-not-is_empty : goal.returns-then-not-is_empty
returns-then-not-is_empty c = not_whole reads-row c.in_ok-row.ensures (λ e. let t : false ≡ true = c.if-not-is_empty.ensures ∙ ap (λ (w : List ℕ). eqb (length w) 0) e in cc)
