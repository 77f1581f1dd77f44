use Rattle.std.proofs.Common.{◌≡◌, ◌∙◌, ap, ℕ, lit<, List, length, eqb, false, true}
use Rattle.std.proofs.lemmas.Result.{err_from_is_err_and}
use Rattle.record_codec.specs.Spelling.{values, AreSpellable}
use Rattle.record_codec.proofs.Parsers.{values_at}
use Rattle.record_codec.proofs.Parts.{reads-values, reads-list-of-values, few-values}
use Rattle.record_codec.proofs.Given.{unread, whole_none, not_whole}
use Rattle.record_codec.proofs.reading.whole_values.Goals as goal

pub returns-in_err-values : goal.returns-in_err-values
unfolding values_at
returns-in_err-values c =
    let p = err_from_is_err_and c.from_residual.result c.from_residual.ensures.1 in
    rw (p.1, p.2) (whole_none values AreSpellable _ _ (unread (reads-list-of-values 4294967295 (lit< tt)) reads-values _ _ (λ n. n) _ c.in_err-values.ensures))

pub returns-then-not-is_empty : goal.returns-then-not-is_empty
returns-then-not-is_empty c = λ x fit.
    not_whole (reads-list-of-values 4294967295 (lit< tt)) c.in_ok-values.ensures (λ e. let t : false ≡ true = c.if-not-is_empty.ensures ∙ ap (λ (w : List ℕ). eqb (length w) 0) e in cc) x (few-values x fit)
