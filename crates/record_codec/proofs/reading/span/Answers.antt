use Rattle.std.proofs.Common.{refl}
use Rattle.std.proofs.lemmas.Bool.{le-ltb}
use Rattle.std.proofs.lemmas.Result.{err_from_is_err_and}
use Rattle.record_codec.specs.declared.fault.ReadError.TheVariants.{Unspelled}
use Rattle.record_codec.proofs.Parsers.{span_at}
use Rattle.record_codec.proofs.Readers.{reads-eight}
use Rattle.record_codec.proofs.Parts.{reads-span}
use Rattle.record_codec.proofs.Given.{given, unread, begins_not}
use Rattle.record_codec.proofs.reading.span.Goals as goal

pub returns-in_err-end : goal.returns-in_err-end
unfolding span_at
returns-in_err-end c =
    let p = err_from_is_err_and c.from_residual-in_err-end.result c.from_residual-in_err-end.ensures.1 in
    rw (p.1, p.2) (unread reads-eight reads-span _ _ (λ n. rw (given reads-eight c.in_ok-start.ensures, n) refl) _ c.in_err-end.ensures)

pub returns-then-start-end : goal.returns-then-start-end
unfolding span_at
returns-then-start-end c =
    let e = le-ltb _ _ c.if-start-end.true in
    begins_not reads-span _ (rw (given reads-eight c.in_ok-start.ensures, given reads-eight c.in_ok-end.ensures, e) refl) Unspelled
