use Rattle.std.proofs.Common.{refl}
use Rattle.std.proofs.lemmas.Result.{err_from_is_err_and}
use Rattle.std.proofs.lemmas.Bool.{le-leb, lt-leb}
use Rattle.record_codec.specs.Spelling.{four, InFour}
use Rattle.record_codec.specs.declared.fault.ReadError.TheVariants.{Unspelled}
use Rattle.record_codec.proofs.Parsers.{path_at, list_at, four_at}
use Rattle.record_codec.proofs.Readers.{reads-four, reads-times}
use Rattle.record_codec.proofs.Parts.{reads-path}
use Rattle.record_codec.proofs.Given.{given, unread, begins_not}
use Rattle.record_codec.proofs.reading.path.Goals as goal

pub returns-then-count-gt512 : goal.returns-then-count-gt512
unfolding path_at list_at
returns-then-count-gt512 c =
    let e = lt-leb _ _ c.if-count-gt512.true in
    begins_not reads-path _ (rw (given reads-four c.in_ok-count.ensures, e) refl) Unspelled

pub returns-in_err-numbers : goal.returns-in_err-numbers
unfolding path_at list_at
returns-in_err-numbers c =
    let p = err_from_is_err_and c.from_residual-in_err-numbers.result c.from_residual-in_err-numbers.ensures.1 in
    let e = le-leb _ _ c.if-count-gt512.false in
    rw (p.1, p.2) (unread (reads-times four InFour four_at reads-four c.in_ok-count.count) reads-path _ _ (λ n. rw (given reads-four c.in_ok-count.ensures, e, n) refl) _ c.in_err-numbers.ensures)
