use Rattle.std.proofs.Common.{refl}
use Rattle.std.proofs.lemmas.Result.{err_from_is_err_and}
use Rattle.record_codec.proofs.Parsers.{change_at}
use Rattle.record_codec.proofs.Readers.{reads-eight}
use Rattle.record_codec.proofs.Parts.{reads-head, reads-stamp, reads-path, reads-key, reads-spelled-window, reads-spelled-body, reads-change}
use Rattle.record_codec.proofs.Given.{given, unread, begins}
use Rattle.record_codec.proofs.reading.change.Goals as goal

pub returns-in_err-of_table : goal.returns-in_err-of_table
unfolding change_at
returns-in_err-of_table c =
    let p = err_from_is_err_and c.from_residual.result c.from_residual.ensures.1 in
    rw (p.1, p.2) (unread reads-head reads-change _ _ (λ n. rw (n) refl) _ c.in_err-of_table.ensures)

pub returns-in_err-stamp : goal.returns-in_err-stamp
unfolding change_at
returns-in_err-stamp c =
    let p = err_from_is_err_and c.from_residual-in_err-stamp.result c.from_residual-in_err-stamp.ensures.1 in
    rw (p.1, p.2) (unread reads-stamp reads-change _ _ (λ n. rw (given reads-head c.in_ok-of_table.ensures, n) refl) _ c.in_err-stamp.ensures)

pub returns-in_err-path : goal.returns-in_err-path
unfolding change_at
returns-in_err-path c =
    let p = err_from_is_err_and c.from_residual-in_err-path.result c.from_residual-in_err-path.ensures.1 in
    rw (p.1, p.2) (unread reads-path reads-change _ _ (λ n. rw (given reads-head c.in_ok-of_table.ensures, given reads-stamp c.in_ok-stamp.ensures, n) refl) _ c.in_err-path.ensures)

pub returns-in_err-time : goal.returns-in_err-time
unfolding change_at
returns-in_err-time c =
    let p = err_from_is_err_and c.from_residual-in_err-time.result c.from_residual-in_err-time.ensures.1 in
    rw (p.1, p.2) (unread reads-eight reads-change _ _ (λ n. rw (given reads-head c.in_ok-of_table.ensures, given reads-stamp c.in_ok-stamp.ensures, given reads-path c.in_ok-path.ensures, n) refl) _ c.in_err-time.ensures)

pub returns-in_err-span : goal.returns-in_err-span
unfolding change_at
returns-in_err-span c =
    let p = err_from_is_err_and c.from_residual-in_err-span.result c.from_residual-in_err-span.ensures.1 in
    rw (p.1, p.2) (unread (reads-spelled-window c.in_ok-of_table.of_table) reads-change _ _ (λ n. rw (given reads-head c.in_ok-of_table.ensures, given reads-stamp c.in_ok-stamp.ensures, given reads-path c.in_ok-path.ensures, given reads-eight c.in_ok-time.ensures, n) refl) _ c.in_err-span.ensures)

pub returns-in_err-key : goal.returns-in_err-key
unfolding change_at
returns-in_err-key c =
    let p = err_from_is_err_and c.from_residual-in_err-key.result c.from_residual-in_err-key.ensures.1 in
    rw (p.1, p.2) (unread reads-key reads-change _ _ (λ n. rw (given reads-head c.in_ok-of_table.ensures, given reads-stamp c.in_ok-stamp.ensures, given reads-path c.in_ok-path.ensures, given reads-eight c.in_ok-time.ensures, given (reads-spelled-window c.in_ok-of_table.of_table) c.in_ok-span.ensures, n) refl) _ c.in_err-key.ensures)

pub returns-in_err-body : goal.returns-in_err-body
unfolding change_at
returns-in_err-body c =
    let p = err_from_is_err_and c.from_residual-in_err-body.result c.from_residual-in_err-body.ensures.1 in
    rw (p.1, p.2) (unread (reads-spelled-body c.in_ok-of_table.of_table) reads-change _ _ (λ n. rw (given reads-head c.in_ok-of_table.ensures, given reads-stamp c.in_ok-stamp.ensures, given reads-path c.in_ok-path.ensures, given reads-eight c.in_ok-time.ensures, given (reads-spelled-window c.in_ok-of_table.of_table) c.in_ok-span.ensures, given reads-key c.in_ok-key.ensures, n) refl) _ c.in_err-body.ensures)

pub returns : goal.returns
unfolding change_at
returns c = begins reads-change _ _ (rw (given reads-head c.in_ok-of_table.ensures, given reads-stamp c.in_ok-stamp.ensures, given reads-path c.in_ok-path.ensures, given reads-eight c.in_ok-time.ensures, given (reads-spelled-window c.in_ok-of_table.of_table) c.in_ok-span.ensures, given reads-key c.in_ok-key.ensures, given (reads-spelled-body c.in_ok-of_table.of_table) c.in_ok-body.ensures) refl)
