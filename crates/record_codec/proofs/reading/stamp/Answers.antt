use Rattle.std.proofs.Common.{refl}
use Rattle.std.proofs.lemmas.Result.{err_from_is_err_and}
use Rattle.record_codec.proofs.Parsers.{stamp_at}
use Rattle.record_codec.proofs.Readers.{reads-four, reads-eight}
use Rattle.record_codec.proofs.Parts.{reads-stamp}
use Rattle.record_codec.proofs.Given.{given, unread}
use Rattle.record_codec.proofs.reading.stamp.Goals as goal

pub returns-in_err-high : goal.returns-in_err-high
unfolding stamp_at
returns-in_err-high c =
    let p = err_from_is_err_and c.from_residual-in_err-high.result c.from_residual-in_err-high.ensures.1 in
    rw (p.1, p.2) (unread reads-eight reads-stamp _ _ (λ n. rw (given reads-eight c.in_ok-feed.ensures, n) refl) _ c.in_err-high.ensures)

pub returns-in_err-topic : goal.returns-in_err-topic
unfolding stamp_at
returns-in_err-topic c =
    let p = err_from_is_err_and c.from_residual-in_err-topic.result c.from_residual-in_err-topic.ensures.1 in
    rw (p.1, p.2) (unread reads-four reads-stamp _ _ (λ n. rw (given reads-eight c.in_ok-feed.ensures, given reads-eight c.in_ok-high.ensures, n) refl) _ c.in_err-topic.ensures)

pub returns-in_err-part : goal.returns-in_err-part
unfolding stamp_at
returns-in_err-part c =
    let p = err_from_is_err_and c.from_residual-in_err-part.result c.from_residual-in_err-part.ensures.1 in
    rw (p.1, p.2) (unread reads-four reads-stamp _ _ (λ n. rw (given reads-eight c.in_ok-feed.ensures, given reads-eight c.in_ok-high.ensures, given reads-four c.in_ok-topic.ensures, n) refl) _ c.in_err-part.ensures)

pub returns-in_err-offset : goal.returns-in_err-offset
unfolding stamp_at
returns-in_err-offset c =
    let p = err_from_is_err_and c.from_residual-in_err-offset.result c.from_residual-in_err-offset.ensures.1 in
    rw (p.1, p.2) (unread reads-eight reads-stamp _ _ (λ n. rw (given reads-eight c.in_ok-feed.ensures, given reads-eight c.in_ok-high.ensures, given reads-four c.in_ok-topic.ensures, given reads-four c.in_ok-part.ensures, n) refl) _ c.in_err-offset.ensures)
