use Rattle.std.proofs.Common.{◌++◌, ◌∙◌, append_assoc}
use Rattle.std.proofs.lemmas.Result.{err_from_is_err_and}
use Rattle.record_codec.specs.Spelling.{head, is_turned, stamp, path}
use Rattle.record_codec.proofs.Passing.{length-front}
use Rattle.record_codec.proofs.skipping.past_place.Goals as goal

pub returns-in_err-rest : goal.returns-in_err-rest
returns-in_err-rest c =
    let p = err_from_is_err_and c.from_residual.result c.from_residual.ensures.1 in
    rw (p.1, p.2) (λ x rest fit e.
    c.in_err-rest.ensures (head (is_turned x.body) ++ stamp x.place.stamp) (path x.place.path ++ rest) (length-front (is_turned x.body) x.place.stamp)
    (e ∙ append_assoc (head (is_turned x.body) ++ stamp x.place.stamp) (path x.place.path) rest))

pub returns : goal.returns
returns c = λ x rest fit e.
    c.past_path.ensures x.place.path rest (fit.limits.path, fit.types.path)
    (c.in_ok-rest.ensures (head (is_turned x.body) ++ stamp x.place.stamp) (path x.place.path ++ rest) (length-front (is_turned x.body) x.place.stamp)
    (e ∙ append_assoc (head (is_turned x.body) ++ stamp x.place.stamp) (path x.place.path) rest))
