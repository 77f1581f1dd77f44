use Rattle.std.proofs.Common.{◌++◌, ◌∙◌}
use Rattle.std.proofs.lemmas.Result.{err_from_is_err_and}
use Rattle.record_codec.specs.Spelling.{eight, InEight, before_time, window_and_key}
use Rattle.record_codec.proofs.Readers.{reads-eight}
use Rattle.record_codec.proofs.Given.{the_same, only_memory}
use Rattle.record_codec.proofs.Passing.{in-three}
use Rattle.record_codec.proofs.skipping.time.Goals as goal

pub returns-in_err-rest : goal.returns-in_err-rest
returns-in_err-rest c =
    let p = err_from_is_err_and c.from_residual.result c.from_residual.ensures.1 in
    rw (p.1, p.2) (λ x rest fit e.
    c.in_err-rest.ensures x (eight x.time ++ (window_and_key x ++ rest)) fit (e ∙ in-three (before_time x) (eight x.time) (window_and_key x) rest))

pub returns-in_err-time : goal.returns-in_err-time
returns-in_err-time c =
    let p = err_from_is_err_and c.from_residual-in_err-time.result c.from_residual-in_err-time.ensures.1 in
    rw (p.1, p.2) (λ x rest fit e.
    let first = c.in_ok-rest.ensures x (eight x.time ++ (window_and_key x ++ rest)) fit (e ∙ in-three (before_time x) (eight x.time) (window_and_key x) rest) in
    only_memory eight InEight c.in_ok-rest.rest.now _ c.in_err-time.ensures x.time (window_and_key x ++ rest) fit.types.time first)

pub returns-in_err-rows : goal.returns-in_err-rows
returns-in_err-rows c =
    let p = err_from_is_err_and c.from_residual-in_err-rows.result c.from_residual-in_err-rows.ensures.1 in
    rw (p.1, p.2) (λ x rest fit e.
    let first = c.in_ok-rest.ensures x (eight x.time ++ (window_and_key x ++ rest)) fit (e ∙ in-three (before_time x) (eight x.time) (window_and_key x) rest) in
    let m = the_same reads-eight c.in_ok-time.ensures x.time (window_and_key x ++ rest) fit.types.time first in
    c.in_err-rows.ensures x rest fit m.1)

pub returns : goal.returns
returns c = λ x rest fit e.
    let first = c.in_ok-rest.ensures x (eight x.time ++ (window_and_key x ++ rest)) fit (e ∙ in-three (before_time x) (eight x.time) (window_and_key x) rest) in
    let m = the_same reads-eight c.in_ok-time.ensures x.time (window_and_key x ++ rest) fit.types.time first in
    let rows = c.in_ok-rows.ensures x rest fit m.1 in
    λ i. (m.0 i, rows i)
