use Rattle.std.proofs.Common.{◌∙◌, ap, sym, ℕ, List, Some, None, []}
use Rattle.std.proofs.lemmas.Result.{err_from_is_err_and}
use Rattle.std.proofs.lemmas.List.{append-nil}
use Rattle.ksql_types.specs.declared.value.Value.{Value}
use Rattle.ksql_place.specs.declared.change.Body.TheVariants.{Turned}
use Rattle.ksql_place.specs.declared.change.Change.{Change}
use Rattle.record_codec.specs.Spelling.{body}
use Rattle.record_codec.proofs.Passing.{spelling-parts}
use Rattle.record_codec.proofs.skipping.timed_row.Goals as goal

abbrev to_row : Change → List Value → Change
to_row c row = record c { body = Turned None (Some row) }

pub returns-in_err-time : goal.returns-in_err-time
returns-in_err-time c =
    let p = err_from_is_err_and c.from_residual.result c.from_residual.ensures.1 in
    rw (p.1, p.2) (λ x row fit e. c.in_err-time.ensures (to_row x row) (body (Turned None (Some row))) fit (e ∙ spelling-parts (to_row x row)))

pub returns-in_err-row : goal.returns-in_err-row
returns-in_err-row c =
    let p = err_from_is_err_and c.from_residual-in_err-row.result c.from_residual-in_err-row.ensures.1 in
    rw (p.1, p.2) (λ x row fit e.
    let first = c.in_ok-time.ensures (to_row x row) (body (Turned None (Some row))) fit (e ∙ spelling-parts (to_row x row)) in
    c.in_err-row.ensures row [] (record { limits = fit.limits.body.1; types = fit.types.body.1 }) (ap (λ (y : ℕ × List ℕ). y.1) first ∙ sym (append-nil (body (Turned None (Some row))))))

pub returns : goal.returns
returns c = λ x row fit e.
    let first = c.in_ok-time.ensures (to_row x row) (body (Turned None (Some row))) fit (e ∙ spelling-parts (to_row x row)) in
    let read = c.in_ok-row.ensures row [] (record { limits = fit.limits.body.1; types = fit.types.body.1 }) (ap (λ (y : ℕ × List ℕ). y.1) first ∙ sym (append-nil (body (Turned None (Some row))))) in
    λ i. ((first i).0, (read i).0)
