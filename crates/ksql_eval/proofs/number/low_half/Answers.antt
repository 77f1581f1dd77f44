use Rattle.std.proofs.Common.{◌≡◌, ◌∙◌, ap, rules, ◌^◌}
use Rattle.std.specs.Prelude.{pos, unsigned_abs, FitsSigned}
use Rattle.std.specs.Int.{w32, w128, cast_signed, cast_unsigned, int_rem_euclid, int_wrap}
use Rattle.std.proofs.lemmas.Int.{to_z-of_z}
use Rattle.ksql_eval.proofs.number.low_half.Goals as goal

pub returns : goal.returns
unfolding int_wrap
returns c =
    let fits : FitsSigned w32 c.cast_signed.result = search rules in
    let reads : FitsSigned w128 c.rem_euclid.result = search rules in
    let same : cast_signed w128 (cast_unsigned w128 c.args.exact) ≡ c.args.exact = to_z-of_z w128 c.args.exact c.ranges.exact in
    to_z-of_z w32 c.cast_signed.result fits ∙ c.cast_signed.ensures
    ∙ ap (λ r. cast_signed w32 (unsigned_abs r))
    (to_z-of_z w128 c.rem_euclid.result reads ∙ c.rem_euclid.ensures.value ∙ ap (λ z. int_rem_euclid z (pos (2 ^ 32))) same)
