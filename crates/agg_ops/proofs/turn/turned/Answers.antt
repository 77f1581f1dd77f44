use Rattle.std.proofs.Common.{◌∙◌, ap, sym, subst, length, All, arith}
use Rattle.record_codec.specs.Spelling.{IsShort}
use Rattle.agg_ops.proofs.Short.{totals-short, length-totals}
use Rattle.agg_ops.proofs.turn.turned.Goals as goal

pub encode_values-requires-clause-few : goal.encode_values-requires-clause-few
encode_values-requires-clause-few c =
    let is = ap length (c.as_slice-2.ensures.value ∙ c.in_ok-after.ensures) ∙ length-totals c.args.over c.args.aggs.now c.args.change.now c.as_slice.result.now in
    omega (arith, is, c.requires.few)

pub encode_values-requires-clause-short : goal.encode_values-requires-clause-short
encode_values-requires-clause-short c =
    let mine = c.as_slice.result.now in
    subst (All IsShort) (sym (c.as_slice-2.ensures.value ∙ c.in_ok-after.ensures))
    (totals-short c.args.over c.args.aggs.now c.args.change.now mine (subst (All IsShort) (sym c.as_slice.ensures.value) c.in_ok-before.ensures.short) c.requires.short)
