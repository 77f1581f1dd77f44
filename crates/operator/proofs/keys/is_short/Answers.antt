use Rattle.std.proofs.Common.{◌∙◌, refl, subst, All, arith}
use Rattle.std.proofs.lemmas.List.{take_all}
use Rattle.std.proofs.lemmas.List.Elements.{All-more}
use Rattle.record_codec.specs.Spelling.{IsShort}
use Rattle.operator.proofs.keys.is_short.Goals as goal

pub loop-value-preserved : goal.loop-value-preserved
loop-value-preserved c =
    let vs = c.items-value-items.result.now in
    let short = c.is_short_value.ensures.0 c.if-not-is_short_value.false in
    All-more IsShort vs c.loop-value.value-index c.value-item.result c.loop-value-test.true c.loop-value.invariant (subst IsShort c.value-item.is short)

pub returns : goal.returns
returns c =
    let vs = c.items-value-items.result.now in
    (λ t. subst (All IsShort) (take_all c.loop-value.value-index vs (omega arith) ∙ c.items-value-items.ensures.value) c.loop-value.invariant, λ all. refl)
