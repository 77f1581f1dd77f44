use Rattle.std.proofs.Common.{◌≤◌, ◌∙◌, map, length, sym, ap, arith, Some}
use Rattle.std.proofs.lemmas.List.{length-map}
use Rattle.std.proofs.lemmas.Simd.{map-map}
use Rattle.ksql_analyse.proofs.lists.Pushing.{all-taken}
use Rattle.ksql_analyse.proofs.result.columns_of.Goals as goal

pub returns : goal.returns
returns c =
    let within : length c.args.trees.now ≤ c.loop-index.index =
    omega (arith, c.requires.counted, length-map c.args.named.now (λ v. v.now)) in (
      ap (map (λ x. x.name)) c.of.ensures ∙ c.loop-index.invariant.0
          ∙ ap (map (λ x. x.now.name)) (all-taken c.args.named.now c.loop-index.index c.loop-index-test.false)
          ∙ sym (map-map (λ x. x.name) (λ x. x.now) c.args.named.now),
      ap (map (λ x. Some x.ty)) c.of.ensures ∙ c.loop-index.invariant.1
          ∙ ap (map (λ x. x.ty)) (all-taken c.args.trees.now c.loop-index.index within),
    )
