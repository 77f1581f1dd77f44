use Rattle.std.proofs.Common.{◌∙◌, ap, sym, ◌-◌, ◌++◌, ◌∷◌, [], map, length, arith}
use Rattle.std.specs.List.{range_with_len}
use Rattle.std.proofs.lemmas.List.FromFn.{length-map-range_with_len, map-range_with_len_more}
use Rattle.agg_ops.proofs.WindowSpans.{span_at, spans-are, first-few}
use Rattle.agg_ops.proofs.WindowStarts.{sound-parts}
use Rattle.agg_ops.proofs.windows.windows_of.Goals as goal

pub loop-number-preserved : goal.loop-number-preserved
loop-number-preserved c =
    let w = c.args.window in
    let first = c.first_open-first.result in
    let number = c.loop-number.number in
    c.in_ok-push.ensures.items
    ∙ ap (λ spans. spans ++ span_at w number ∷ []) c.loop-number.invariant
    ∙ sym (map-range_with_len_more (span_at w) first (number - first) number (omega arith))
    ∙ ap (λ n. map (span_at w) (range_with_len first n)) (omega arith)

pub returns-clause-spans : goal.returns-clause-spans
returns-clause-spans c =
    let w = c.args.window in
    let first = c.first_open-first.result in
    let moves = (sound-parts w c.requires.sound).moves in
    let few = first-few w c.args.time first moves c.first_open-first.ensures.over in
    c.loop-number.invariant
    ∙ ap (λ n. map (span_at w) (range_with_len first (n - first))) (omega (arith, few, c.loop-number.auto.number-end few))
    ∙ spans-are w c.args.time first moves c.first_open-first.ensures.over c.first_open-first.ensures.lasts

pub returns-clause-few : goal.returns-clause-few
returns-clause-few c =
    let w = c.args.window in
    let first = c.first_open-first.result in
    let few = first-few w c.args.time first (sound-parts w c.requires.sound).moves c.first_open-first.ensures.over in
    omega (arith, ap length c.loop-number.invariant, length-map-range_with_len (span_at w) first (c.loop-number.number - first), few, c.loop-number.auto.number-end few, c.first_open-first.ensures.few)
