use Rattle.std.proofs.Common.{◌≡◌, ◌∙◌, ◌+◌, ap, sym, List, [], ◌∷◌, ◌++◌, take, arith}
use Rattle.std.specs.Prelude.{unwrap_or, pos, ◌+ℤ◌}
use Rattle.std.proofs.lemmas.Int.{ints}
use Rattle.std.proofs.lemmas.List.{take_more}
use Rattle.ksql_types.specs.declared.value.Value.{Value}
use Rattle.ksql_expr.specs.Value.{whole}
use Rattle.ksql_nodes.specs.Aggregates.{present, total}
use Rattle.reference.proofs.Lists.{total-more}
use Rattle.reference.proofs.aggregates.total.Goals as goal

pub loop-value-preserved : goal.loop-value-preserved
loop-value-preserved c =
    let before : List Value = take c.loop-value.value-index c.args.values.now in
    let value = c.value-item.result in
    let more : total (present (take (c.loop-value.value-index + 1) c.args.values.now)) ≡ total (present before) +ℤ unwrap_or (whole value) (pos 0) =
    ap (λ vs. total (present vs))
    (take_more c.args.values.now c.loop-value.value-index value c.loop-value-test.true ∙ ap (λ v. before ++ v ∷ []) (sym c.value-item.is))
    ∙ total-more before value in
    let added : c.unwrap_or.result ≡ unwrap_or (whole value) (pos 0) = c.unwrap_or.ensures ∙ ap (λ o. unwrap_or o (pos 0)) c.whole.ensures in
    record {
      value = omega (arith, ints);
      low = omega (arith, ints);
      high = omega (arith, ints);
    }
