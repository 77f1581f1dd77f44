use Rattle.std.proofs.Common.{◌≡◌, ◌∙◌, ap, List}
use Rattle.std.specs.Prelude.{slice_get, unwrap_or}
use Rattle.ksql_types.specs.declared.value.Value.{Value}
use Rattle.agg_ops.specs.Totals.{initial, kept_worths, next_worth}
use Rattle.agg_ops.proofs.TotalsLemmas.{worths-step}
use Rattle.agg_ops.proofs.totals.next_totals.Goals as goal

pub loop-index-preserved : goal.loop-index-preserved
loop-index-preserved c =
    let over = c.args.over in
    let change = c.args.change.now in
    let a = c.index-aggs-index.result in
    let i = c.loop-index.index in
    let worth : c.in_ok-worth.worth ≡ unwrap_or (slice_get (kept_worths c.args.mine.now) i) (initial over a) =
    c.in_ok-worth.ensures ∙ ap (λ (worths : List Value). unwrap_or (slice_get worths i) (initial over a)) c.kept_worths-worths.ensures in
    worths-step over c.args.aggs.now a change (kept_worths c.args.mine.now) i _ _ _ _ c.loop-index-test.true c.index-aggs-index.is
    c.loop-index.invariant (c.in_ok-next_worth.ensures ∙ ap (next_worth over a change) worth) c.in_ok-push-2.ensures.items
