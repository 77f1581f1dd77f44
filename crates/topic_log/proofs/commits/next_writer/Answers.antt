use Rattle.std.proofs.Common.{◌≡◌, ◌+◌, ◌∙◌, sym, subst, ap, arith, ℕ, map, length, option_map, Some}
use Rattle.std.proofs.lemmas.List.{length-map}
use Rattle.std.proofs.lemmas.List.Elements.{recursion_from_All}
use Rattle.ksql_place.specs.Ascending.{Rises}
use Rattle.ksql_place.specs.Routing.{change_cmp}
use Rattle.topic_log.proofs.Choice.{IsBest, dues, IsBest-along, best_stays, best_changes, dues-at}
use Rattle.topic_log.proofs.Next.{EachAscends-from_all, next-found}
use Rattle.topic_log.proofs.commits.next_writer.Goals as goal
use Rattle.topic_log.proofs.commits.next_writer.Goals.{then-goes_before, else-goes_before}

pub loop-writer-preserved : goal.loop-writer-preserved
loop-writer-preserved c =
    let ds = dues c.args.closed (map (λ w. w.items) c.args.waiting.now) in
    let n = c.loop-writer.writer in
    let at = dues-at c.args.closed (λ w. w.items) c.args.waiting.now n c.index-waiting-writer.result (omega arith) c.index-waiting-writer.is ∙ sym c.due-first.ensures in
    let best = option_map (λ x. x.now) c.loop-writer.best in
    let first = option_map (λ x. x.now) c.due-first.result in
    elim c.if-goes_before.branch [
      | then-goes_before w ↦ IsBest-along ds (n + 1) (Some n) c.if-goes_before.next first _ w.next-is (ap (option_map (λ x. x.now)) w.best-is)
          (best_changes ds n c.loop-writer.next best first at c.loop-writer.invariant (sym c.goes_before.ensures ∙ w.if-goes_before.true))
      | else-goes_before w ↦ IsBest-along ds (n + 1) c.loop-writer.next c.if-goes_before.next best _ w.next-is (ap (option_map (λ x. x.now)) w.best-is)
          (best_stays ds n c.loop-writer.next best first at c.loop-writer.invariant (sym c.goes_before.ensures ∙ w.if-goes_before.false))
    ]

pub returns : goal.returns
returns c =
    let ws = c.args.waiting.now in
    let ls = map (λ w. w.items) ws in
    let best = option_map (λ x. x.now) c.loop-writer.best in
    let end : c.loop-writer.writer ≡ length ls = omega arith ∙ sym (length-map ws (λ w. w.items)) in
    next-found c.args.closed ls c.loop-writer.next best (EachAscends-from_all (λ w. w.items) ws (recursion_from_All (λ w. Rises change_cmp w.items) ws c.requires))
    (subst (λ (n : ℕ). IsBest (dues c.args.closed ls) n c.loop-writer.next best) end c.loop-writer.invariant)
