use Rattle.std.proofs.Common.{◌≡◌, sym, inl, inr, arith, ◌∙◌}
use Rattle.std.proofs.lemmas.Bool.{eqb-true}
use Rattle.std.proofs.lemmas.List.{nil_from_length}
use Rattle.topic_log.proofs.Whole.{alone-next}
use Rattle.topic_log.proofs.commits.is_alone.Goals as goal
use Rattle.topic_log.proofs.commits.is_alone.Goals.{else-number-writer-via-then-number-writer+else-not-is_empty, else-number-writer-via-else-number-writer}

pub loop-number-preserved : goal.loop-number-preserved
loop-number-preserved c =
    let w = c.index-waiting-number.result in
    let n = c.loop-number.number in
    alone-next (λ w. w.items) c.args.waiting.now c.args.writer n w (omega arith) c.index-waiting-number.is
    (elim c.else-number-writer.branch [
      | else-number-writer-via-then-number-writer+else-not-is_empty b ↦ (
          let zero : w.len ≡ 0 = eqb-true w.len 0 (sym b.is_empty.ensures ∙ b.if-not-is_empty.false) in
          inr (nil_from_length w.items (omega (arith, zero, w.ok.0))))
      | else-number-writer-via-else-number-writer b ↦ inl b.if-number-writer.false
    ]) c.loop-number.invariant
