use Rattle.std.proofs.Common.{◌≡◌, ◌∙◌, refl, subst, sym, true, false, true≢false}
use Rattle.topic_log.specs.Shelves.{routes_in, shelf_of}
use Rattle.task_core.specs.Advancing.{IsAdvanced}
use Rattle.task_core.specs.declared.task.Moved.{Moved}
use Rattle.assignor.specs.Rule.{is_with}
use Rattle.cluster_core.proofs.rounds.outcome_of.Goals as goal
use Rattle.cluster_core.proofs.rounds.outcome_of.Goals.{then-is_lost, else-is_lost+in_ok-moved}

pub returns : goal.returns
returns c = elim c.if-is_lost.branch [
  | then-is_lost w ↦ (let lost : is_with c.args.seat.worker c.args.lost ≡ true = sym c.is_lost.ensures ∙ w.if-is_lost.true in
      record { worker = refl; waits = λ is. w.moved-is; moved = λ lives. absurd (true≢false (sym lost ∙ lives)) })
  | else-is_lost+in_ok-moved w ↦ (let lives : is_with c.args.seat.worker c.args.lost ≡ false = sym c.is_lost.ensures ∙ w.if-is_lost.false in
      let is = w.in_ok-moved.ensures in
      record {
        worker = refl;
        waits = λ is. absurd (true≢false (sym is ∙ lives));
        moved = λ _. subst (λ (m : Moved). IsAdvanced (routes_in c.args.broker.now) (shelf_of c.args.broker.now) c.args.seat.task m) (sym w.moved-is)
            (record { same = is.same; done = is.done; none = is.none; still = is.still; proposal = is.proposal });
      })
]
