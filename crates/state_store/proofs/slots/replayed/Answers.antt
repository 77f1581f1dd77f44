use Rattle.std.proofs.Common.{◌≡◌, ◌+◌, ◌==◌, Bool, true, false, take, ap, ap₂, sym, ◌∙◌, eq-eqb, cond}
use borrow.Author.Tests.{ne_eqb}
use Rattle.std.specs.FinMap.{empty}
use Rattle.state_store.specs.Store.{with_value, replay, numbered}
use Rattle.state_store.specs.Slots.{values_in}
use Rattle.state_store.proofs.ReplayLemmas.{replay-numbered_more}
use Rattle.state_store.proofs.slots.replayed.Goals as goal
use Rattle.state_store.proofs.slots.replayed.Goals.{then-entry-number+in_ok-apply, else-entry-number}

-- the entry of an iteration is skipped if it has another number
values_more : (c : goal.Joined-entry-number) (b : Bool) → (c.entry-item.result.store == c.args.number) ≡ b → replay empty (numbered c.args.number (take (c.loop-entry.entry-index + 1) c.args.log.now)) ≡ cond b (with_value (values_in c.loop-entry.slots.entries) c.entry-item.result.key c.entry-item.result.value) (values_in c.loop-entry.slots.entries)
values_more c b e =
    let entry = c.entry-item.result in
    replay-numbered_more empty c.args.number c.args.log.now c.loop-entry.entry-index entry c.loop-entry-test.true c.entry-item.is
    ∙ ap₂ (λ t m. cond t (with_value m entry.key entry.value) m) e (sym c.loop-entry.invariant)

pub loop-entry-preserved : goal.loop-entry-preserved
loop-entry-preserved c =
    elim c.if-entry-number.branch [
      | then-entry-number+in_ok-apply w ↦
          ap (λ slots. values_in slots.entries) w.slots-is
          ∙ w.in_ok-apply.ensures
          ∙ sym (values_more c true (eq-eqb _ _ w.if-entry-number.true))
      | else-entry-number w ↦
          ap (λ slots. values_in slots.entries) w.slots-is
          ∙ sym (values_more c false (ne_eqb _ _ w.if-entry-number.false))
    ]
