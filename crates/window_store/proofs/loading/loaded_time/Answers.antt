use Rattle.std.proofs.Common.{◌∷◌, [], ℕ, sym, ap, ◌∙◌}
use Rattle.operator.specs.Holding.{is_of_time, time_after}
use Rattle.window_store.proofs.Logs.{time_after-time, time_after-no_time, loadable_at}
use Rattle.window_store.proofs.loading.loaded_time.Goals as goal
use Rattle.window_store.proofs.loading.loaded_time.Goals.{then-is_of_time, else-is_of_time}

pub said_time-time-requires-clause-loadable : goal.said_time-time-requires-clause-loadable
said_time-time-requires-clause-loadable c =
    loadable_at c.args.number c.args.log.now c.loop-entry.entry-index c.entry-item.result c.loop-entry-test.true c.entry-item.is c.requires (is_of_time c.entry-item.result) c.if-is_of_time.ensures

pub loop-entry-preserved : goal.loop-entry-preserved
loop-entry-preserved c =
    let number = c.args.number in
    let log = c.args.log.now in
    let i = c.loop-entry.entry-index in
    let entry = c.entry-item.result in
    let within = c.loop-entry-test.true in
    elim c.if-is_of_time.branch [
      | then-is_of_time w ↦
          w.time-is
          ∙ w.said_time-time.ensures
          ∙ ap (λ (time : ℕ). time_after time (entry ∷ [])) c.loop-entry.invariant
          ∙ sym (time_after-time number log i entry within c.entry-item.is 0 w.if-is_of_time.ensures)
      | else-is_of_time w ↦
          w.time-is
          ∙ c.loop-entry.invariant
          ∙ sym (time_after-no_time number log i entry within c.entry-item.is 0 w.if-is_of_time.ensures)
    ]
