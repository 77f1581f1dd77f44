use Rattle.std.proofs.Common.{◌≡◌, ◌==◌, ◌+◌, All, take, not, refl, sym, ap, subst, ◌∙◌}
use Rattle.std.proofs.lemmas.List.Elements.{All-nil, All-push}
use Rattle.std.specs.FinMap.{empty}
use Rattle.state_store.specs.Store.{Values, Content, with_value, replay, numbered, IsBase}
use Rattle.operator.specs.Holding.{is_of_time}
use Rattle.window_store.specs.Windows.{IsWindowKey, of_windows}
use Rattle.window_store.proofs.Logs.{replay-window, replay-no_window, is_window, loadable_at}
use Rattle.window_store.proofs.loading.loaded_windows.Goals as goal
use Rattle.window_store.proofs.loading.loaded_windows.Goals.{then-is_of_window+in_ok-apply, else-is_of_window}

pub loop-entry-init : goal.loop-entry-init
loop-entry-init c =
    let map : c.new-kept.result.map ≡ empty = ap (λ s. s.map) c.new-kept.ensures in
    record {
      map = map;
      base = subst (IsBase empty) (sym c.new-kept.ensures) refl;
      written = subst (λ (content : Content). All IsWindowKey content.written) (sym c.new-kept.ensures) (All-nil IsWindowKey);
    }

pub loop-entry-preserved : goal.loop-entry-preserved
loop-entry-preserved c =
    let number = c.args.number in
    let log = c.args.log.now in
    let i = c.loop-entry.entry-index in
    let entry = c.entry-item.result in
    let within = c.loop-entry-test.true in
    let old = c.loop-entry.kept in
    let before = c.loop-entry.invariant in
    let AreIn : Content → Type 0 = λ content. content.map ≡ replay empty (of_windows (numbered number (take (i + 1) log))) in
    let AreWindows : Content → Type 0 = λ content. All IsWindowKey content.written in
    elim c.if-is_of_window.branch [
      | then-is_of_window+in_ok-apply w ↦
          let applied = w.in_ok-apply.ensures in
          let entry_is = loadable_at number log i entry within c.entry-item.is c.requires (not (is_of_time entry)) w.if-is_of_window.ensures in
          let window : IsWindowKey entry.key = is_window entry entry_is (entry.store == number) w.if-is_of_window.ensures in
          record {
            map =
                subst AreIn (sym w.kept-is)
                (applied.map
                ∙ ap (λ (m : Values). with_value m entry.key entry.value) before.map
                ∙ sym (replay-window number log i entry within c.entry-item.is empty w.if-is_of_window.ensures));
            base = subst (IsBase empty) (sym w.kept-is) (applied.base empty before.base);
            written =
                subst AreWindows (sym w.kept-is)
                (subst (All IsWindowKey) (sym applied.written) (All-push IsWindowKey old.written entry.key before.written window));
          }
      | else-is_of_window w ↦ record {
        map =
            subst AreIn (sym w.kept-is)
            (before.map ∙ sym (replay-no_window number log i entry within c.entry-item.is empty w.if-is_of_window.ensures));
        base = subst (IsBase empty) (sym w.kept-is) before.base;
        written = subst AreWindows (sym w.kept-is) before.written;
      }
    ]
