use Rattle.std.proofs.Common.{All, subst, sym, ◌∙◌}
use Rattle.window_store.proofs.ChangeLogs.{IsOfWindow, windows-changed}
use Rattle.window_store.proofs.store.WStore.load.Goals as goal

pub index_of-requires : goal.index_of-requires
index_of-requires c =
    subst (All IsOfWindow) (sym (c.items.ensures ∙ c.in_ok-changes.ensures.given)) (windows-changed c.in_ok-kept.kept c.in_ok-kept.ensures.written)
