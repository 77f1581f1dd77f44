use Rattle.std.proofs.Common.{◌≡◌, ◌<◌, ◌^◌, List, All, ◌++◌, ◌∷◌, [], subst, sym, ap, ap₂, ◌∙◌, arith}
use Rattle.ksql_types.specs.declared.relation.StoreEntry.{StoreEntry}
use Rattle.state_store.specs.Store.{replay, changes_of, IsBase}
use Rattle.operator.specs.Holding.{time_after, IsWindowEntry}
use Rattle.window_store.specs.Windows.{of_windows, of_time}
use Rattle.window_store.proofs.IndexLemmas.{IsIndex-committed}
use Rattle.window_store.proofs.ChangeLogs.{IsOfWindow, time_entry, windows-changed, windows-in, time-in, loadable}
use Rattle.window_store.proofs.store.WStore.changes.Goals as goal

pub invariant_of-self-2 : goal.invariant_of-self-2
invariant_of-self-2 c =
    IsIndex-committed c.self.inside.starts c.self.inside.kept c.commit.new.self c.commit.ensures c.self.invariant

-- the changes of the windows, and then the stream time
log_is : (c : goal.After-of) → c.of.result ≡ changes_of c.self.inside.kept ++ time_entry c.self.inside.time ∷ []
log_is c =
    c.of.ensures
    ∙ c.in_ok-push.ensures.items
    ∙ ap₂ (λ (log : List StoreEntry) (entry : StoreEntry). log ++ entry ∷ []) (c.reserve.ensures.items ∙ c.into_items-changes.ensures ∙ c.in_ok-changes_since_commit.ensures) c.in_ok-time.ensures

windows : (c : goal.After-of) → All IsOfWindow (changes_of c.self.inside.kept)
windows c = windows-changed c.self.inside.kept c.self.invariant.written

pub returns-clause-replayed : goal.returns-clause-replayed
returns-clause-replayed c base is =
    let kept = c.self.inside.kept in
    let over : IsBase base kept = subst (IsBase base) (sym (ap (λ w. w.content) c.self.view_is)) is in
    ap (replay base) (ap of_windows (log_is c) ∙ windows-in (changes_of kept) c.self.inside.time (windows c))
    ∙ over
    ∙ sym (ap (λ s. s.map) c.commit.ensures)

pub returns-clause-time : goal.returns-clause-time
returns-clause-time c time =
    let fits : c.self.inside.time < 2 ^ 64 = omega arith in
    ap (λ (log : List StoreEntry). time_after time (of_time log)) (log_is c)
    ∙ time-in (changes_of c.self.inside.kept) c.self.inside.time (windows c) fits time

pub returns-clause-loadable : goal.returns-clause-loadable
returns-clause-loadable c =
    subst (All IsWindowEntry) (sym (log_is c)) (loadable (changes_of c.self.inside.kept) c.self.inside.time (windows c))
