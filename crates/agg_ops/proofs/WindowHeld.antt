-- What the operator of a windowed aggregate holds: before any entry, after one more, and by its changelog.
use Rattle.std.proofs.Common.{◌≡◌, ◌∙◌, ap, refl, sym, subst, ℕ, ◌≤◌, List, [], ◌∷◌, ◌++◌, map, Bool, true, false, cond, All, arith}
use Rattle.std.specs.Int.{w64, from_be_bytes}
use Rattle.std.specs.Prelude.{Some, not, option_map, unwrap_or}
use Rattle.std.specs.FinMap as finite
use Rattle.std.proofs.lemmas.List.Elements.{All-map}
use Rattle.ksql_types.specs.declared.relation.Kind.TheVariants.{Stream}
use Rattle.ksql_types.specs.declared.relation.StoreEntry.{StoreEntry}
use Rattle.ksql_types.specs.declared.relation.Window.{Window}
use Rattle.ksql_place.specs.declared.change.Change.{Change}
use Rattle.ksql_program.specs.declared.query.Agg.{Agg}
use Rattle.ksql_nodes.specs.declared.node.Node.TheVariants.{Aggregate}
use Rattle.ksql_nodes.specs.Entries.{Entry, latest_time}
use Rattle.ksql_nodes.specs.Nodes.{gives}
use Rattle.ksql_nodes.specs.Windows.{timed, windowed, with_times}
use Rattle.state_store.specs.Store.{replay, numbered, with_value, IsBase, Values}
use Rattle.operator.specs.Front.{IsFront}
use Rattle.operator.specs.Holding.{maps_of, nothing, unwritten, in_store, is_of_time, replayed, time_after, Held, IsBaseOf, IsWindowEntry, Maps}
use Rattle.operator.specs.StandsFor.{StandsFor}
use Rattle.operator.proofs.Fresh.{none}
use Rattle.window_store.specs.Windows.{of_time, of_windows, Windows}
use Rattle.agg_ops.specs.WindowGroups.{HoldsWindows}

-- what the operator holds with these windows
abbrev held_of : Windows → Held
held_of windows = record nothing { windows = windows.content; time = windows.time }

pub windows-stand : (aggs : List Agg) (w : Window) (windows : Windows) (size : ℕ) → windows ≡ record { size = size; content = unwritten finite.empty; time = 0 } →
    StandsFor (Aggregate Stream aggs (Some w)) (held_of windows) []
windows-stand aggs w windows size e =
    subst (λ (windows : Windows). StandsFor (Aggregate Stream aggs (Some w)) (held_of windows) []) (sym e)
    (record { spelled = (tt, λ b. tt); exact = record { left = none; right = none; aggregate = none; windows = none; time = refl } })

-- ---- one entry more

-- what a step over windows says
abbrev IsNextOf : List Agg → Window → Windows → Windows → List Change → List Change → Entry → Type 0
IsNextOf aggs w old new before after e =
    (es : List Entry) → old.time ≡ latest_time es → HoldsWindows aggs w old.content.map old.time es →
    (after ≡ before ++ windowed Stream aggs w (with_times 1 es) (timed 1 es e)) × (new.time ≡ latest_time (es ++ e ∷ [])) × HoldsWindows aggs w new.content.map new.time (es ++ e ∷ [])

stands-holds : (aggs : List Agg) (w : Window) (windows : Windows) (es : List Entry) → StandsFor (Aggregate Stream aggs (Some w)) (held_of windows) es → HoldsWindows aggs w windows.content.map windows.time es
stands-holds aggs w windows es s =
    let late : latest_time es ≤ latest_time es = omega arith in
    subst (λ (time : ℕ). HoldsWindows aggs w windows.content.map time es) (sym s.exact.time) (record { keys = s.spelled.0; spelled = s.spelled.1; windows = s.exact.windows; late = late })

next-of : (aggs : List Agg) (w : Window) (old new : Windows) (before after : List Change) (e : Entry) → IsNextOf aggs w old new before after e → (es : List Entry) →
    StandsFor (Aggregate Stream aggs (Some w)) (held_of old) es → (after ≡ before ++ gives 1 (Aggregate Stream aggs (Some w)) es e) × StandsFor (Aggregate Stream aggs (Some w)) (held_of new) (es ++ e ∷ [])
unfolding gives
next-of aggs w old new before after e is es s =
    let next = is es s.exact.time (stands-holds aggs w old es s) in
    let now = subst (λ (time : ℕ). HoldsWindows aggs w new.content.map time (es ++ e ∷ [])) next.1 next.2 in (
      next.0,
      record {
        spelled = (now.keys, now.spelled);
        exact = record { left = s.exact.left; right = s.exact.right; aggregate = s.exact.aggregate; windows = now.windows; time = next.1 };
      },
    )

-- the same, where the step had equal aggregates
pub windows-next : (lent aggs : List Agg) (w : Window) (old new : Windows) (before after : List Change) (e : Entry) → lent ≡ aggs → IsNextOf lent w old new before after e → (es : List Entry) →
    StandsFor (Aggregate Stream aggs (Some w)) (held_of old) es → (after ≡ before ++ gives 1 (Aggregate Stream aggs (Some w)) es e) × StandsFor (Aggregate Stream aggs (Some w)) (held_of new) (es ++ e ∷ [])
windows-next lent aggs w old new before after e same is = next-of aggs w old new before after e (subst (λ (aggs : List Agg). IsNextOf aggs w old new before after e) same is)

-- what a step that ran out of memory says: these changes are a front of what it gives
abbrev IsFrontFor : List Agg → Window → Windows → List Change → Entry → Type 0
IsFrontFor aggs w old some e =
    (es : List Entry) → old.time ≡ latest_time es → HoldsWindows aggs w old.content.map old.time es → IsFront some (windowed Stream aggs w (with_times 1 es) (timed 1 es e))

front-for : (aggs : List Agg) (w : Window) (old : Windows) (some : List Change) (e : Entry) → IsFrontFor aggs w old some e → (es : List Entry) → StandsFor (Aggregate Stream aggs (Some w)) (held_of old) es →
    IsFront some (gives 1 (Aggregate Stream aggs (Some w)) es e)
unfolding gives
front-for aggs w old some e is es s = is es s.exact.time (stands-holds aggs w old es s)

-- the same, where the step had equal aggregates
pub windows-front : (lent aggs : List Agg) (w : Window) (old : Windows) (some : List Change) (e : Entry) → lent ≡ aggs → IsFrontFor lent w old some e → (es : List Entry) →
    StandsFor (Aggregate Stream aggs (Some w)) (held_of old) es → IsFront some (gives 1 (Aggregate Stream aggs (Some w)) es e)
windows-front lent aggs w old some e same is = front-for aggs w old some e (subst (λ (aggs : List Agg). IsFrontFor aggs w old some e) same is)

-- ---- the changelog, under the number 2

replay-windows : (m : Values) (log : List StoreEntry) → replay m (of_windows (numbered 2 (map (in_store 2) log))) ≡ replay m (of_windows log)
replay-windows m [] = refl
replay-windows m (entry ∷ log) = by (not (is_of_time entry)) (λ m. replay-windows m log)
  where
    by : (b : Bool) → ((m : Values) → replay m (of_windows (numbered 2 (map (in_store 2) log))) ≡ replay m (of_windows log)) →
        replay m (cond b (in_store 2 entry ∷ of_windows (numbered 2 (map (in_store 2) log))) (of_windows (numbered 2 (map (in_store 2) log))))
        ≡ replay m (cond b (entry ∷ of_windows log) (of_windows log))
    by true rest = rest (with_value m entry.key entry.value)
    by false rest = rest m

after-time : (time : ℕ) (log : List StoreEntry) → time_after time (of_time (numbered 2 (map (in_store 2) log))) ≡ time_after time (of_time log)
after-time time [] = refl
after-time time (entry ∷ log) = by (is_of_time entry) (λ time. after-time time log)
  where
    by : (b : Bool) → ((time : ℕ) → time_after time (of_time (numbered 2 (map (in_store 2) log))) ≡ time_after time (of_time log)) →
        time_after time (cond b (in_store 2 entry ∷ of_time (numbered 2 (map (in_store 2) log))) (of_time (numbered 2 (map (in_store 2) log))))
        ≡ time_after time (cond b (entry ∷ of_time log) (of_time log))
    by true rest = rest (unwrap_or (option_map (from_be_bytes w64) entry.value) time)
    by false rest = rest time

numbered-two : (log : List StoreEntry) → numbered 2 (map (in_store 2) log) ≡ map (in_store 2) log
numbered-two [] = refl
numbered-two (entry ∷ log) = ap (λ (rest : List StoreEntry). in_store 2 entry ∷ rest) (numbered-two log)

-- the changes of the windows, over those at the last commit, are the windows
pub windows-replayed : (aggs : List Agg) (w : Window) (old new : Windows) (made log : List StoreEntry) → made ≡ map (in_store 2) log →
    ((base : Values) → IsBase base old.content → replay base (of_windows log) ≡ new.content.map) → ((time : ℕ) → time_after time (of_time log) ≡ new.time) →
    new ≡ record old { content = unwritten old.content.map } → (base : Maps) → IsBaseOf base (held_of old) →
    replayed (Aggregate Stream aggs (Some w)) base made ≡ maps_of (held_of old)
windows-replayed aggs w old new made log is given said committed base h =
    let windows : replay base.windows (of_windows (numbered 2 made)) ≡ old.content.map =
    ap (λ (log : List StoreEntry). replay base.windows (of_windows (numbered 2 log))) is ∙ replay-windows base.windows log ∙ given base.windows h.windows ∙ ap (λ (s : Windows). s.content.map) committed in
    let time : time_after base.time (of_time (numbered 2 made)) ≡ old.time =
    ap (λ (log : List StoreEntry). time_after base.time (of_time (numbered 2 log))) is ∙ after-time base.time log ∙ said base.time ∙ ap (λ (s : Windows). s.time) committed in
    λ i. record { left = h.left i; right = h.right i; aggregate = h.aggregate i; windows = windows i; time = time i }

-- they can be loaded
pub windows-loadable : (made log : List StoreEntry) → made ≡ map (in_store 2) log → All IsWindowEntry log → All IsWindowEntry (numbered 2 made)
windows-loadable made log is each = subst (All IsWindowEntry) (sym (ap (numbered 2) is ∙ numbered-two log)) (All-map IsWindowEntry (in_store 2) log each)
