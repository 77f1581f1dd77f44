-- The changelog of a store of windows: the changes of its windows, and then the stream time.
use Rattle.std.proofs.Common.{◌≡◌, ◌≢◌, ℕ, ◌<◌, ◌^◌, Bool, true, false, cond, not, List, [], ◌∷◌, ◌++◌, length, All, filter, Some, inl, inr, refl, ap, ap₂, ◌∙◌, arith}
use Rattle.std.proofs.lemmas.Bool.{ne_eqb}
use Rattle.std.proofs.lemmas.List.{append-nil}
use Rattle.std.proofs.lemmas.List.Elements.{All-map, All-weaker, All-push, All-head, All-tail, filter-append}
use Rattle.std.specs.Str.{bytes_eq}
use Rattle.ksql_types.specs.declared.relation.StoreEntry.{StoreEntry}
use Rattle.state_store.specs.Store.{Content, last_of_each, change_of, changes_of}
use Rattle.state_store.proofs.LastOfEach.{All-last_of_each}
use Rattle.record_codec.specs.Spelling.{eight}
use Rattle.operator.specs.Holding.{is_of_time, time_after, IsWindowEntry}
use Rattle.window_store.specs.Windows.{IsWindowKey, of_windows, of_time}
use Rattle.window_store.proofs.WindowKeys.{long, eight-again}

-- a change of a window
abbrev pub IsOfWindow : StoreEntry → Type 0
IsOfWindow change = IsWindowKey change.key

pub windows-changed : (c : Content) → All IsWindowKey c.written → All IsOfWindow (changes_of c)
windows-changed c h =
    All-map IsOfWindow (change_of c.map) (last_of_each bytes_eq c.written) (All-last_of_each bytes_eq IsWindowKey c.written h)

filter-kept : {X : Type 0} (p : X → Bool) (xs : List X) → All (λ x. p x ≡ true) xs → filter p xs ≡ xs
filter-kept p [] h = refl
filter-kept p (x ∷ xs) h =
    ap₂ (λ (b : Bool) rest. cond b (x ∷ rest) rest) (All-head (λ x. p x ≡ true) x xs h) (filter-kept p xs (All-tail (λ x. p x ≡ true) x xs h))

filter-dropped : {X : Type 0} (p : X → Bool) (xs : List X) → All (λ x. p x ≡ false) xs → filter p xs ≡ []
filter-dropped p [] h = refl
filter-dropped p (x ∷ xs) h =
    ap₂ (λ (b : Bool) rest. cond b (x ∷ rest) rest) (All-head (λ x. p x ≡ false) x xs h) (filter-dropped p xs (All-tail (λ x. p x ≡ false) x xs h))

no_time : (change : StoreEntry) → IsOfWindow change → is_of_time change ≡ false
no_time change w =
    let some : length change.key ≢ 0 = λ e. omega (arith, long change.key w) in
    ne_eqb (length change.key) 0 some

-- a stream time as an entry
abbrev pub time_entry : ℕ → StoreEntry
time_entry time = record { store = 0; key = []; value = Some (eight time) }

module _ (changes : List StoreEntry) (time : ℕ) (windows : All IsOfWindow changes) where
  pub windows-in : of_windows (changes ++ time_entry time ∷ []) ≡ changes
  windows-in =
      filter-append (λ entry. not (is_of_time entry)) changes (time_entry time ∷ [])
      ∙ append-nil (of_windows changes)
      ∙ filter-kept (λ entry. not (is_of_time entry)) changes
      (All-weaker IsOfWindow (λ entry. not (is_of_time entry) ≡ true) (λ entry w. ap not (no_time entry w)) changes windows)

  pub time-in : time < 2 ^ 64 → (before : ℕ) → time_after before (of_time (changes ++ time_entry time ∷ [])) ≡ time
  time-in fits before =
      ap (time_after before)
      (filter-append is_of_time changes (time_entry time ∷ [])
      ∙ ap (λ (log : List StoreEntry). log ++ time_entry time ∷ []) (filter-dropped is_of_time changes (All-weaker IsOfWindow (λ entry. is_of_time entry ≡ false) no_time changes windows)))
      ∙ eight-again time fits

  pub loadable : All IsWindowEntry (changes ++ time_entry time ∷ [])
  loadable =
      All-push IsWindowEntry changes (time_entry time)
      (All-weaker IsOfWindow IsWindowEntry (λ entry w. inl w) changes windows)
      (inr (time, refl, refl))
