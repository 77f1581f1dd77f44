-- The entries of a log that are of windows and of the stream time, up to one more entry.
use Rattle.std.proofs.Common.{◌≡◌, ℕ, ◌+◌, ◌<◌, ◌==◌, Bool, true, false, cond, not, ◌&&◌, List, [], ◌∷◌, ◌++◌, take, get_or, length, All, IsTrue, filter, Some, inl, inr, refl, sym, ap, subst, ◌∙◌, true≢false, arith}
use Rattle.std.proofs.lemmas.Bool.{eqb-true}
use Rattle.std.proofs.lemmas.List.{append-nil}
use Rattle.std.proofs.lemmas.List.Elements.{All-nil, All-cons, All-head, All-tail, filter-append, filter_more}
use Rattle.std.proofs.lemmas.Option.{same_Some}
use Rattle.ksql_types.specs.declared.relation.StoreEntry.{StoreEntry}
use Rattle.state_store.specs.Store.{Values, with_value, replay, numbered}
use Rattle.state_store.proofs.ReplayLemmas.{replay-append}
use Rattle.record_codec.specs.Spelling.{eight}
use Rattle.operator.specs.Holding.{is_of_time, time_after, IsWindowEntry}
use Rattle.window_store.specs.Windows.{IsWindowKey, of_windows, of_time}
use Rattle.window_store.proofs.WindowKeys.{long, length-eight}

filter-more : {X : Type 0} (p : X → Bool) (xs : List X) (i : ℕ) (x : X) → i < length xs → x ≡ get_or xs i x → filter p (take (i + 1) xs) ≡ filter p (take i xs) ++ cond (p x) (x ∷ []) []
filter-more p xs i x within here =
    filter_more p xs i x within ∙ ap (λ y. filter p (take i xs) ++ cond (p y) (y ∷ []) []) (sym here)

filter-cond : {X : Type 0} (p : X → Bool) (x : X) (b : Bool) → filter p (cond b (x ∷ []) []) ≡ cond (b && p x) (x ∷ []) []
filter-cond p x true = refl
filter-cond p x false = refl

-- the entries with a number that pass a test
filter-numbered_more : (p : StoreEntry → Bool) (number : ℕ) (log : List StoreEntry) (i : ℕ) (entry : StoreEntry) → i < length log → entry ≡ get_or log i entry → (b : Bool) → b ≡ (entry.store == number && p entry) → filter p (numbered number (take (i + 1) log)) ≡ filter p (numbered number (take i log)) ++ cond b (entry ∷ []) []
filter-numbered_more p number log i entry within here b is =
    let before = numbered number (take i log) in
    ap (filter p) (filter-more (λ e. e.store == number) log i entry within here)
    ∙ filter-append p before (cond (entry.store == number) (entry ∷ []) [])
    ∙ ap (λ more. filter p before ++ more) (filter-cond p entry (entry.store == number) ∙ ap (λ b. cond b (entry ∷ []) []) (sym is))

-- ---- the map

module _ (number : ℕ) (log : List StoreEntry) (i : ℕ) (entry : StoreEntry) (within : i < length log) (here : entry ≡ get_or log i entry) where
  pub replay-window : (m : Values) → true ≡ (entry.store == number && not (is_of_time entry)) → replay m (of_windows (numbered number (take (i + 1) log))) ≡ with_value (replay m (of_windows (numbered number (take i log)))) entry.key entry.value
  replay-window m is =
      ap (replay m) (filter-numbered_more (λ entry. not (is_of_time entry)) number log i entry within here true is)
      ∙ replay-append m (of_windows (numbered number (take i log))) (entry ∷ [])

  pub replay-no_window : (m : Values) → false ≡ (entry.store == number && not (is_of_time entry)) → replay m (of_windows (numbered number (take (i + 1) log))) ≡ replay m (of_windows (numbered number (take i log)))
  replay-no_window m is =
      ap (replay m) (filter-numbered_more (λ entry. not (is_of_time entry)) number log i entry within here false is ∙ append-nil (of_windows (numbered number (take i log))))

-- ---- the stream time

time_after-append : (time : ℕ) (log more : List StoreEntry) → time_after time (log ++ more) ≡ time_after (time_after time log) more
time_after-append time [] more = refl
time_after-append time (entry ∷ log) more = time_after-append (time_after time (entry ∷ [])) log more

module _ (number : ℕ) (log : List StoreEntry) (i : ℕ) (entry : StoreEntry) (within : i < length log) (here : entry ≡ get_or log i entry) where
  pub time_after-time : (time : ℕ) → true ≡ (entry.store == number && is_of_time entry) → time_after time (of_time (numbered number (take (i + 1) log))) ≡ time_after (time_after time (of_time (numbered number (take i log)))) (entry ∷ [])
  time_after-time time is =
      ap (time_after time) (filter-numbered_more is_of_time number log i entry within here true is)
      ∙ time_after-append time (of_time (numbered number (take i log))) (entry ∷ [])

  pub time_after-no_time : (time : ℕ) → false ≡ (entry.store == number && is_of_time entry) → time_after time (of_time (numbered number (take (i + 1) log))) ≡ time_after time (of_time (numbered number (take i log)))
  time_after-no_time time is =
      ap (time_after time) (filter-numbered_more is_of_time number log i entry within here false is ∙ append-nil (of_time (numbered number (take i log))))

-- ---- what a loadable entry is

All-from_filter : {X : Type 0} (p : X → Bool) (P : X → Type 0) (xs : List X) → All P (filter p xs) → All (λ x. p x ≡ true → P x) xs
All-from_filter p P [] h = All-nil (λ x. p x ≡ true → P x)
All-from_filter p P (x ∷ xs) h = by (p x) refl h (All-from_filter p P xs)
  where
    by : (b : Bool) → p x ≡ b → All P (cond b (x ∷ filter p xs) (filter p xs)) → (All P (filter p xs) → All (λ x. p x ≡ true → P x) xs) → All (λ x. p x ≡ true → P x) (x ∷ xs)
    by true e h rest = All-cons (λ x. p x ≡ true → P x) x xs (λ _. All-head P x (filter p xs) h) (rest (All-tail P x (filter p xs) h))
    by false e h rest = All-cons (λ x. p x ≡ true → P x) x xs (λ is. absurd (true≢false (sym is ∙ e))) (rest h)

-- an entry with the number of a loadable log
pub loadable_at : (number : ℕ) (log : List StoreEntry) (i : ℕ) (entry : StoreEntry) → i < length log → entry ≡ get_or log i entry → All IsWindowEntry (numbered number log) → (more : Bool) → true ≡ (entry.store == number && more) → IsWindowEntry entry
loadable_at number log i entry within here all more is =
    let P : StoreEntry → Type 0 = λ entry. (entry.store == number) ≡ true → IsWindowEntry entry in
    subst P (sym here) (All-from_filter (λ entry. entry.store == number) IsWindowEntry log all i entry within) (by (entry.store == number) is)
  where
    by : (b : Bool) → true ≡ (b && more) → b ≡ true
    by true e = refl
    by false e = absurd (true≢false e)

pub is_window : (entry : StoreEntry) → IsWindowEntry entry → (has_number : Bool) → true ≡ (has_number && not (is_of_time entry)) → IsWindowKey entry.key
is_window entry (inl w) has_number is = w
is_window entry (inr t) has_number is = absurd (by has_number (is ∙ ap (λ (key : List ℕ). has_number && not (length key == 0)) t.1))
  where
    by : (b : Bool) → true ≡ (b && false) → ⊥
    by true e = true≢false e
    by false e = true≢false e

pub length-of_time : (entry : StoreEntry) → IsWindowEntry entry → IsTrue (is_of_time entry) → (value : List ℕ) → entry.value ≡ Some value → length value ≡ 8
length-of_time entry (inl w) is value e = absurd (omega (arith, long entry.key w, eqb-true (length entry.key) 0 is))
length-of_time entry (inr t) is value e = ap length (same_Some value (eight t.0) (sym e ∙ t.2)) ∙ length-eight t.0
