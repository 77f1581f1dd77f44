-- The rows of a table at an input: reading them, and one more entry.
use Rattle.std.proofs.Common.{◌≡◌, ◌∙◌, ap, refl, sym, List, [], ◌∷◌, ◌++◌, ℕ, cond, All, Result}
use Rattle.std.specs.Prelude.{Option, None, Some, IfOk, IfSome, option_and_then, option_map, unwrap_or}
use Rattle.std.specs.List.{last_or}
use Rattle.std.proofs.lemmas.Option.{same_Some}
use Rattle.std.specs.FinMap.{get}
use Rattle.std.specs.Str.{bytes_eq}
use Rattle.ksql_types.specs.declared.value.Value.{Value}
use Rattle.ksql_place.specs.Said.{row_in}
use Rattle.ksql_place.specs.declared.change.Body.TheVariants.{Turned}
use Rattle.ksql_place.specs.declared.change.Change.{Change}
use Rattle.ksql_nodes.specs.Entries.{Entry, Row, is_same_key, of_key, row_after, time_after}
use Rattle.ksql_nodes.proofs.Lists.{All-append}
use Rattle.record_codec.specs.Spelling.{values, spelling, IsShort, IsSpellable, IsSpellableRow}
use Rattle.state_store.specs.Store.{Values, with_value}
use Rattle.state_store.proofs.ReplayLemmas.{get-with_value}
use Rattle.operator.specs.Kept.{kept, kept_after}
use Rattle.operator.specs.StandsFor.{HasSpelledRow}
use Rattle.operator.proofs.SameKeys.{at_bytes-of_key, of_key-long}
use Rattle.operator.proofs.Rows.{rows_at-more, All-keys, kept_after-spelled}
use Rattle.row_ops.specs.InputTable.{HoldsRows, latest_row}

-- the value under the bytes of a key
pub rows-read : (m : Values) (es : List Entry) (key : List Value) → HoldsRows m es → IsSpellableRow key →
    get m (values key) ≡ option_map spelling (kept_after (of_key key es))
rows-read m es key h spelled =
    h.rows (values key) ∙ ap (λ es. option_map spelling (kept_after es)) (at_bytes-of_key key es spelled (All-keys es h.spelled))

pub rows-spelled : (m : Values) (es : List Entry) (key : List Value) → HoldsRows m es → IfSome (kept_after (of_key key es)) IsSpellable
rows-spelled m es key h = kept_after-spelled (λ e. is_same_key e.change.key key) es h.spelled

-- a key with a long value has no row
pub rows-long : (m : Values) (es : List Entry) (key : List Value) → HoldsRows m es → ¬ (All IsShort key) → None ≡ latest_row (of_key key es)
rows-long m es key h long = ap latest_row (sym (of_key-long key es long (All-keys es h.spelled)))

-- one entry more
pub rows-more : (old new : Values) (es : List Entry) (e : Entry) → HoldsRows old es → HasSpelledRow e →
    new ≡ with_value old (values e.change.key) (option_map spelling (kept e.change)) → HoldsRows new (es ++ e ∷ [])
rows-more old new es e h spelled is = record {
  spelled = All-append HasSpelledRow es (e ∷ []) h.spelled (spelled, tt);
  rows = λ b.
      let value : Option (List ℕ) = option_map spelling (kept e.change) in
      ap (λ m. get m b) is
      ∙ get-with_value old (values e.change.key) value b
      ∙ ap (λ (o : Option (List ℕ)). cond (bytes_eq b (values e.change.key)) value o) (h.rows b)
      ∙ sym (rows_at-more b es e);
}

-- the row and the time that entries leave, of both at once
pub row-latest : (es : List Entry) → option_map (λ t. t.1) (latest_row es) ≡ row_after es
row-latest es = by (last_or None es)
  where
    set : (e : Entry) (row : Option Row) → option_map (λ (t : ℕ × Row). t.1) (option_map (λ (row : Row). (e.change.time, row)) row) ≡ row
    set e None = refl
    set e (Some row) = refl

    by : (o : Option Entry) →
        option_map (λ (t : ℕ × Row). t.1) (option_and_then (λ (e : Entry). option_map (λ (row : Row). (e.change.time, row)) (row_in e.change.body)) o)
        ≡ option_and_then (λ (e : Entry). row_in e.change.body) o
    by None = refl
    by (Some e) = set e (row_in e.change.body)

pub time-latest : (es : List Entry) → unwrap_or (option_map (λ t. t.0) (latest_row es)) 0 ≡ time_after es
time-latest es = by (last_or None es)
  where
    set : (e : Entry) (row : Option Row) →
        option_map (λ (t : ℕ × Row). t.0) (option_map (λ (row : Row). (e.change.time, row)) row) ≡ option_map (λ (row : Row). e.change.time) row
    set e None = refl
    set e (Some row) = refl

    by : (o : Option Entry) →
        unwrap_or (option_map (λ (t : ℕ × Row). t.0) (option_and_then (λ (e : Entry). option_map (λ (row : Row). (e.change.time, row)) (row_in e.change.body)) o)) 0
        ≡ unwrap_or (option_and_then (λ (e : Entry). option_map (λ (row : Row). e.change.time) (row_in e.change.body)) o) 0
    by None = refl
    by (Some e) = ap (λ (o : Option ℕ). unwrap_or o 0) (set e (row_in e.change.body))

-- what is kept of entries is their row and its time
abbrev reads : {E : Type 0} → List ℕ → Result (Option (ℕ × Row)) E → Type 0
reads bytes r =
    (c : Change) (row : Row) → IsSpellable (record c { body = Turned None (Some row) }) → bytes ≡ spelling (record c { body = Turned None (Some row) }) → IfOk r (λ found. found ≡ Some (c.time, row))

pub latest-read : {E : Type 0} (bytes : List ℕ) (r : Result (Option (ℕ × Row)) E) → reads bytes r → (es : List Entry) → IfSome (kept_after es) IsSpellable →
    Some bytes ≡ option_map spelling (kept_after es) → IfOk r (λ found. found ≡ latest_row es)
latest-read bytes r read es = by (last_or None es)
  where
    set : (c : Change) (row : Option Row) → IfSome (option_map (λ row. record c { body = Turned None (Some row) }) row) IsSpellable →
        Some bytes ≡ option_map spelling (option_map (λ row. record c { body = Turned None (Some row) }) row) →
        IfOk r (λ found. found ≡ option_map (λ (row : Row). (c.time, row)) row)
    set c None fits is = absurd cc
    set c (Some row) fits is = read c row fits (same_Some bytes (spelling (record c { body = Turned None (Some row) })) is)

    by : (o : Option Entry) → IfSome (option_and_then (λ (e : Entry). kept e.change) o) IsSpellable → Some bytes ≡ option_map spelling (option_and_then (λ (e : Entry). kept e.change) o) →
        IfOk r (λ found. found ≡ option_and_then (λ (e : Entry). option_map (λ (row : Row). (e.change.time, row)) (row_in e.change.body)) o)
    by None fits is = absurd cc
    by (Some e) fits is = set e.change (row_in e.change.body) fits is

pub latest-none : (es : List Entry) → None ≡ option_map spelling (kept_after es) → None ≡ latest_row es
latest-none es = by (last_or None es)
  where
    timed : Change → Option Row → Option (ℕ × Row)
    timed c row = option_map (λ (row : Row). (c.time, row)) row

    set : (c : Change) (row : Option Row) → None ≡ option_map spelling (option_map (λ row. record c { body = Turned None (Some row) }) row) → None ≡ timed c row
    set c None is = refl
    set c (Some row) is = absurd cc

    by : (o : Option Entry) → None ≡ option_map spelling (option_and_then (λ (e : Entry). kept e.change) o) →
        None ≡ option_and_then (λ (e : Entry). timed e.change (row_in e.change.body)) o
    by None is = refl
    by (Some e) is = set e.change (row_in e.change.body) is
