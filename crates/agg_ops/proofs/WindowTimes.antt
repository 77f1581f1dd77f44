-- Entries with their own stream times, if any lane.
use Rattle.std.proofs.Common.{◌≡◌, ◌∙◌, ap, ap₂, refl, sym, ℕ, ◌≤◌, List, [], ◌∷◌, ◌++◌, cond, arith}
use Rattle.std.proofs.lemmas.Bool.Decides.{Decides-eqb}
use Rattle.std.specs.List.{AllByRecursion}
use Rattle.std.specs.Prelude.{filter}
use Rattle.ksql_types.specs.Lane.{lane}
use Rattle.ksql_types.specs.declared.value.Value.{Value}
use Rattle.ksql_nodes.specs.Entries.{Entry, latest_time, results}
use Rattle.ksql_nodes.specs.Windows.{Timed, is_same_lane, timed, with_times}
use Rattle.ksql_nodes.proofs.Results.{results-more}

one-lane : (key : List Value) → lane key 1 0 ≡ 0
one-lane [] = refl
one-lane (k ∷ ks) = omega arith

all-lane : (e : Entry) (es : List Entry) → filter (is_same_lane 1 e) es ≡ es
all-lane e [] = refl
all-lane e (x ∷ xs) =
    ap₂ (λ b rest. cond b (x ∷ rest) rest) ((Decides-eqb (lane e.change.key 1 0) (lane x.change.key 1 0)).1 (one-lane e.change.key ∙ sym (one-lane x.change.key))) (all-lane e xs)

-- the stream time at an entry is the greatest time up to it
pub time-at : (es : List Entry) (e : Entry) → (timed 1 es e).stream_time ≡ latest_time (es ++ e ∷ [])
time-at es e = ap (λ es. latest_time (es ++ e ∷ [])) (all-lane e es)

abbrev with_time : List Entry → Entry → List Timed
with_time before e = timed 1 before e ∷ []

pub times-more : (es : List Entry) (e : Entry) → with_times 1 (es ++ e ∷ []) ≡ with_times 1 es ++ timed 1 es e ∷ []
times-more es e = results-more with_time [] es e

times-from : (P : Entry → Type 0) (before es : List Entry) → AllByRecursion P es → AllByRecursion (λ t. P t.entry) (results with_time before es)
times-from P before [] h = tt
times-from P before (e ∷ es) h = (h.0, times-from P (before ++ e ∷ []) es h.1)

pub times-each : (P : Entry → Type 0) (es : List Entry) → AllByRecursion P es → AllByRecursion (λ t. P t.entry) (with_times 1 es)
times-each P es h = times-from P [] es h

-- no entry is later than the latest
each-late : (es : List Entry) (time : ℕ) → latest_time es ≤ time → AllByRecursion (λ e. e.change.time ≤ time) es
each-late [] time le = tt
each-late (e ∷ es) time le = (omega arith, each-late es time (omega arith))

pub times-late : (es : List Entry) (time : ℕ) → latest_time es ≤ time → AllByRecursion (λ t. t.entry.change.time ≤ time) (with_times 1 es)
times-late es time le = times-each (λ e. e.change.time ≤ time) es (each-late es time le)
