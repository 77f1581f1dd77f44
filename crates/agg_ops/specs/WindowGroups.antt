-- What the store of a windowed aggregate holds, between two entries and within one.
use Rattle.std.specs.Prelude.{◌≡◌, ℕ, ◌+◌, ◌≤◌, nat_lt, Bool, ◌&&◌, if◌then◌else◌, List, [], ◌∷◌, ◌++◌, map, filter, flat_map, bytes_eq, IfSome, option_map}
use Rattle.std.specs.FinMap.{get}
use Rattle.std.specs.List.{AllByRecursion, list_any}
use Rattle.ksql_types.specs.declared.relation.Kind.TheVariants.{Stream}
use Rattle.ksql_types.specs.declared.relation.Span.{Span}
use Rattle.ksql_types.specs.declared.relation.Window.{Window}
use Rattle.ksql_types.specs.declared.value.Value.{Value}
use Rattle.ksql_program.specs.declared.query.Agg.{Agg}
use Rattle.ksql_nodes.specs.Entries.{Entry, latest_time}
use Rattle.ksql_nodes.specs.Windows.{windows_of, with_times}
use Rattle.record_codec.specs.Spelling.{AreSpellable, values}
use Rattle.state_store.specs.Store.{Values}
use Rattle.window_store.specs.Windows.{under}
use Rattle.operator.specs.Kept.{is_under, totals}
use Rattle.operator.specs.StandsFor.{HasSpelledKey}

-- the entries that were added to the window with these bytes, if it is still open at this stream time
abbrev pub added_upto : ℕ → Window → List Entry → List ℕ → List Entry
added_upto time w es b = flat_map (λ t. map (λ s. t.entry) (filter (is_under w time b t) (windows_of w t.entry.change.time))) (with_times 1 es)

-- these values are what is kept of the windows of some entries that are still open at a stream time, each under the
-- bytes of its key and start, and nothing else; no entry is later than that time
pub record HoldsWindows (aggs : List Agg) (w : Window) (m : Values) (time : ℕ) (es : List Entry) : Type 0 where
  pub keys : AllByRecursion HasSpelledKey es
  pub spelled : (b : List ℕ) → IfSome (totals Stream aggs (added_upto time w es b)) AreSpellable
  pub windows : (b : List ℕ) → get m b ≡ option_map values (totals Stream aggs (added_upto time w es b))
  pub late : latest_time es ≤ time

-- whether one of some windows of a key, still open at a stream time, has these bytes
abbrev pub is_one_of : ℕ → Window → List Value → List Span → List ℕ → Bool
is_one_of time w key spans b = list_any (λ s. nat_lt time (s.end + w.grace) && bytes_eq b (under (values key) s.start)) spans

-- the entries of the window with these bytes after one more was added to some of its windows
abbrev pub added_partly : ℕ → Window → List Entry → Entry → List Span → List ℕ → List Entry
added_partly time w es e spans b = added_upto time w es b ++ (if is_one_of time w e.change.key spans b then e ∷ [] else [])

-- the same as `HoldsWindows`, after one more entry was added to some of its windows
pub record HoldsPartly (aggs : List Agg) (w : Window) (m : Values) (time : ℕ) (es : List Entry) (e : Entry) (spans : List Span) : Type 0 where
  pub keys : AllByRecursion HasSpelledKey es
  pub key : HasSpelledKey e
  pub spelled : (b : List ℕ) → IfSome (totals Stream aggs (added_partly time w es e spans b)) AreSpellable
  pub windows : (b : List ℕ) → get m b ≡ option_map values (totals Stream aggs (added_partly time w es e spans b))
  pub late : latest_time es ≤ time
