-- Tumbling and hopping windows with grace (ksqlDB reference manual, "Time and windows"; Kafka Streams developer guide,
-- "Windowing").
use Rattle.std.specs.Prelude.{ℕ, ◌+◌, ◌*◌, ◌/◌, ◌==◌, ◌&&◌, nat_lt, Bool, if◌then◌else◌, List, [], ◌∷◌, ◌++◌, map, filter, flat_map, Some}
use Rattle.std.specs.List.{list_any, range_with_len, enumerate_from}
use Rattle.ksql_types.specs.Lane.{lane}
use Rattle.ksql_types.specs.declared.value.Value.{Value}
use Rattle.ksql_types.specs.declared.relation.Kind.{Kind}
use Rattle.ksql_types.specs.declared.relation.Span.{Span}
use Rattle.ksql_types.specs.declared.relation.Window.{Window}
use Rattle.ksql_place.specs.declared.change.Change.{Change}
use Rattle.ksql_program.specs.declared.query.Agg.{Agg}
use Rattle.ksql_nodes.specs.Entries.{Entry, is_same_key, latest_time, results}
use Rattle.ksql_nodes.specs.Rows.{at_path}
use Rattle.ksql_nodes.specs.Aggregates.{group_change}

-- an entry and its stream time
pub record Timed : Type 0 where
  pub entry : Entry
  pub stream_time : ℕ

-- whether the keys of two entries are in the same lane of n
abbrev pub is_same_lane : ℕ → Entry → Entry → Bool
is_same_lane n a b = lane a.change.key n 0 == lane b.change.key n 0

-- stream time is the greatest time of the entries of one lane up to this one
abbrev pub timed : ℕ → List Entry → Entry → Timed
timed n before e = record { entry = e; stream_time = latest_time (filter (is_same_lane n e) before ++ e ∷ []) }

-- entries, each with its stream time
abbrev pub with_times : ℕ → List Entry → List Timed
with_times n es = results (λ before e. timed n before e ∷ []) [] es

-- the windows that contain a time, by ascending start: they start at multiples of the advance up to the time, and end
-- after it
abbrev pub windows_of : Window → ℕ → List Span
windows_of w time =
    filter (λ s. nat_lt time s.end)
    (map (λ k. record { start = k * w.advance; end = k * w.advance + w.size }) (range_with_len 0 (time / w.advance + 1)))

abbrev pub is_same_span : Span → Span → Bool
is_same_span a b = (a.start == b.start) && (a.end == b.end)

-- whether an entry is added to a window: it contains the entry's time, and stream time is before its end plus the grace
abbrev pub is_added : Window → Span → Timed → Bool
is_added w span t =
    list_any (is_same_span span) (windows_of w t.entry.change.time) && nat_lt t.stream_time (span.end + w.grace)

-- the entries of a key that were added to a window
abbrev pub added : Window → Span → List Value → List Timed → List Entry
added w span key ts = map (λ t. t.entry) (filter (λ t. is_same_key t.entry.change.key key && is_added w span t) ts)

-- an entry's change of one of its windows, whose index is the last number of the path; none if it comes too late
abbrev pub window_change : Kind → List Agg → Window → List Timed → Timed → ℕ × Span → List Change
window_change over aggs w before t (i, span) =
    if is_added w span t
    then at_path (t.entry.change.place.path ++ i ∷ []) (group_change over aggs (Some span) (added w span t.entry.change.key before) t.entry) ∷ []
    else []

-- the changes of all windows of an entry
abbrev pub windowed : Kind → List Agg → Window → List Timed → Timed → List Change
windowed over aggs w before t = flat_map (window_change over aggs w before t) (enumerate_from 0 (windows_of w t.entry.change.time))
