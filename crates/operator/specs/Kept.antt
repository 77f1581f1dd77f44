-- What is kept of the entries of a key, and under which bytes. A key is spelled with the types of its values, so keys
-- of different types have different bytes.
use Rattle.std.specs.Prelude.{ℕ, ◌+◌, Bool, ◌&&◌, nat_lt, List, ◌∷◌, ◌++◌, map, filter, flat_map, bytes_eq, Option, Some, None, option_map, option_and_then, pos}
use Rattle.std.specs.List.{last_or}
use Rattle.ksql_types.specs.declared.relation.Kind.{Kind}
use Rattle.ksql_types.specs.declared.relation.Span.{Span}
use Rattle.ksql_types.specs.declared.relation.Window.{Window}
use Rattle.ksql_types.specs.declared.value.Value.{Value}
use Rattle.ksql_types.specs.declared.value.Value.TheVariants.{Big}
use Rattle.ksql_place.specs.Said.{row_in}
use Rattle.ksql_place.specs.declared.change.Body.TheVariants.{Turned}
use Rattle.ksql_place.specs.declared.change.Change.{Change}
use Rattle.ksql_program.specs.declared.query.Agg.{Agg}
use Rattle.ksql_nodes.specs.Entries.{Entry, latest_time}
use Rattle.ksql_nodes.specs.Aggregates.{unless_none, worth}
use Rattle.ksql_nodes.specs.Windows.{Timed, windows_of, is_added, with_times}
use Rattle.record_codec.specs.Spelling.{eight, values, spelling}

-- the entries whose key has this spelling
abbrev pub at_bytes : List ℕ → List Entry → List Entry
at_bytes b es = filter (λ e. bytes_eq b (values e.change.key)) es

-- what a table keeps of a change: the change that sets its row, without the row before; nothing of a change without a
-- row
abbrev pub kept : Change → Option Change
kept c = option_map (λ row. record c { body = Turned None (Some row) }) (row_in c.body)

-- what is kept after some entries of a key: that of the last one
abbrev pub kept_after : List Entry → Option Change
kept_after es = option_and_then (λ e. kept e.change) (last_or None es)

-- what a table holds after entries, by the bytes of a key
abbrev pub rows_at : List Entry → List ℕ → Option (List ℕ)
rows_at es b = option_map spelling (kept_after (at_bytes b es))

-- what a group keeps of its entries: their greatest time, and the aggregates over them; nothing if there are none
abbrev pub totals : Kind → List Agg → List Entry → Option (List Value)
totals over aggs es = unless_none es (Big (pos (latest_time es)) ∷ map (worth over es) aggs)

-- what an aggregate without a window holds after entries, by the bytes of a key
abbrev pub groups_at : Kind → List Agg → List Entry → List ℕ → Option (List ℕ)
groups_at over aggs es b = option_map values (totals over aggs (at_bytes b es))

-- whether an entry that was added to a window still open at a stream time is under these bytes: its key, then the start
abbrev pub is_under : Window → ℕ → List ℕ → Timed → Span → Bool
is_under w time b t s =
    is_added w s t && (nat_lt time (s.end + w.grace) && bytes_eq b (values t.entry.change.key ++ eight s.start))

-- the entries that were added to the open window under these bytes
abbrev pub added_at : Window → List Entry → List ℕ → List Entry
added_at w es b =
    flat_map (λ t. map (λ s. t.entry) (filter (is_under w (latest_time es) b t) (windows_of w t.entry.change.time))) (with_times 1 es)

-- what a windowed aggregate holds after entries, by the bytes of a key and a start
abbrev pub windows_at : Kind → List Agg → Window → List Entry → List ℕ → Option (List ℕ)
windows_at over aggs w es b = option_map values (totals over aggs (added_at w es b))
