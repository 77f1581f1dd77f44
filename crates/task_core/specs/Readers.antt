-- The remaining entries that a task takes.
use Rattle.std.specs.Prelude.{ℕ, zero, suc, ◌+◌, Bool, true, false, not, List, [], ◌∷◌, ◌++◌, length, map, flat_map}
use Rattle.std.specs.Ordering.{is_gt}
use Rattle.ksql_types.specs.declared.relation.Kind.{Kind}
use Rattle.ksql_types.specs.declared.value.Value.{Value}
use Rattle.ksql_place.specs.Ascending.{ascending}
use Rattle.ksql_place.specs.Order.{between_cmp}
use Rattle.ksql_place.specs.Said.{saying}
use Rattle.ksql_place.specs.declared.stamp.Place.{Place}
use Rattle.ksql_nodes.specs.Entries.{Entry, from_side}
use Rattle.query_meaning.specs.Queries.{entry_cmp, key_cells}
use Rattle.topology.specs.Contents.{with_cells}
use Rattle.topology.specs.declared.topology.SubInput.{SubInput}
use Rattle.core_state.specs.declared.log.LogEntry.{LogEntry}
use Rattle.core_state.specs.declared.log.LogEntry.TheVariants.{Fed, Said}
use Rattle.topic_log.specs.Entries.{entries_in}
use Rattle.topic_log.specs.Order.{IsInPlaceOrder, place_of}
use Rattle.task_core.specs.declared.places.Front.{Front}
use Rattle.task_core.specs.declared.reader.Reader.{Reader}
use Rattle.task_core.specs.declared.reader.Rest.{Rest}

-- ---- rows

-- a row as a task reads it: after this many key columns; with none it is whole already
abbrev pub whole_row : ℕ → List Value → List Value → List Value
whole_row zero key row = row
whole_row (suc columns) key row = key_cells (suc columns) key ++ row

-- ---- entries

-- what a task takes of an entry on a side, if it reads the records as those of a kind
abbrev pub taken_as : Kind → ℕ → SubInput → LogEntry → List Entry
taken_as kind side input (Fed r) = from_side side (map (with_cells input.keys) (saying kind r))
taken_as kind side input (Said c) = from_side side (with_cells input.keys c ∷ [])

-- what a task takes of the rest of an input
abbrev pub rest_on : ℕ → Rest → List Entry
rest_on side r = flat_map (taken_as r.kind side r.input) (entries_in r.entries)

-- everything left in a reader
abbrev pub pending : Reader → List Entry
pending r = ascending (entry_cmp r.left.input.relation r.right.input.relation) (rest_on 0 r.left ++ rest_on 1 r.right)

-- the number of entries left
abbrev pub left_len : Reader → ℕ
left_len r = length (entries_in r.left.entries) + length (entries_in r.right.entries)

-- the rest of both inputs is in the order of places
pub record IsOrdered (r : Reader) : Type 0 where
  pub left : IsInPlaceOrder (entries_in r.left.entries)
  pub right : IsInPlaceOrder (entries_in r.right.entries)

-- whether the first entry on the left goes next: it isn't after the first one on the right
abbrev pub goes_left : ℕ → ℕ → List LogEntry → List LogEntry → Bool
goes_left left right [] ys = false
goes_left left right (x ∷ xs) [] = true
goes_left left right (x ∷ xs) (y ∷ ys) = not (is_gt (between_cmp (place_of x) left (place_of y) right))

-- a place with borrowed stamp and path
abbrev pub place_at : Front → Place
place_at front = record { stamp = front.stamp.now; path = front.path.now }
