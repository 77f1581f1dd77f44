-- What a task takes of what its inputs show.
use Rattle.std.specs.Prelude.{ℕ, zero, suc, List, [], ◌∷◌, ◌++◌, map, flat_map, option_map, slice_get, unwrap_or}
use Rattle.ksql_types.specs.declared.relation.Kind.{Kind}
use Rattle.ksql_types.specs.declared.relation.Kind.TheVariants as kind
use Rattle.ksql_place.specs.Ascending.{ascending}
use Rattle.ksql_place.specs.Said.{saying}
use Rattle.ksql_nodes.specs.declared.node.Node.{Node}
use Rattle.ksql_nodes.specs.declared.node.Node.TheVariants.{Table, JoinStreamTable, JoinTables}
use Rattle.ksql_nodes.specs.Entries.{Entry, from_side}
use Rattle.query_meaning.specs.Queries.{entry_cmp}
use Rattle.topology.specs.Contents.{with_cells}
use Rattle.topology.specs.declared.topology.SubInput.{SubInput}
use Rattle.core_state.specs.declared.log.LogEntry.{LogEntry}
use Rattle.core_state.specs.declared.log.LogEntry.TheVariants.{Fed, Said}
use Rattle.core_state.specs.Wired.{between, log_feed}

-- the kind as which the first node reads the records on a side: a table's or a stream's
abbrev pub kind_read : List Node → ℕ → Kind
kind_read (Table relation ∷ nodes) side = kind.Table
kind_read (JoinStreamTable k on left right ∷ nodes) zero = kind.Stream
kind_read (JoinStreamTable k on left right ∷ nodes) (suc n) = kind.Table
kind_read (JoinTables k left right ∷ nodes) side = kind.Table
kind_read nodes side = kind.Stream

-- what a task takes of an entry on a side: for a record what it says, which is nothing if it is skipped; with key cells
-- in front
abbrev pub taken : List Node → ℕ → SubInput → LogEntry → List Entry
taken nodes side input (Fed r) = from_side side (map (with_cells input.keys) (saying (kind_read nodes side) r))
taken nodes side input (Said c) = from_side side (with_cells input.keys c ∷ [])

-- the same for everything that some inputs show, the first of which comes in on this side
abbrev pub taken_from : List Node → ℕ → List SubInput → (ℕ → List LogEntry) → List Entry
taken_from nodes side [] shown = []
taken_from nodes side (i ∷ is) shown = flat_map (taken nodes side i) (shown i.topic) ++ taken_from nodes (suc side) is shown

-- the number that the places of a side are compared with
abbrev pub relation_of : List SubInput → ℕ → ℕ
relation_of inputs side = unwrap_or (option_map (λ i. i.relation) (slice_get inputs side)) 0

-- the entries that a task reads, in the order of their places
abbrev pub reads : List Node → List SubInput → (ℕ → List LogEntry) → List Entry
reads nodes inputs shown = ascending (entry_cmp (relation_of inputs 0) (relation_of inputs 1)) (taken_from nodes 0 inputs shown)

-- the entries of the feeds after the first number up to the second
abbrev pub takes : List Node → List SubInput → (ℕ → List LogEntry) → ℕ → ℕ → List Entry
takes nodes inputs shown a b = reads nodes inputs (λ topic. between log_feed a b (shown topic))
