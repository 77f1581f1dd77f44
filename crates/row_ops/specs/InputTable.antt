-- What the store of a table at an input holds.
use Rattle.std.specs.Prelude.{◌≡◌, ℕ, List, None, Option, option_and_then, option_map}
use Rattle.std.specs.FinMap.{get}
use Rattle.std.specs.List.{AllByRecursion, last_or}
use Rattle.ksql_place.specs.Said.{row_in}
use Rattle.ksql_nodes.specs.Entries.{Entry, Row}
use Rattle.state_store.specs.Store.{Values}
use Rattle.operator.specs.Kept.{rows_at}
use Rattle.operator.specs.StandsFor.{HasSpelledRow}

-- these values are the rows that some entries leave, each under the bytes of its key, and nothing else
pub record HoldsRows (m : Values) (es : List Entry) : Type 0 where
  pub spelled : AllByRecursion HasSpelledRow es
  pub rows : (b : List ℕ) → get m b ≡ rows_at es b

-- the row that the last of some entries leaves, after its time
abbrev pub latest_row : List Entry → Option (ℕ × Row)
latest_row es = option_and_then (λ e. option_map (λ row. (e.change.time, row)) (row_in e.change.body)) (last_or None es)
