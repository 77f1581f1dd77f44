-- What the stores of two tables hold.
use Rattle.std.specs.Prelude.{◌≡◌, ℕ, List}
use Rattle.std.specs.FinMap.{get}
use Rattle.std.specs.List.{AllByRecursion}
use Rattle.ksql_nodes.specs.Entries.{Entry, of_side}
use Rattle.state_store.specs.Store.{Values}
use Rattle.operator.specs.Kept.{rows_at}
use Rattle.operator.specs.StandsFor.{HasSpelledRow}

-- these values are the rows that some entries leave on either side, each under the bytes of its key, and nothing else
pub record HoldTables (left right : Values) (es : List Entry) : Type 0 where
  pub spelled : AllByRecursion HasSpelledRow es
  pub left_rows : (b : List ℕ) → get left b ≡ rows_at (of_side 0 es) b
  pub right_rows : (b : List ℕ) → get right b ≡ rows_at (of_side 1 es) b
