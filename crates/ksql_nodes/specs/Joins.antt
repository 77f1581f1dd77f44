-- Joins of a stream with a table and of two tables (ksqlDB reference manual, "Join event streams").
use Rattle.std.specs.Prelude.{ℕ, ◌==◌, nat_lt, max, if◌then◌else◌, List, [], ◌∷◌, ◌++◌, flat_map, replicate, Option, Some, None, option_map, option_and_then}
use Rattle.ksql_types.specs.declared.value.Value.{Value}
use Rattle.ksql_types.specs.declared.value.Value.TheVariants.{Null}
use Rattle.ksql_place.specs.Said.{row_in, row_out}
use Rattle.ksql_place.specs.declared.change.Body.{Body}
use Rattle.ksql_place.specs.declared.change.Body.TheVariants.{Said, Turned}
use Rattle.ksql_place.specs.declared.change.Change.{Change}
use Rattle.ksql_expr.specs.declared.typed.Typed.{Typed}
use Rattle.ksql_expr.specs.Value.{value_of}
use Rattle.ksql_program.specs.declared.query.JoinKind.{JoinKind}
use Rattle.ksql_program.specs.declared.query.JoinKind.TheVariants.{Inner, Left, Full}
use Rattle.ksql_nodes.specs.declared.node.Side.{Side}
use Rattle.ksql_nodes.specs.Entries.{Row, Entry, of_key, of_side, row_after, time_after}
use Rattle.ksql_nodes.specs.Rows.{turned, with_body, at_path, key_of}

-- the row of a side, or NULLs if there is none
abbrev pub or_nulls : Side → Option Row → Row
or_nulls side None = replicate side.columns Null
or_nulls side (Some row) = row

-- the joined row, if any: INNER needs both sides, LEFT the left one, FULL at least one, and a FULL row ends with ROWKEY
abbrev pub joined : JoinKind → Side → Side → List Value → Option Row → Option Row → Option Row
joined Inner left right key (Some l) (Some r) = Some (l ++ r)
joined Left left right key (Some l) r = Some (l ++ or_nulls right r)
joined Full left right key (Some l) r = Some (l ++ or_nulls right r ++ key)
joined Full left right key None (Some r) = Some (or_nulls left None ++ r ++ key)
joined _ left right key _ _ = None

-- ---- a stream and a table

-- the join key of a stream's change; a table's change has none
abbrev pub join_key : Typed → Change → List Value
join_key on c = by_body c.body
  where
    by_body : Body → List Value
    by_body (Said row) = key_of (value_of row c.time on ∷ [])
    by_body (Turned old new) = []

-- a change under a key; nothing without one
abbrev pub rekeyed : List Value → Change → List Change
rekeyed [] c = []
rekeyed (k ∷ ks) c = record c { key = k ∷ ks } ∷ []

-- a stream's change joined with the table's row for its key at that place
abbrev pub join_row : JoinKind → Side → Side → List Entry → Change → List Change
join_row kind left right before c =
    with_body c (option_map (λ row. Said row) (joined kind left right [] (row_in c.body) (row_after (of_side 1 (of_key c.key before)))))

-- a stream's change (side 0) is joined under its join key; a table's change triggers nothing
abbrev pub join_stream : JoinKind → Typed → Side → Side → List Entry → Entry → List Change
join_stream kind on left right before e =
    if e.side == 0 then flat_map (join_row kind left right before) (rekeyed (join_key on e.change) e.change) else []

-- ---- two tables

abbrev pub other_side : ℕ → ℕ
other_side side = if side == 0 then 1 else 0

-- the joined row, given the row of a side and that of the other
abbrev pub joined_from : ℕ → JoinKind → Side → Side → List Value → Option Row → Option Row → Option Row
joined_from side kind left right key own other = if side == 0 then joined kind left right key own other else joined kind left right key other own

-- the number in a path that tells the sides of a join apart: 0 for the relation with the smaller number
abbrev pub side_step : ℕ → Side → Side → ℕ
side_step side left right = if nat_lt left.relation right.relation then side else other_side side

-- A change of one of two tables: from the joined row before it to that after it, with the other table's row for its
-- key. It gives nothing if its own row stays absent. Its time is no earlier than that of the other row.
abbrev pub join_tables : JoinKind → Side → Side → List Entry → Entry → List Change
join_tables kind left right before e =
    let c = e.change in
    let mine = of_side e.side (of_key c.key before) in
    let others = of_side (other_side e.side) (of_key c.key before) in
    let joined_with : Option Row → Option Row = λ own. joined_from e.side kind left right c.key own (row_after others) in
    with_body (record (at_path (side_step e.side left right ∷ c.place.path) c) { time = max c.time (time_after others) })
    (option_and_then (λ own. turned (joined_with (row_out own)) (joined_with (row_in own))) (turned (row_after mine) (row_in c.body)))
