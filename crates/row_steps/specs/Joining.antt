-- Joins, from the current rows of their sides (ksqlDB reference manual, "Join event streams").
use Rattle.std.specs.Prelude.{ℕ, max, List, [], ◌∷◌, Option, option_map, option_and_then}
use Rattle.ksql_types.specs.declared.value.Value.{Value}
use Rattle.ksql_place.specs.Said.{row_in, row_out}
use Rattle.ksql_place.specs.declared.change.Body.{Body}
use Rattle.ksql_place.specs.declared.change.Body.TheVariants.{Said}
use Rattle.ksql_place.specs.declared.change.Change.{Change}
use Rattle.ksql_nodes.specs.Entries.{Row, Entry, of_key, of_side, row_after, time_after}
use Rattle.ksql_nodes.specs.Joins.{joined, joined_from, other_side, side_step}
use Rattle.ksql_nodes.specs.Rows.{turned, with_body, at_path}
use Rattle.row_steps.specs.declared.join.Join.{Join}
use Rattle.row_steps.specs.declared.join.Standing.{Standing}

-- a stream's change joined with a row of the table
abbrev pub beside : Join → Change → Option Row → List Change
beside j c row = with_body c (option_map (λ r. Said r) (joined j.kind j.left j.right [] (row_in c.body) row))

-- the current rows of a key after some entries of two tables
abbrev pub standing_before : ℕ → List Value → List Entry → Standing
standing_before side key es =
    let others = of_side (other_side side) (of_key key es) in
    record { own = row_after (of_side side (of_key key es)); other = row_after others; time = time_after others }

-- from the joined row of a key's current row to that of another row
abbrev pub body_beside : Join → ℕ → List Value → Standing → Option Row → Option Body
body_beside j side key rows new =
    let joined_with : Option Row → Option Row = λ own. joined_from side j.kind j.left j.right key own rows.other in
    option_and_then (λ own. turned (joined_with (row_out own)) (joined_with (row_in own))) (turned rows.own new)

-- a change of one of two tables: from the joined row before it to that after it, and no earlier than the other table's
-- row
abbrev pub turned_beside : Join → ℕ → Change → Standing → List Change
turned_beside j side c rows =
    with_body (record (at_path (side_step side j.left j.right ∷ c.place.path) c) { time = max c.time rows.time })
    (body_beside j side c.key rows (row_in c.body))
