-- Steps on one row at a time: WHERE, HAVING and the select list, on streams and on tables (ksqlDB reference manual,
-- "SELECT").
use Rattle.std.specs.Prelude.{ℕ, List, [], ◌∷◌, map, if◌then◌else◌, Option, Some, None, option_map, option_and_then}
use Rattle.ksql_types.specs.Key.{is_key}
use Rattle.ksql_types.specs.declared.value.Value.{Value}
use Rattle.ksql_place.specs.declared.change.Body.{Body}
use Rattle.ksql_place.specs.declared.change.Body.TheVariants.{Said, Turned}
use Rattle.ksql_place.specs.declared.change.Change.{Change}
use Rattle.ksql_expr.specs.declared.typed.Typed.{Typed}
use Rattle.ksql_expr.specs.Value.{value_of, is_true_value}
use Rattle.ksql_nodes.specs.Entries.{Row}

-- a change of a table from one row to another; none from absent to absent
abbrev pub turned : Option Row → Option Row → Option Body
turned None None = None
turned old new = Some (Turned old new)

-- a function on each row: for a stream its row, for a table the old one and the new one
abbrev pub by_rows : (Row → Option Row) → Body → Option Body
by_rows f (Said row) = option_map (λ r. Said r) (f row)
by_rows f (Turned old new) = turned (option_and_then f old) (option_and_then f new)

-- a change with another body, if any
abbrev pub with_body : Change → Option Body → List Change
with_body c None = []
with_body c (Some body) = record c { body = body } ∷ []

-- a change at another path
abbrev pub at_path : List ℕ → Change → Change
at_path path c = record c { place = record c.place { path = path } }

-- a row, if it passes a condition at a time
abbrev pub passing : Typed → ℕ → Row → Option Row
passing on time row = if is_true_value (value_of row time on) then Some row else None

-- the values of expressions on a row at a time
abbrev pub values : List Typed → ℕ → Row → List Value
values expressions time row = map (value_of row time) expressions

-- the key of some values: none if one of them is NULL, or if there are more than a key can have, as in no sound program
abbrev pub key_of : List Value → List Value
key_of cells = if is_key cells then cells else []

-- the key that a select list gives: for a stream computed from its row, while a table keeps its key
abbrev pub selected_key : List Typed → Change → List Value
selected_key keys c = by_body c.body
  where
    by_body : Body → List Value
    by_body (Said row) = key_of (values keys c.time row)
    by_body (Turned old new) = c.key

-- a change that passes WHERE or HAVING
abbrev pub filtered : Typed → Change → List Change
filtered on c = with_body c (by_rows (passing on c.time) c.body)

-- what the key items and the value items of a select list make of a change
abbrev pub selected : List Typed → List Typed → Change → List Change
selected keys items c = with_body (record c { key = selected_key keys c }) (by_rows (λ row. Some (values items c.time row)) c.body)
