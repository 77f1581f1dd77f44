-- The meaning of an aggregate of a table: over the rows that the table holds in a group (ksqlDB reference manual,
-- "Aggregate"). Tasks compute it in two steps, Group and Aggregate, with the same result.
use Rattle.std.specs.Prelude.{ℕ, ◌||◌, Bool, false, if◌then◌else◌, List, [], ◌∷◌, ◌++◌, map, filter, Option, None, unwrap_or, option_map, option_and_then}
use Rattle.std.specs.List.{list_any}
use Rattle.ksql_types.specs.declared.value.Value.{Value}
use Rattle.ksql_place.specs.Said.{row_in, row_out}
use Rattle.ksql_place.specs.declared.change.Body.TheVariants.{Turned}
use Rattle.ksql_place.specs.declared.change.Change.{Change}
use Rattle.ksql_expr.specs.declared.typed.Typed.{Typed}
use Rattle.ksql_program.specs.declared.query.Agg.{Agg}
use Rattle.ksql_nodes.specs.Entries.{Row, Entry, is_same_key, latest_time}
use Rattle.ksql_nodes.specs.Groups.{member, grouped}
use Rattle.ksql_nodes.specs.Aggregates.{Dated, entered, aggregate, arguments, type_of_agg, unless_none}

-- the latest entry of each key
abbrev pub standing : List Entry → List Entry
standing [] = []
standing (e ∷ es) = if list_any (λ later. is_same_key e.change.key later.change.key) es then standing es else e ∷ standing es

-- whether a row is in a group
abbrev pub is_in : List Typed → List Value → ℕ → Option Row → Bool
is_in keys group time row = unwrap_or (option_map (λ m. is_same_key m.group group) (option_and_then (member keys time) row)) false

-- the rows that a table holds in a group
abbrev pub held : List Typed → List Value → List Entry → List Dated
held keys group es = entered (filter (λ e. is_in keys group e.change.time (row_in e.change.body)) (standing es))

-- the changes that touched a group
abbrev pub touching : List Typed → List Value → List Entry → List Entry
touching keys group es =
    filter (λ e. is_in keys group e.change.time (row_out e.change.body) || is_in keys group e.change.time (row_in e.change.body)) es

-- an aggregate over the rows that a table holds in a group
abbrev pub held_worth : List Typed → List Value → List Entry → Agg → Value
held_worth keys group es a = aggregate a.fun (type_of_agg a) (arguments a.arg (held keys group es))

-- a group's result: absent if no change touched it
abbrev pub held_outcome : List Typed → List Agg → List Value → List Entry → Option Row
held_outcome keys aggs group es = unless_none (touching keys group es) (group ++ map (held_worth keys group es) aggs)

-- the change of one group, where e is the table's entry and c its change in the group
abbrev pub held_change : List Typed → List Agg → List Entry → Entry → Change → Change
held_change keys aggs before e c =
    let all = before ++ e ∷ [] in
    record c { time = latest_time (touching keys c.key all); span = None; body = Turned (held_outcome keys aggs c.key before) (held_outcome keys aggs c.key all) }

-- an entry changes the groups of its old row and its new row
abbrev pub aggregate_of_table : List Typed → List Agg → List Entry → Entry → List Change
aggregate_of_table keys aggs before e = map (held_change keys aggs before e) (grouped keys e.change)
