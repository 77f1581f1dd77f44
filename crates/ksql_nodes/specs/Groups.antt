-- GROUP BY: each row under the key of its group (ksqlDB reference manual, "Aggregate").
use Rattle.std.specs.Prelude.{ℕ, if◌then◌else◌, List, [], ◌∷◌, ◌++◌, Option, Some, None, option_and_then}
use Rattle.ksql_types.specs.Key.{is_key}
use Rattle.ksql_types.specs.declared.value.Value.{Value}
use Rattle.ksql_place.specs.declared.change.Body.{Body}
use Rattle.ksql_place.specs.declared.change.Body.TheVariants.{Said, Turned}
use Rattle.ksql_place.specs.declared.change.Change.{Change}
use Rattle.ksql_expr.specs.declared.typed.Typed.{Typed}
use Rattle.ksql_nodes.specs.Entries.{Row, is_same_key}
use Rattle.ksql_nodes.specs.Rows.{values, key_of, at_path}
use Rattle.ksql_nodes.specs.Joins.{rekeyed}

-- a row and the group that it is in
pub record Member : Type 0 where
  pub group : List Value
  pub row : Row

-- a row is in the group of its values; in none if one of them is NULL
abbrev pub member : List Typed → ℕ → Row → Option Member
member keys time row = if is_key (values keys time row) then Some (record { group = values keys time row; row = row }) else None

-- a change of a group, with a number appended to its path
abbrev pub in_group : List Value → ℕ → Change → Body → Change
in_group group step c body = record (at_path (c.place.path ++ step ∷ []) c) { key = group; body = body }

-- a row of a table that moves leaves its group and then enters another; a row that stays changes within its group
abbrev pub moved : Change → Option Member → Option Member → List Change
moved c None None = []
moved c (Some l) None = in_group l.group 0 c (Turned (Some l.row) None) ∷ []
moved c None (Some r) = in_group r.group 0 c (Turned None (Some r.row)) ∷ []
moved c (Some l) (Some r) =
    if is_same_key l.group r.group then in_group r.group 0 c (Turned (Some l.row) (Some r.row)) ∷ []
    else in_group l.group 0 c (Turned (Some l.row) None) ∷ in_group r.group 1 c (Turned None (Some r.row)) ∷ []

-- a change under the keys of its rows' groups
abbrev pub grouped : List Typed → Change → List Change
grouped keys c = by_body c.body
  where
    by_body : Body → List Change
    by_body (Said row) = rekeyed (key_of (values keys c.time row)) c
    by_body (Turned old new) = moved c (option_and_then (member keys c.time) old) (option_and_then (member keys c.time) new)
