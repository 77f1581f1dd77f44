-- The data of a line's JSON.
use Rattle.std.specs.Prelude.{ℕ, List, [], ◌∷◌, map}
use Rattle.std.specs.Borrow.{Bor}
use Rattle.serde_json.specs.Data.{Data, null, boolean, number, string, array, object, Items, Members, no_members, put}
use Rattle.serde_json.specs.View.{items_of, number_view}
use Rattle.topic_files.specs.declared.tree.Json.{Json, fold-Json}
use Rattle.topic_files.specs.declared.tree.Json.TheOpen.{Json-F}

-- members added one by one to those before them: the last one with a name stays
abbrev pub put_all : List (Bor (List ℕ) × Data) → Members → Members
put_all [] before = before
put_all (m ∷ ms) before = put_all ms (put m.0.now m.1 before)

-- one level, where all JSON inside is already data
abbrev pub view_step : Json-F Data → Data
view_step Json-F.Null = null
view_step (Json-F.Bool b) = boolean b
view_step (Json-F.Number n) = number (number_view n)
view_step (Json-F.Text s) = string s.now
view_step (Json-F.Array v) = array (items_of v.items)
view_step (Json-F.Object v) = object (put_all v.items no_members)

abbrev pub view : Json → Data
view = fold-Json Data view_step

-- a member as its name and its data
abbrev pub named : Bor (List ℕ) × Json → List ℕ × Data
named m = (m.0.now, view m.1)

abbrev pub items_view : List Json → Items
items_view vs = items_of (map view vs)

abbrev pub members_view : List (Bor (List ℕ) × Json) → Members
members_view ms = put_all (map (λ m. (m.0, view m.1)) ms) no_members
