-- Small changes, which a filter and a select list can store.
use Rattle.std.specs.Prelude.{◌≡◌, ◌≤◌, ◌^◌, List, [], ◌∷◌, length, All}
use Rattle.ksql_place.specs.declared.change.Change.{Change}
use Rattle.ksql_expr.specs.declared.typed.Typed.{Typed}
use Rattle.ksql_nodes.specs.declared.node.Node.{Node}
use Rattle.ksql_nodes.specs.declared.node.Node.TheVariants.{Filter, Select}
use Rattle.record_codec.specs.Spelling.{IsShort}

-- a change with a short key and a short path
pub record IsPlain (c : Change) : Type 0 where
  pub time : c.time ≤ 2 ^ 53
  pub path : length c.place.path ≤ 512
  pub key : All IsShort c.key

-- a filter and then a select list
abbrev pub AreFiltered : List Node → Type 0
AreFiltered nodes = (on : Typed) × (keys : List Typed) × (items : List Typed) × (nodes ≡ Filter on ∷ Select keys items ∷ [])
