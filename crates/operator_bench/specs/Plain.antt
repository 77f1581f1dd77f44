-- The entries of the benchmark, and the nodes that can take them.
use Rattle.std.specs.Prelude.{ℕ, ◌<◌, ◌≤◌, ◌^◌, List, [], ◌∷◌, length, All, None}
use Rattle.ksql_place.specs.declared.change.Change.{Change}
use Rattle.ksql_expr.specs.declared.typed.AggFun.TheVariants.{CountAll}
use Rattle.ksql_program.specs.declared.query.Agg.{Agg}
use Rattle.ksql_nodes.specs.declared.node.Node.{Node}
use Rattle.record_codec.specs.Spelling.{IsShort}
use Rattle.operator.specs.Storable.{HasShortRow, IsStorable}

-- a small change with a short key and a short row
pub record IsPlain (c : Change) : Type 0 where
  pub time : c.time ≤ 2 ^ 53
  pub path : length c.place.path ≤ 512
  pub key : All IsShort c.key
  pub row : HasShortRow c

-- a node can take such changes on each of two sides
abbrev pub TakesPlain : Node → Type 0
TakesPlain node = (side : ℕ) (c : Change) → side < 2 → IsPlain c → IsStorable node side c

-- COUNT(*)
abbrev pub count_all : List Agg
count_all = record { fun = CountAll; arg = None } ∷ []
