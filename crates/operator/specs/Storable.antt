-- The changes that an operator can take: what it keeps of them has a spelling.
use Rattle.std.specs.Prelude.{◌≡◌, ℕ, suc, ◌<◌, ◌≤◌, ◌^◌, List, length, All, IfSome}
use Rattle.ksql_place.specs.Said.{row_in}
use Rattle.ksql_place.specs.declared.change.Change.{Change}
use Rattle.ksql_program.specs.declared.query.Agg.{Agg}
use Rattle.ksql_nodes.specs.declared.node.Node.{Node}
use Rattle.ksql_nodes.specs.declared.node.Node.TheVariants.{Table, JoinStreamTable, JoinTables, Aggregate}
use Rattle.ksql_nodes.specs.Aggregates.{argument}
use Rattle.record_codec.specs.Spelling.{IsShort, IsWithinLimits}
use Rattle.operator.specs.Kept.{kept}

-- the row that a table keeps is within the limits of a change
abbrev pub HasShortRow : Change → Type 0
HasShortRow c = IfSome (kept c) IsWithinLimits

-- the arguments of some aggregates are short for the row that a change brings
abbrev pub HasShortArguments : List Agg → Change → Type 0
HasShortArguments aggs c = IfSome (row_in c.body) (λ row. All (λ a. IsShort (argument a.arg (record { row = row; time = c.time }))) aggs)

-- what a node keeps of a change is short, and its aggregates are fewer than four bytes can count
abbrev pub IsShortAt : Node → ℕ → Change → Type 0
IsShortAt (Table relation) side c = HasShortRow c
IsShortAt (JoinStreamTable kind on left right) side c = side ≡ 1 → HasShortRow c
IsShortAt (JoinTables kind left right) side c = (side < 2) × HasShortRow c
IsShortAt (Aggregate over aggs window) side c = (suc (length aggs) < 2 ^ 32) × HasShortArguments aggs c
IsShortAt node side c = Unit {0}

pub record IsStorable (node : Node) (side : ℕ) (c : Change) : Type 0 where
  pub time : c.time ≤ 2 ^ 53
  pub path : length c.place.path ≤ 512
  pub key : All IsShort c.key
  pub short : IsShortAt node side c
