-- What an operator stands for: entries after which its stores hold exactly their content.
use Rattle.std.specs.Prelude.{◌≡◌, ℕ, List, Option, None, Some, IfSome}
use Rattle.std.specs.FinMap.{get}
use Rattle.std.specs.List.{AllByRecursion}
use Rattle.ksql_nodes.specs.declared.node.Node.{Node}
use Rattle.ksql_nodes.specs.declared.node.Node.TheVariants.{Table, JoinStreamTable, JoinTables, Aggregate}
use Rattle.ksql_nodes.specs.Entries.{Entry, of_side, latest_time}
use Rattle.record_codec.specs.Spelling.{IsSpellable, IsSpellableRow, AreSpellable}
use Rattle.operator.specs.Kept.{at_bytes, kept, rows_at, totals, groups_at, added_at, windows_at}
use Rattle.operator.specs.Holding.{Maps, Held, maps_of}

-- what each part must hold: a value for some keys, by their bytes
pub record Parts : Type 0 where
  pub left : List ℕ → Option (List ℕ)
  pub right : List ℕ → Option (List ℕ)
  pub aggregate : List ℕ → Option (List ℕ)
  pub windows : List ℕ → Option (List ℕ)
  pub time : ℕ

abbrev pub absent : List ℕ → Option (List ℕ)
absent b = None

abbrev pub no_parts : Parts
no_parts = record { left = absent; right = absent; aggregate = absent; windows = absent; time = 0 }

-- What the operator of a node holds after entries: for each table that it reads, the latest row of each key, with its
-- time and place; for each group, and for each open window, the aggregates and the time; with windows, the stream time
-- too. Every other operator holds nothing.
abbrev pub parts : Node → List Entry → Parts
parts (Table relation) es = record no_parts { left = rows_at es }
parts (JoinStreamTable kind on left right) es = record no_parts { right = rows_at (of_side 1 es) }
parts (JoinTables kind left right) es = record no_parts { left = rows_at (of_side 0 es); right = rows_at (of_side 1 es) }
parts (Aggregate over aggs None) es = record no_parts { aggregate = groups_at over aggs es }
parts (Aggregate over aggs (Some w)) es = record no_parts { windows = windows_at over aggs w es; time = latest_time es }
parts node es = no_parts

-- these maps have these parts, and nothing else
pub record AreParts (m : Maps) (p : Parts) : Type 0 where
  pub left : (b : List ℕ) → get m.left b ≡ p.left b
  pub right : (b : List ℕ) → get m.right b ≡ p.right b
  pub aggregate : (b : List ℕ) → get m.aggregate b ≡ p.aggregate b
  pub windows : (b : List ℕ) → get m.windows b ≡ p.windows b
  pub time : m.time ≡ p.time

-- an entry whose key has a spelling
abbrev pub HasSpelledKey : Entry → Type 0
HasSpelledKey e = IsSpellableRow e.change.key

-- an entry whose key, and what a table keeps of it, have a spelling
abbrev pub HasSpelledRow : Entry → Type 0
HasSpelledRow e = HasSpelledKey e × IfSome (kept e.change) IsSpellable

-- the entries that an operator reads its parts from have spellings: their keys, and what is kept of them
abbrev pub AreSpelled : Node → List Entry → Type 0
AreSpelled (Table relation) es = AllByRecursion HasSpelledRow es
AreSpelled (JoinStreamTable kind on left right) es = AllByRecursion HasSpelledRow (of_side 1 es)
AreSpelled (JoinTables kind left right) es = AllByRecursion HasSpelledRow es
AreSpelled (Aggregate over aggs None) es = AllByRecursion HasSpelledKey es × ((b : List ℕ) → IfSome (totals over aggs (at_bytes b es)) AreSpellable)
AreSpelled (Aggregate over aggs (Some w)) es = AllByRecursion HasSpelledKey es × ((b : List ℕ) → IfSome (totals over aggs (added_at w es b)) AreSpellable)
AreSpelled node es = Unit {0}

-- an operator of a node with this content stands for these entries
pub record StandsFor (node : Node) (held : Held) (es : List Entry) : Type 0 where
  pub spelled : AreSpelled node es
  pub exact : AreParts (maps_of held) (parts node es)
