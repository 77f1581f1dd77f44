-- What an operator holds, and how changelogs change it.
use Rattle.std.specs.Prelude.{◌≡◌, ℕ, ◌≤◌, ◌==◌, ◌^◌, nat_lt, Bool, false, not, IsTrue, List, [], ◌∷◌, ◌++◌, filter, length, All, Some, None, unwrap_or, option_map, ◌⊎◌}
use Rattle.std.specs.FinMap as finite
use Rattle.std.specs.Int.{w64, from_be_bytes}
use Rattle.ksql_types.specs.declared.relation.StoreEntry.{StoreEntry}
use Rattle.ksql_nodes.specs.declared.node.Node.{Node}
use Rattle.ksql_nodes.specs.declared.node.Node.TheVariants.{Table, JoinStreamTable, JoinTables, Aggregate}
use Rattle.state_store.specs.Store.{Values, Content, replay, numbered, IsBase}
use Rattle.record_codec.specs.Spelling.{eight}

-- what an operator holds: the rows of its tables, its groups, its windows and its stream time; a part that it doesn't
-- have is empty
pub record Held : Type 0 where
  pub left : Content
  pub right : Content
  pub aggregate : Content
  pub windows : Content
  pub time : ℕ

-- the same without the keys written since the last commit
pub record Maps : Type 0 where
  pub left : Values
  pub right : Values
  pub aggregate : Values
  pub windows : Values
  pub time : ℕ

abbrev pub maps_of : Held → Maps
maps_of h = record { left = h.left.map; right = h.right.map; aggregate = h.aggregate.map; windows = h.windows.map; time = h.time }

-- a map without writes since the last commit
abbrev pub unwritten : Values → Content
unwritten m = record { map = m; written = [] }

-- what an operator with these maps holds just after a commit
abbrev pub committed : Maps → Held
committed m = record {
  left = unwritten m.left;
  right = unwritten m.right;
  aggregate = unwritten m.aggregate;
  windows = unwritten m.windows;
  time = m.time;
}

abbrev pub no_maps : Maps
no_maps = record { left = finite.empty; right = finite.empty; aggregate = finite.empty; windows = finite.empty; time = 0 }

-- nothing
abbrev pub nothing : Held
nothing = committed no_maps

-- ---- changelogs: store 0 is the left table, 1 the right one, 2 the groups or the windows

-- an entry under the number of a store
abbrev pub in_store : ℕ → StoreEntry → StoreEntry
in_store number entry = record entry { store = number }

-- whether a number is that of one of a node's stores
abbrev pub is_store_of : Node → ℕ → Bool
is_store_of (Table relation) number = number == 0
is_store_of (JoinStreamTable kind on left right) number = number == 1
is_store_of (JoinTables kind left right) number = nat_lt number 2
is_store_of (Aggregate over aggs window) number = number == 2
is_store_of node number = false

-- each entry of a log is of one of a node's stores
abbrev pub IsOwnLog : Node → List StoreEntry → Type 0
IsOwnLog node log = All (λ entry. IsTrue (is_store_of node entry.store)) log

-- the stream time is stored under the empty key
abbrev pub is_of_time : StoreEntry → Bool
is_of_time entry = length entry.key == 0

-- the stream time after the entries of a log that have it
abbrev pub time_after : ℕ → List StoreEntry → ℕ
time_after time [] = time
time_after time (entry ∷ log) = time_after (unwrap_or (option_map (from_be_bytes w64) entry.value) time) log

-- the maps of a node's operator after the entries of a log with the numbers of its stores
abbrev pub replayed : Node → Maps → List StoreEntry → Maps
replayed (Table relation) m log = record m { left = replay m.left (numbered 0 log) }
replayed (JoinStreamTable kind on left right) m log = record m { right = replay m.right (numbered 1 log) }
replayed (JoinTables kind left right) m log = record m { left = replay m.left (numbered 0 log); right = replay m.right (numbered 1 log) }
replayed (Aggregate over aggs None) m log = record m { aggregate = replay m.aggregate (numbered 2 log) }
replayed (Aggregate over aggs (Some w)) m log = record m {
  windows = replay m.windows (filter (λ entry. not (is_of_time entry)) (numbered 2 log));
  time = time_after m.time (filter is_of_time (numbered 2 log));
}
replayed node m log = m

-- an entry of a window store: of a key and a start, or of the stream time
abbrev pub IsWindowEntry : StoreEntry → Type 0
IsWindowEntry entry =
    ((key : List ℕ) × (start : ℕ) × (entry.key ≡ key ++ eight start) × (start ≤ 2 ^ 56))
    ⊎ ((time : ℕ) × (entry.key ≡ []) × (entry.value ≡ Some (eight time)))

-- a log that a node's operator can load: any log, if it has no windows
abbrev pub IsLoadable : Node → List StoreEntry → Type 0
IsLoadable (Aggregate over aggs (Some w)) log = All IsWindowEntry (numbered 2 log)
IsLoadable node log = Unit {0}

-- maps that the changes since the last commit turn into the current ones, such as those at the last commit
pub record IsBaseOf (base : Maps) (held : Held) : Type 0 where
  pub left : IsBase base.left held.left
  pub right : IsBase base.right held.right
  pub aggregate : IsBase base.aggregate held.aggregate
  pub windows : IsBase base.windows held.windows
  pub time : base.time ≤ held.time
