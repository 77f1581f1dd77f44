-- Nodes and partitions: what a node gives for the entries of one partition is what it gives for them among all entries.
use Rattle.std.specs.Prelude.{◌≡◌, ℕ, Bool, true, List, [], ◌∷◌, ◌++◌, filter, IfSome}
use Rattle.ksql_types.specs.Key.{is_key}
use Rattle.ksql_types.specs.declared.value.Value.{Value}
use Rattle.ksql_place.specs.Ascending.{ascending}
use Rattle.ksql_place.specs.declared.change.Body.{Body}
use Rattle.ksql_place.specs.declared.change.Body.TheVariants.{Said, Turned}
use Rattle.ksql_place.specs.declared.change.Change.{Change}
use Rattle.ksql_expr.specs.declared.typed.Typed.{Typed}
use Rattle.ksql_nodes.specs.declared.node.Node.{Node}
use Rattle.ksql_nodes.specs.declared.node.Node.TheVariants.{Table, JoinStreamTable, JoinTables, Aggregate}
use Rattle.ksql_nodes.specs.Entries.{Entry, from_side, results}
use Rattle.ksql_nodes.specs.Joins.{join_key}
use Rattle.ksql_nodes.specs.Nodes.{gives}
use Rattle.ksql_nodes.specs.Rows.{key_of, values}
use Rattle.query_meaning.specs.Queries.{entry_cmp}
use Rattle.ksql_place.specs.Routing.{is_to}

-- ---- keys

abbrev pub IsKeyed : List Value → Type 0
IsKeyed [] = ⊥
IsKeyed (k ∷ ks) = Unit {0}

abbrev pub HasKey : Entry → Type 0
HasKey e = IsKeyed e.change.key

-- an entry of a stream whose join key, if it has one, is its own key
abbrev pub IsJoinedByKey : Typed → Entry → Type 0
IsJoinedByKey on e = e.side ≡ 0 → IsKeyed (join_key on e.change) → join_key on e.change ≡ e.change.key

-- a change whose rows are in the group of its own key; a stream's change without a key is in none
abbrev pub IsInOwnGroup : List Typed → Change → Type 0
IsInOwnGroup keys c = by c.body
  where
    by : Body → Type 0
    by (Said row) = key_of (values keys c.time row) ≡ c.key
    by (Turned old new) = (is_key c.key ≡ true) × IfSome old (λ row. values keys c.time row ≡ c.key) × IfSome new (λ row. values keys c.time row ≡ c.key)

-- ---- partitions

-- whether an entry is in a partition among n
abbrev pub in_part : ℕ → ℕ → Entry → Bool
in_part n part e = is_to n part e.change

-- what a node gives for the entries of a partition, with one stream time, is the partition's part of what it gives for
-- all entries
abbrev pub IsLaned : ℕ → Node → List Entry → Type 0
IsLaned n node es = (part : ℕ) → results (gives 1 node) [] (filter (in_part n part) es) ≡ filter (is_to n part) (results (gives n node) [] es)

-- this holds of each node in a row
abbrev pub AreLaned : ℕ → List Node → List Entry → Type 0
AreLaned n [] es = Unit {0}
AreLaned n (node ∷ nodes) es = IsLaned n node es × AreLaned n nodes (from_side 0 (results (gives n node) [] es))

-- the nodes that look at no earlier entry
abbrev pub LooksAtNone : Node → Type 0
LooksAtNone (Table relation) = ⊥
LooksAtNone (JoinStreamTable kind on l r) = ⊥
LooksAtNone (JoinTables kind l r) = ⊥
LooksAtNone (Aggregate over aggs w) = ⊥
LooksAtNone _ = Unit {0}

-- ---- reading

-- the changes of two relations in the order of their places
abbrev pub merged : ℕ → ℕ → List Change → List Change → List Entry
merged a b lefts rights = ascending (entry_cmp a b) (from_side 0 lefts ++ from_side 1 rights)

-- what the node Table makes of what the records of a table say
abbrev pub tabled : ℕ → List Change → List Change
tabled number changes = results (gives 1 (Table number)) [] (from_side 0 changes)
