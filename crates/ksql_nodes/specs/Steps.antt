-- Terms of the laws on steps.
use Rattle.std.specs.Prelude.{◌≡◌, ℕ, Bool, true, false, if◌then◌else◌, Option, Some, None, List, [], ◌∷◌, ◌++◌}
use Rattle.std.specs.List.{AllByRecursion}
use Rattle.ksql_types.specs.declared.value.Value.{Value}
use Rattle.ksql_place.specs.Said.{row_in}
use Rattle.ksql_place.specs.declared.change.Body.TheVariants.{Turned}
use Rattle.ksql_expr.specs.declared.typed.Typed.{Typed}
use Rattle.ksql_expr.specs.Value.{value_of}
use Rattle.ksql_program.specs.Sound.{IsOverTable}
use Rattle.ksql_program.specs.declared.query.Agg.{Agg}
use Rattle.ksql_nodes.specs.declared.node.Node.{Node}
use Rattle.ksql_nodes.specs.declared.node.Node.TheVariants.{Table, JoinStreamTable, JoinTables, Aggregate}
use Rattle.ksql_nodes.specs.Entries.{Row, Entry, Step, from_side, is_same_key, of_key, results, row_after}
use Rattle.ksql_nodes.specs.Joins.{join_key}
use Rattle.ksql_nodes.specs.Windows.{is_same_lane}

-- a step after another
abbrev pub followed_by : Step → Step → Step
followed_by first second before e = results second (from_side 0 (results first [] before)) (from_side 0 (first before e))

-- some steps as one
abbrev pub as_one : List Step → Step
as_one [] before e = e.change ∷ []
as_one (step ∷ steps) before e = followed_by step (as_one steps) before e

-- a step that gives nothing for an entry that fails a test
abbrev pub only : (Entry → Bool) → Step → Step
only p step before e = if p e then step before e else []

-- each result has the stamp of its entry
abbrev pub KeepsStamp : Step → Type 0
KeepsStamp step = (before : List Entry) (e : Entry) → AllByRecursion (λ c. c.place.stamp ≡ e.change.place.stamp) (step before e)

-- whether an entry has this key, which isn't empty
abbrev pub is_of_key : List Value → Entry → Bool
is_of_key [] e = false
is_of_key (k ∷ ks) e = is_same_key e.change.key (k ∷ ks)

-- whether a node looks at an earlier entry for this one: at those with the key that it needs, and if it has a stream
-- time at those of its lane
abbrev pub needs : ℕ → Node → Entry → Entry → Bool
needs n (Table relation) e earlier = is_same_key earlier.change.key e.change.key
needs n (JoinStreamTable kind on l r) e earlier = is_of_key (join_key on e.change) earlier
needs n (JoinTables kind l r) e earlier = is_same_key earlier.change.key e.change.key
needs n (Aggregate over aggs None) e earlier = is_same_key earlier.change.key e.change.key
needs n (Aggregate over aggs (Some w)) e earlier = is_same_lane n e earlier
needs n node e earlier = false

-- a test that holds of all entries that a node looks at for this one
abbrev pub Covers : ℕ → Node → Entry → (Entry → Bool) → Type 0
Covers n node e p = (earlier : Entry) → needs n node e earlier ≡ true → p earlier ≡ true

-- entries of a table without windows, after others: each replaces the row that the latest one of its key left
abbrev pub IsTableFrom : List Entry → List Entry → Type 0
IsTableFrom before [] = Unit {0}
IsTableFrom before (e ∷ es) = (e.change.body ≡ Turned (row_after (of_key e.change.key before)) (row_in e.change.body)) × IsTableFrom (before ++ e ∷ []) es

-- an expression whose value on a row is the same at all times
abbrev pub Timeless : Typed → Type 0
Timeless e = (row : Row) (time : ℕ) → value_of row time e ≡ value_of row 0 e

abbrev pub HasTimelessArgument : Agg → Type 0
HasTimelessArgument a = by a.arg
  where
    by : Option Typed → Type 0
    by None = Unit {0}
    by (Some e) = Timeless e

-- an aggregate that can be used on a table
abbrev pub IsHeld : Agg → Type 0
IsHeld a = HasTimelessArgument a × IsOverTable a.fun
