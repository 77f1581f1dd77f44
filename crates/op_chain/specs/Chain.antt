-- A row of nodes as one step of a task: what they give, what their stores stand for, and what they can store (Kafka
-- Streams developer guide, "Architecture": a record goes through the nodes of its sub-topology).
use Rattle.std.specs.Prelude.{◌≡◌, Bool, false, ◌||◌, ℕ, IsTrue, List, [], ◌∷◌, ◌++◌, map, All}
use Rattle.std.specs.List.{AllPairs, AllZip}
use Rattle.ksql_types.specs.declared.relation.StoreEntry.{StoreEntry}
use Rattle.ksql_place.specs.declared.change.Change.{Change}
use Rattle.ksql_nodes.specs.declared.node.Node.{Node}
use Rattle.ksql_nodes.specs.Entries.{Entry, from_side, results}
use Rattle.ksql_nodes.specs.Nodes.{gives}
use Rattle.operator.specs.Holding.{Held, IsBaseOf, IsLoadable, Maps, committed, is_store_of, maps_of, no_maps, replayed}
use Rattle.operator.specs.StandsFor.{StandsFor}
use Rattle.operator.specs.Storable.{IsStorable}
use Rattle.agg_ops.specs.Totals.{is_plain_aggregate, is_window_aggregate}
use Rattle.join_ops.specs.Kinds.{is_stream_join, is_table_join}
use Rattle.row_ops.specs.Kinds.{is_filter, is_rekey, is_select, is_table}
use Rattle.op_chain.specs.declared.chain.Entry.{Entry as Taken}

-- entries as a task takes them
abbrev pub entries_of : List Taken → List Entry
entries_of es = map (λ e. record { side = e.side; change = e.change }) es

-- what a node's results bring to the next node
abbrev pub passed : Node → List Entry → List Entry → List Entry
passed node earlier more = from_side 0 (results (gives 1 node) earlier more)

-- what a row of nodes gives for further entries, after earlier ones
unfoldable pub given : List Node → List Entry → List Entry → List Change
given [] earlier more = map (λ e. e.change) more
given (n ∷ ns) earlier more = given ns (passed n [] earlier) (passed n earlier more)

-- the stores of a row of nodes stand for entries
abbrev pub StandAlong : List Node → List Maps → List Entry → Type 0
StandAlong [] [] es = Unit {0}
StandAlong (n ∷ ns) (m ∷ ms) es = StandsFor n (committed m) es × StandAlong ns ms (passed n [] es)
StandAlong _ _ es = ⊥

-- what comes to each of the nodes can be stored there
abbrev pub AreStorable : List Node → List Entry → List Entry → Type 0
AreStorable [] earlier more = Unit {0}
AreStorable (n ∷ ns) earlier more = All (λ e. IsStorable n e.side e.change) more × AreStorable ns (passed n [] earlier) (passed n earlier more)

-- ---- changelogs

-- the stores of nodes after the further entries of a log, each by the numbers of its own
abbrev pub replayed_along : List Node → List Maps → List StoreEntry → List Maps
replayed_along (n ∷ ns) (m ∷ ms) log = replayed n m log ∷ replayed_along ns ms log
replayed_along _ _ log = []

-- the stores of nodes after a log, beginning with empty ones
abbrev pub maps_after : List Node → List StoreEntry → List Maps
maps_after nodes log = map (λ n. replayed n no_maps log) nodes

-- an entry that each node's operator can load
abbrev pub MayLoad : List Node → StoreEntry → Type 0
MayLoad nodes entry = All (λ n. IsLoadable n (entry ∷ [])) nodes

-- no two nodes have stores with the same number
abbrev pub HaveOwnStores : List Node → Type 0
HaveOwnStores nodes = AllPairs (λ n m. (number : ℕ) → IsTrue (is_store_of n number) → is_store_of m number ≡ false) nodes

-- a node with an operator: any but an aggregate with an invalid window, or with a window over a table
abbrev pub has_operator : Node → Bool
has_operator n =
    is_rekey n || is_table n || is_stream_join n || is_table_join n || is_filter n || is_plain_aggregate n
    || is_window_aggregate n || is_select n

-- ---- rows of operators

-- a row of operators as contracts see it: their nodes, what they hold, and whether memory ran out in a step of one of
-- them
pub record ChainView : Type 0 where
  pub nodes : List Node
  pub held : List Held
  pub failed : Bool

-- what is in their stores
abbrev pub maps_in : ChainView → List Maps
maps_in c = map maps_of c.held

-- the operators of these nodes with these stores, without writes since the last commit
abbrev pub at_rest : List Node → List Maps → ChainView
at_rest nodes maps = record { nodes = nodes; held = map committed maps; failed = false }

-- maps that the changes since the last commit turn into the current ones, such as those at the last commit
abbrev pub AreBasesOf : List Maps → ChainView → Type 0
AreBasesOf bases c = AllZip IsBaseOf bases c.held

-- ---- a step

-- the result of a task's step: whatever the old stores stood for, it gave what these entries give after it, and the new
-- stores stand for the longer list; and its changelog entries turn a replay from the old stores into one of the new
-- stores
pub record Runs (nodes : List Node) (old : List Maps) (more : List Entry) (outputs : List Change) (entries : List StoreEntry) (new : List Maps) : Type 0 where
  pub stands : (earlier : List Entry) → StandAlong nodes old earlier → (outputs ≡ given nodes earlier more) × StandAlong nodes new (earlier ++ more)
  pub replays : (logs : List StoreEntry) → maps_after nodes logs ≡ old → maps_after nodes (logs ++ entries) ≡ new
  pub loads : All (MayLoad nodes) entries
