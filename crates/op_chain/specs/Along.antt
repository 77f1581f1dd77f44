-- The steps of several operators, one after another.
use Rattle.std.specs.Prelude.{◌≡◌, IsTrue, List, ◌++◌, map, All}
use Rattle.std.specs.List.{AllZip, list_any}
use Rattle.ksql_types.specs.declared.relation.StoreEntry.{StoreEntry}
use Rattle.ksql_place.specs.declared.change.Change.{Change}
use Rattle.ksql_nodes.specs.declared.node.Node.{Node}
use Rattle.ksql_nodes.specs.Entries.{Entry, results}
use Rattle.ksql_nodes.specs.Nodes.{gives}
use Rattle.operator.specs.Holding.{Held, IsBaseOf, Maps, is_store_of, maps_of}
use Rattle.operator.specs.StandsFor.{StandsFor}
use Rattle.operator.specs.Storable.{IsStorable}
use Rattle.op_chain.specs.Chain.{AreStorable, MayLoad, StandAlong, given, replayed_along}

-- a node can store all of these entries
abbrev pub CanStore : Node → List Entry → Type 0
CanStore node entries = All (λ e. IsStorable node e.side e.change) entries

-- operators can take these entries: their stores stand for earlier ones, after which they can store what the entries
-- bring
abbrev pub CanTake : List Node → List Held → List Entry → Type 0
CanTake nodes held entries = (earlier : List Entry) × StandAlong nodes (map maps_of held) earlier × AreStorable nodes earlier entries

-- whatever an operator stood for, it appended to the old outputs what these entries give after it, and stands for the
-- longer list
abbrev pub Steps : Node → Held → Held → List Entry → List Change → List Change → Type 0
Steps node held next entries old new =
    (earlier : List Entry) → StandsFor node held earlier →
    (new ≡ old ++ results (gives 1 node) earlier entries) × StandsFor node next (earlier ++ entries)

-- the same for a row of operators, which appended what they gave to the old outputs
abbrev pub StepAlong : List Node → List Held → List Held → List Entry → List Change → List Change → Type 0
StepAlong nodes held next entries old new =
    (earlier : List Entry) → StandAlong nodes (map maps_of held) earlier →
    (new ≡ old ++ given nodes earlier entries) × StandAlong nodes (map maps_of next) (earlier ++ entries)

-- the log of the changes of some operators' stores since the last commit
pub record IsLogOf (nodes : List Node) (held : List Held) (log : List StoreEntry) : Type 0 where
  pub replays : (bases : List Maps) → AllZip IsBaseOf bases held → replayed_along nodes bases log ≡ map maps_of held
  pub loads : All (MayLoad nodes) log
  pub own : All (λ entry. IsTrue (list_any (λ n. is_store_of n entry.store) nodes)) log
