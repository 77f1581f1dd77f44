-- Properties of what comes to the nodes of a topology, and of what its tasks give.
use Rattle.std.specs.Prelude.{◌≡◌, ℕ, List, [], All, map, Some, slice_get}
use Rattle.ksql_place.specs.Ascending.{Rises}
use Rattle.ksql_place.specs.Routing.{change_cmp}
use Rattle.ksql_place.specs.declared.change.SourceRecord.{SourceRecord}
use Rattle.ksql_program.specs.declared.program.Item.{Item}
use Rattle.ksql_nodes.specs.declared.node.Node.{Node}
use Rattle.ksql_nodes.specs.Entries.{Entry, through}
use Rattle.ksql_nodes.specs.Nodes.{gives}
use Rattle.topology.specs.Contents.{contents, task_entries, task_results}
use Rattle.topology.specs.declared.topology.Sub.{Sub}
use Rattle.topology.specs.declared.topology.Topology.{Topology}
use Rattle.op_chain.specs.Chain.{AreStorable}
use Rattle.short_laws.specs.Short.{IsProperChange, IsShortChange}

-- for entries with short keys and rows, texts of UTF-8 and windows that start before they end, a row of nodes gives
-- changes of this kind
abbrev pub KeepProper : ℕ → List Node → Type 0
KeepProper n nodes = (es : List Entry) → All (λ e. IsProperChange e.change) es → All IsProperChange (through (map (gives n) nodes) es)

-- each change in each topic has a short key, short rows and texts of UTF-8, and its window, if any, starts before it
-- ends
abbrev pub IsProperThroughout : List Item → Topology → List SourceRecord → Type 0
IsProperThroughout items t order = (topic part : ℕ) → All IsProperChange (contents items t order topic part)

-- each change in each topic has a short key and short rows, and its window, if any, starts before it ends
abbrev pub IsShortThroughout : List Item → Topology → List SourceRecord → Type 0
IsShortThroughout items t order = (topic part : ℕ) → All IsShortChange (contents items t order topic part)

-- whatever comes to a node of a sub-topology can be stored by the node's operator
abbrev pub CanBeStored : List Item → Topology → List SourceRecord → Type 0
CanBeStored items t order =
    (number : ℕ) (s : Sub) → slice_get t.subs number ≡ Some s → (part : ℕ) →
    AreStorable s.nodes [] (task_entries s.inputs (contents items t order) part)

-- what a task gives for all its entries rises strictly by place
abbrev pub ResultsRise : List Item → Topology → List SourceRecord → Type 0
ResultsRise items t order =
    (number : ℕ) (s : Sub) → slice_get t.subs number ≡ Some s → (part : ℕ) → Rises change_cmp (task_results s (contents items t order) part)
