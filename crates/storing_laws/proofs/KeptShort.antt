-- The laws of values, nodes and topics as they are stated.
use Rattle.std.proofs.Common.{ℕ, List, [], ◌∷◌, map}
use Rattle.std.specs.Prelude.{All, None, Option, Some, IfSome}
use Rattle.std.specs.List.{AllByRecursion}
use Rattle.std.proofs.lemmas.List.Elements.{All-from_recursion, recursion_from_All}
use Rattle.ksql_types.specs.declared.value.Value.{Value}
use Rattle.ksql_place.specs.declared.change.Body.{Body}
use Rattle.ksql_place.specs.declared.change.Body.TheVariants.{Said, Turned}
use Rattle.ksql_place.specs.declared.change.Change.{Change}
use Rattle.ksql_place.specs.declared.change.SourceRecord.{SourceRecord}
use Rattle.ksql_expr.specs.declared.typed.Typed.{Typed}
use Rattle.ksql_expr.specs.Value.{value_of}
use Rattle.ksql_program.specs.Sound.{IsSound}
use Rattle.ksql_program.specs.declared.program.Item.{Item}
use Rattle.ksql_nodes.specs.declared.node.Node.{Node}
use Rattle.ksql_nodes.specs.Entries.{Entry, Row, from_side, results, through}
use Rattle.ksql_nodes.specs.Nodes.{gives}
use Rattle.meaning_laws.proofs.Lists.{All-map, All-weaker}
use Rattle.meaning_laws.proofs.Sizes.{entries-give, results-give}
use Rattle.record_codec.specs.Spelling.{IsShort}
use Rattle.topology.specs.Contents.{contents}
use Rattle.topology.specs.Topologies.{topology_of}
use Rattle.short_laws.specs.Short.{HoldTexts, HoldsInRows, HoldsProperTexts, IsProper, IsProperChange, IsShortChange, IsShortRecord, IsTextRecord, KeepsProper}
use Rattle.storing_laws.specs.Stored.{IsShortThroughout, KeepProper}
use Rattle.storing_laws.proofs.ProperContents.{contents-proper, tame-proper}
use Rattle.short_laws.proofs.ShortChanges.{HasProperRow, HasProperRows, IsTame, IsTameEntry, node-tame}
use Rattle.short_laws.proofs.ShortValues.{values-proper}

-- ---- values

pub values-short : (row : List Value) (time : ℕ) (e : Typed) → All IsProper row → HoldsProperTexts e → IsProper (value_of row time e)
values-short row time e proper texts = values-proper row time e (recursion_from_All IsProper row proper) texts

-- ---- changes

tame-row : (o : Option Row) → IfSome o (All IsProper) → HasProperRow o
tame-row None h = tt
tame-row (Some row) h = recursion_from_All IsProper row h

pub proper-tame : (c : Change) → IsProperChange c → IsTame c
proper-tame c h = (recursion_from_All IsProper c.key h.key, (by c.body h.rows, h.span))
  where
    by : (b : Body) → HoldsInRows IsProper b → HasProperRows b
    by (Said row) r = recursion_from_All IsProper row r
    by (Turned old new) r = (tame-row old r.0, tame-row new r.1)

short-row : (o : Option Row) → IfSome o (All IsProper) → IfSome o (All IsShort)
short-row None h = tt
short-row (Some row) h = λ i d below. (h i d below).0

-- what is proper is short
pub proper-short : (c : Change) → IsProperChange c → IsShortChange c
proper-short c h = record { key = λ i d below. (h.key i d below).0; rows = by c.body h.rows; span = h.span }
  where
    by : (b : Body) → HoldsInRows IsProper b → HoldsInRows IsShort b
    by (Said row) r = λ i d below. (r i d below).0
    by (Turned old new) r = (short-row old r.0, short-row new r.1)

-- ---- nodes

nodes-tame : (n : ℕ) (nodes : List Node) → AllByRecursion KeepsProper nodes → (es : List Entry) → AllByRecursion IsTameEntry es → AllByRecursion IsTame (through (map (gives n) nodes) es)
nodes-tame n [] keep es h = All-map IsTame (λ (e : Entry). e.change) es h
nodes-tame n (x ∷ xs) keep es h =
    nodes-tame n xs keep.1 (from_side 0 (results (gives n x) [] es))
    (entries-give IsTame 0 (results (gives n x) [] es) (results-give IsTameEntry IsTame (gives n x) (node-tame n x keep.0) [] es tt h))

pub nodes-keep : (n : ℕ) (nodes : List Node) → All KeepsProper nodes → KeepProper n nodes
nodes-keep n nodes keep es h =
    All-from_recursion IsProperChange (through (map (gives n) nodes) es)
    (All-weaker IsTame IsProperChange tame-proper (through (map (gives n) nodes) es)
    (nodes-tame n nodes (recursion_from_All KeepsProper nodes keep) es
    (All-weaker (λ (e : Entry). IsProperChange e.change) IsTameEntry (λ e. proper-tame e.change) es (recursion_from_All (λ (e : Entry). IsProperChange e.change) es h))))

-- ---- topics

pub contents-short : (items : List Item) (order : List SourceRecord) → IsSound items → HoldTexts items → All IsShortRecord order → All IsTextRecord order →
    IsShortThroughout items (topology_of items) order
contents-short items order sound texts short utf8 topic part =
    let has : List Change = contents items (topology_of items) order topic part in
    All-from_recursion IsShortChange has
    (All-weaker IsProperChange IsShortChange proper-short has
    (recursion_from_All IsProperChange has (contents-proper items order sound texts short utf8 topic part)))
