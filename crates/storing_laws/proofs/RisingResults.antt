-- What a task gives for all its entries rises by place.
use Rattle.std.proofs.Common.{sym, subst, ℕ, zero, suc, List, [], ◌∷◌, map}
use Rattle.std.specs.List.{AllByRecursion}
use Rattle.ksql_place.specs.declared.change.Change.{Change}
use Rattle.ksql_place.specs.declared.change.SourceRecord.{SourceRecord}
use Rattle.ksql_program.specs.Sound.{IsSound}
use Rattle.ksql_program.specs.declared.program.Item.{Item}
use Rattle.ksql_nodes.specs.declared.node.Node.{Node}
use Rattle.ksql_nodes.specs.declared.node.Node.TheVariants as node
use Rattle.ksql_nodes.specs.Entries.{Entry, results, through}
use Rattle.ksql_nodes.specs.Nodes.{gives}
use Rattle.query_meaning.specs.Queries.{side_at}
use Rattle.meaning_laws.proofs.Forks.{IsBefore, Rise, rise-placed}
use Rattle.meaning_laws.proofs.Lists.{All-weaker, Pairwise-map, Pairwise-weaker}
use Rattle.meaning_laws.proofs.Rising.{RiseAt, base, gives-rising, results-rise, triggers}
use Rattle.meaning_laws.proofs.Sides.{both-rise, lefts-rise}
use Rattle.topology.specs.Contents.{Contents, contents, task_entries, task_results, with_cells}
use Rattle.topology.specs.Topologies.{input_of, subs, topology_of}
use Rattle.topology.specs.declared.stage.CutName.{CutName}
use Rattle.topology.specs.declared.stage.Link.{Link}
use Rattle.topology.specs.declared.stage.Link.TheVariants as link
use Rattle.short_laws.specs.Fed.{IsFed}
use Rattle.topology_laws.proofs.InARow.{HasOneInput, nodes-rise}
use Rattle.topology_laws.proofs.SentPlaces.{placed}
use Rattle.storing_laws.specs.Stored.{ResultsRise}
use Rattle.storing_laws.proofs.PlaceOrder.{placed-rise}
use Rattle.storing_laws.proofs.StageForms.{HasForm, IsFormedSub, IsLater, of_one, of_stream, of_table, of_tables, all-get, subs-formed}

one-input : (x : Node) → IsLater x → HasOneInput x
one-input (node.Rekey key) later = tt
one-input (node.Table relation) later = absurd later
one-input (node.JoinStreamTable kind on l r) later = absurd later
one-input (node.JoinTables kind l r) later = absurd later
one-input (node.Filter on) later = tt
one-input (node.Group keys) later = tt
one-input (node.Aggregate over aggs w) later = tt
one-input (node.Having on) later = tt
one-input (node.Select keys values) later = tt

all-one : (nodes : List Node) → AllByRecursion IsLater nodes → AllByRecursion HasOneInput nodes
all-one nodes later = All-weaker IsLater HasOneInput one-input nodes later

cell-places : (columns : ℕ) (c d : Change) → IsBefore c.place d.place → IsBefore (with_cells columns c).place (with_cells columns d).place
cell-places zero c d h = h
cell-places (suc columns) c d h = h

cells-rise : (columns : ℕ) (changes : List Change) → Rise changes → Rise (map (with_cells columns) changes)
cells-rise columns changes rise =
    Pairwise-map (λ c d. IsBefore c.place d.place) (with_cells columns) changes
    (Pairwise-weaker (λ c d. IsBefore c.place d.place) (λ c d. IsBefore (with_cells columns c).place (with_cells columns d).place) (cell-places columns) changes rise)

module _ (items : List Item) (first : ℕ) (cuts : List CutName) (has : Contents) (rise : (topic part : ℕ) → Rise (has topic part)) (part : ℕ) where
  abbrev read_at : Link → List Change
  read_at l = map (with_cells (input_of items first cuts l).keys) (has (input_of items first cuts l).topic part)

  read-rise : (l : Link) → Rise (read_at l)
  read-rise l = cells-rise (input_of items first cuts l).keys (has (input_of items first cuts l).topic part) (rise (input_of items first cuts l).topic part)

  -- a node whose entries rise, and those after it
  after : (x : Node) (rest : List Node) → AllByRecursion IsLater rest → (es : List Entry) → RiseAt (base x) (triggers x) es → Rise (through (map (gives 1) (x ∷ rest)) es)
  after x rest later es up =
      nodes-rise 1 rest (all-one rest later) (results (gives 1 x) [] es) (results-rise (base x) (triggers x) (gives 1 x) (gives-rising 1 x) [] es up)

  form-rise : (links : List Link) (nodes : List Node) → HasForm items links nodes → Rise (through (map (gives 1) nodes) (task_entries (map (input_of items first cuts) links) has part))
  form-rise links nodes (of_one {l = l} later) = nodes-rise 1 nodes (all-one nodes later) (read_at l) (read-rise l)
  form-rise links nodes (of_table {number = number} {nodes = rest} narrow later) =
      nodes-rise 1 (node.Table number ∷ rest) (tt, all-one rest later) (read_at (link.Relation number)) (read-rise (link.Relation number))
  form-rise links nodes (of_stream {k = k} {on = on} {right = right} {l = l} {nodes = rest} narrow later) =
      after _ rest later (task_entries (map (input_of items first cuts) (l ∷ link.Relation right ∷ [])) has part)
      (lefts-rise (input_of items first cuts l).relation right (read_at l) (read_at (link.Relation right)) (read-rise l))
  form-rise links nodes (of_tables {k = k} {left = left} {right = right} {nodes = rest} apart _ _ later) =
      after (node.JoinTables k (side_at items left) (side_at items right)) rest later (task_entries (map (input_of items first cuts) (link.Relation left ∷ link.Relation right ∷ [])) has part)
      (both-rise left right (read_at (link.Relation left)) (read_at (link.Relation right)) items k apart (read-rise (link.Relation left)) (read-rise (link.Relation right)))

pub results-rising : (items : List Item) (order : List SourceRecord) → IsSound items → IsFed items order → ResultsRise items (topology_of items) order
results-rising items order sound fed number s at part = (rise-placed (task_results s has part) whole).0
  where
    has : Contents
    has = contents items (topology_of items) order

    rise : (topic part : ℕ) → Rise (has topic part)
    rise topic part = placed-rise (has topic part) (placed items order sound fed topic part)

    whole : Rise (task_results s has part)
    whole =
        let formed = all-get (IsFormedSub items) (subs items) (subs-formed items sound) number s at in
        subst (λ inputs. Rise (through (map (gives 1) s.nodes) (task_entries inputs has part))) (sym formed.inputs)
        (form-rise items formed.first formed.cuts has rise part formed.links s.nodes formed.form)
