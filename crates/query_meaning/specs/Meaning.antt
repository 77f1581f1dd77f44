-- The meaning of a program: one list of changes for each of its relations (Sax, Wang, Weidlich and Freytag, BIRTE
-- 2018).
use Rattle.std.specs.Prelude.{ℕ, List, [], ◌∷◌, ◌++◌, filter, nat_le}
use Rattle.ksql_types.specs.Lane.{lane}
use Rattle.ksql_types.specs.declared.relation.Kind.{Kind}
use Rattle.ksql_types.specs.declared.relation.Kind.TheVariants.{Table}
use Rattle.ksql_types.specs.declared.relation.Relation.{Relation}
use Rattle.ksql_place.specs.Said.{said}
use Rattle.ksql_place.specs.declared.change.Change.{Change}
use Rattle.ksql_place.specs.declared.change.SourceRecord.{SourceRecord}
use Rattle.ksql_program.specs.declared.program.Item.{Item}
use Rattle.ksql_program.specs.declared.program.Item.TheVariants.{Declared, Started}
use Rattle.ksql_nodes.specs.declared.node.Node.TheVariants as node
use Rattle.ksql_nodes.specs.Entries.{Step, from_side, through}
use Rattle.ksql_nodes.specs.Nodes.{gives}
use Rattle.query_meaning.specs.Queries.{query_changes}

-- a declared table's changes get their old rows, and tombstones of keys without a row are dropped
abbrev pub steps_of_declared : Kind → ℕ → List Step
steps_of_declared Table number = gives 1 (node.Table number) ∷ []
steps_of_declared _ number = []

-- the changes of a declared relation, from what the records of its topic say
unfoldable pub declared_changes : Relation → List SourceRecord → List Change
declared_changes relation order = through (steps_of_declared relation.kind relation.number) (from_side 0 (said relation order))

-- the changes of an item
abbrev pub item_changes : List Item → List SourceRecord → List (List Change) → Item → List Change
item_changes items order lists (Declared relation) = declared_changes relation order
item_changes items order lists (Started query) = query_changes items lists query

-- one list of changes for each item, in order, after those of the earlier items
unfoldable pub meaning_from : List Item → List SourceRecord → List (List Change) → List Item → List (List Change)
meaning_from items order lists [] = lists
meaning_from items order lists (i ∷ is) = meaning_from items order (lists ++ item_changes items order lists i ∷ []) is

-- the meaning of a program on the records that were fed
abbrev pub meaning : List Item → List SourceRecord → List (List Change)
meaning items order = meaning_from items order [] items

-- the records of an order up to a feed
abbrev pub up_to : ℕ → List SourceRecord → List SourceRecord
up_to feed order = filter (λ r. nat_le r.stamp.feed feed) order

-- the partition of a change in a relation's topic: the lane of its key, or for no key that of its record
abbrev pub partition_of : Relation → Change → ℕ
partition_of relation c = lane c.key relation.partitions c.place.stamp.part
