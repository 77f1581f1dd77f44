-- The content of a topology's topics: its places, its bounds, its columns, and the part for the records up to a feed.
use Rattle.std.specs.Prelude.{◌≡◌, ℕ, ◌+◌, List, [], ◌++◌, ◌∷◌, All, length, map, take, Some, option_map, slice_get, unwrap_or}
use Rattle.ksql_types.specs.Columns.{columns}
use Rattle.ksql_types.specs.Key.{IsKey}
use Rattle.ksql_types.specs.declared.relation.Column.{Column}
use Rattle.ksql_types.specs.declared.relation.Relation.{Relation}
use Rattle.ksql_place.specs.declared.change.Change.{Change}
use Rattle.ksql_place.specs.declared.change.SourceRecord.{SourceRecord}
use Rattle.ksql_program.specs.Program.{relation_at}
use Rattle.ksql_program.specs.declared.program.Item.{Item}
use Rattle.ksql_program.specs.declared.program.Item.TheVariants.{Declared, Started}
use Rattle.ksql_program.specs.declared.query.From.{From}
use Rattle.ksql_program.specs.declared.query.From.TheVariants.{One, Join}
use Rattle.ksql_program.specs.declared.query.JoinKind.{JoinKind}
use Rattle.ksql_program.specs.declared.query.JoinKind.TheVariants.{Full}
use Rattle.ksql_program.specs.declared.query.Query.{Query}
use Rattle.query_meaning.specs.Meaning.{up_to}
use Rattle.query_meaning.specs.Queries.{leftmost}
use Rattle.meaning_laws.specs.Bounds.{HasColumnsOf, IsBodyOf, IsRowOf, IsSmall}
use Rattle.meaning_laws.specs.Places.{ArePlaced}
use Rattle.meaning_laws.specs.Prefixes.{changes_up_to}
use Rattle.topology.specs.Contents.{contents}
use Rattle.topology.specs.Stages.{stages_of}
use Rattle.topology.specs.Topologies.{cuts_of}
use Rattle.topology.specs.declared.stage.CutName.{CutName}
use Rattle.topology.specs.declared.stage.CutName.TheVariants as cut
use Rattle.topology.specs.declared.topology.Topology.{Topology}

-- in each partition places rise, and under one stamp no path is a prefix of another
abbrev pub IsPlacedThroughout : List Item → Topology → List SourceRecord → Type 0
IsPlacedThroughout items t order = (topic part : ℕ) → ArePlaced (contents items t order topic part)

-- the content for the records up to a feed is the content for all of them, cut at that feed
abbrev pub IsSentByFeeds : List Item → Topology → List SourceRecord → Type 0
IsSentByFeeds items t order = (feed topic part : ℕ) → contents items t (up_to feed order) topic part ≡ changes_up_to feed (contents items t order topic part)

-- each change has a time of at most 2^53 and a path of at most 512 numbers
abbrev pub IsSmallThroughout : List Item → Topology → List SourceRecord → Type 0
IsSmallThroughout items t order = (topic part : ℕ) → All IsSmall (contents items t order topic part)

-- ---- keys and rows

-- the columns of a relation, and those of its key
abbrev pub columns_at : List Item → ℕ → List Column
columns_at items number = unwrap_or (option_map columns (relation_at items number)) []

abbrev pub keys_at : List Item → ℕ → List Column
keys_at items number = unwrap_or (option_map (λ r. r.schema.keys) (relation_at items number)) []

-- the rightmost relation that a query reads
abbrev pub rightmost : From → ℕ
rightmost (One number) = number
rightmost (Join kind left right on) = right

-- ROWKEY, in a FULL join alone
abbrev pub rowkey_columns : JoinKind → List Column → List Column
rowkey_columns Full keys = take 1 keys
rowkey_columns _ keys = []

-- the columns of the whole rows that a query reads
abbrev pub read_columns : List Item → From → List Column
read_columns items (One number) = columns_at items number
read_columns items (Join kind left right on) = columns_at items left ++ columns_at items right ++ rowkey_columns kind (keys_at items left)

-- the columns of the keys in a query's repartition topic: for a grouping those of its result, for a side of a join
-- those of the table that it is joined with
abbrev pub cut_keys : List Item → Query → CutName → List Column
cut_keys items q cut.Group = q.out.schema.keys
cut_keys items q _ = keys_at items (rightmost q.from)

-- the columns of the rows in that topic, which are whole
abbrev pub cut_columns : List Item → Query → CutName → List Column
cut_columns items q cut.Group = read_columns items q.from
cut_columns items q _ = columns_at items (leftmost q.from)

-- the repartition topics of an item and of some items, in the order of their numbers: each by its query and its name
abbrev pub item_cuts : List Item → Item → List (Query × CutName)
item_cuts items (Declared r) = []
item_cuts items (Started q) = map (λ name. (q, name)) (cuts_of (stages_of items q))

abbrev pub all_cuts : List Item → List Item → List (Query × CutName)
all_cuts items [] = []
all_cuts items (i ∷ is) = item_cuts items i ++ all_cuts items is

-- a change has a whole key, and rows, of these columns
pub record HasWholeColumns (keys values : List Column) (c : Change) : Type 0 where
  pub key : IsRowOf keys c.key × IsKey c.key
  pub rows : IsBodyOf values c.body

-- each change in a relation's topic has a key and rows of the relation's columns, and each change in a repartition
-- topic a whole key and whole rows
pub record HasColumnsThroughout (items : List Item) (t : Topology) (order : List SourceRecord) : Type 0 where
  pub relations : (number part : ℕ) (r : Relation) → relation_at items number ≡ Some r → All (HasColumnsOf r) (contents items t order number part)
  pub cuts : (number part : ℕ) (q : Query) (name : CutName) → slice_get (all_cuts items items) number ≡ Some (q, name) →
      All (HasWholeColumns (cut_keys items q name) (cut_columns items q name)) (contents items t order (length items + number) part)
