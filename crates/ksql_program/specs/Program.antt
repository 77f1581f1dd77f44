-- The relations of a program.
use Rattle.std.specs.Prelude.{ℕ, List, map, Option, slice_get}
use Rattle.ksql_types.specs.declared.relation.Relation.{Relation}
use Rattle.ksql_program.specs.declared.program.Item.{Item}
use Rattle.ksql_program.specs.declared.program.Item.TheVariants.{Declared, Started}

-- the relation of an item
abbrev pub relation_of : Item → Relation
relation_of (Declared relation) = relation
relation_of (Started query) = query.out

-- the relations of some items, in order
abbrev pub relations : List Item → List Relation
relations items = map relation_of items

-- the relation with a number
abbrev pub relation_at : List Item → ℕ → Option Relation
relation_at items number = slice_get (relations items) number
