-- The columns of relations.
use Rattle.std.specs.Prelude.{List, ◌++◌}
use Rattle.ksql_types.specs.declared.relation.Column.{Column}
use Rattle.ksql_types.specs.declared.relation.Relation.{Relation}

-- the columns of a relation: those of its key, and then those of its value
abbrev pub columns : Relation → List Column
columns r = r.schema.keys ++ r.schema.values
