-- What holds of the relations of accepted statements beside their limits.
use Rattle.std.specs.Prelude.{not, IsTrue, All}
use Rattle.ksql_types.specs.declared.relation.Relation.{Relation}
use Rattle.ksql_types.specs.Names.{is_among, reserved_columns}
use Rattle.ksql_types.specs.Columns.{columns}

-- no column has a reserved name
abbrev pub HasPlainNames : Relation → Type 0
HasPlainNames r = All (λ c. IsTrue (not (is_among reserved_columns c.name))) (columns r)
