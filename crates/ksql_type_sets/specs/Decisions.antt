-- What sets of types decide.
use Rattle.std.specs.Prelude.{Bool, true, Option, Some, is_some}
use Rattle.ksql_types.specs.declared.value.SqlType.{SqlType}
use Rattle.ksql_types.specs.declared.value.SqlType.TheVariants as sql
use Rattle.ksql_expr.specs.Rules.{fits, same_type}
use Rattle.ksql_type_sets.specs.declared.possible.Types.{Types}
use Rattle.ksql_type_sets.specs.Sets.{some_in}

-- a set has a type other than that of plain NULL
abbrev pub has_value : Types → Bool
has_value a = some_in a is_some

-- a set has a type that fits BOOLEAN
abbrev pub can_be_true : Types → Bool
can_be_true a = some_in a (fits sql.Bool)

-- whether two types agree
abbrev pub do_agree : Option SqlType → Option SqlType → Bool
do_agree (Some s) (Some t) = same_type s t
do_agree _ _ = true

-- a type of one set agrees with a type of the other
abbrev pub can_agree : Types → Types → Bool
can_agree a b = some_in a (λ x. some_in b (do_agree x))
