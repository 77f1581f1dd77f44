-- Keys.
use Rattle.std.specs.Prelude.{List, [], ◌∷◌, length, Bool, true, false, not, nat_le, ◌&&◌, IsTrue}
use Rattle.std.specs.List.{list_all}
use Rattle.ksql_types.specs.declared.key.KeyValues.{KeyValues}
use Rattle.ksql_types.specs.declared.key.KeyValues.TheVariants.{One, Several}
use Rattle.ksql_types.specs.declared.value.Value.{Value}
use Rattle.ksql_types.specs.declared.value.Value.TheVariants.{Null}

-- whether a value is NULL
abbrev pub is_null : Value → Bool
is_null Null = true
is_null _ = false

-- whether values form a key: at most eight values, none of which is NULL
abbrev pub is_key : List Value → Bool
is_key values = nat_le (length values) 8 && list_all (λ v. not (is_null v)) values

abbrev pub IsKey : List Value → Type 0
IsKey values = IsTrue (is_key values)

-- the values of a key
abbrev pub values_of : KeyValues → List Value
values_of (One value) = value ∷ []
values_of (Several values) = values
