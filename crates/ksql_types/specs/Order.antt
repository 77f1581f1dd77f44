-- The order of keys and of tasks.
use Rattle.std.specs.Prelude.{List, Bool, true, false, IsTrue}
use Rattle.std.specs.declared.cmp.Ordering.{Ordering}
use Rattle.std.specs.declared.cmp.Ordering.TheVariants.{Equal}
use Rattle.std.specs.Ordering.{nat_cmp, int_cmp, bool_cmp, ordering_then}
use Rattle.std.specs.Cmp.Lexicographic.{pointwise, slice_cmp}
use Rattle.ksql_types.specs.declared.relation.TaskName.{TaskName}
use Rattle.ksql_types.specs.declared.value.Value.{Value}
use Rattle.ksql_types.specs.declared.value.Value.TheVariants.{Int, Big, Txt, Bool as Truth}

-- whether two values have the same type; NULL has the type of no value
abbrev pub is_alike : Value → Value → Bool
is_alike (Int a) (Int b) = true
is_alike (Big a) (Big b) = true
is_alike (Txt a) (Txt b) = true
is_alike (Truth a) (Truth b) = true
is_alike _ _ = false

-- two lists have the same length, and their values the same types in order
abbrev pub AreAlike : List Value → List Value → Type 0
AreAlike a b = IsTrue (pointwise is_alike a b)

-- how two values of the same type compare: numbers by value, texts by their bytes, false before true
abbrev pub value_cmp : Value → Value → Ordering
value_cmp (Int a) (Int b) = int_cmp a b
value_cmp (Big a) (Big b) = int_cmp a b
value_cmp (Txt a) (Txt b) = slice_cmp nat_cmp a b
value_cmp (Truth a) (Truth b) = bool_cmp a b
value_cmp _ _ = Equal

-- how two keys compare: the first values that differ decide
abbrev pub key_cmp : List Value → List Value → Ordering
key_cmp = slice_cmp value_cmp

-- how two tasks compare: by sub-topology, then by partition
abbrev pub task_cmp : TaskName → TaskName → Ordering
task_cmp a b = ordering_then (nat_cmp a.sub b.sub) (nat_cmp a.part b.part)
