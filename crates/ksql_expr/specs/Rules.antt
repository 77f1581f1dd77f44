-- The types of operators and functions (ksqlDB reference manual, "Operators" and "Scalar functions"). The type of an
-- operand is None if it has only the type of NULL, which fits every type. A rule returns None if there is no type.
use Rattle.std.specs.Prelude.{Bool, true, false, ◌&&◌, ◌||◌, if◌then◌else◌, nat_le, length, List, [], ◌∷◌, Option, Some, None, option_and_then}
use Rattle.std.specs.List.{list_all}
use Rattle.ksql_types.specs.declared.operator.BinaryOp.{BinaryOp}
use Rattle.ksql_types.specs.declared.operator.BinaryOp.TheVariants as op
use Rattle.ksql_types.specs.declared.value.SqlType.{SqlType}
use Rattle.ksql_types.specs.declared.value.SqlType.TheVariants.{Int, Big, Text}
use Rattle.ksql_types.specs.declared.value.SqlType.TheVariants as sql
use Rattle.ksql_types.specs.declared.value.Value.{Value}
use Rattle.ksql_types.specs.declared.value.Value.TheVariants as value
use Rattle.ksql_expr.specs.declared.typed.Fun.{Fun}
use Rattle.ksql_expr.specs.declared.typed.Fun.TheVariants.{Abs, Len, Concat, Substring, Trim, Ucase, Lcase, Coalesce, IfNull, NullIf}
use Rattle.ksql_expr.specs.declared.typed.AggFun.{AggFun}
use Rattle.ksql_expr.specs.declared.typed.AggFun.TheVariants.{CountAll, Count, Sum, Min, Max, Latest, Earliest}

-- the type of a value
abbrev pub type_of : Value → Option SqlType
type_of value.Null = None
type_of (value.Int n) = Some Int
type_of (value.Big n) = Some Big
type_of (value.Txt t) = Some Text
type_of (value.Bool b) = Some sql.Bool

-- whether two types are the same
abbrev pub same_type : SqlType → SqlType → Bool
same_type Int Int = true
same_type Big Big = true
same_type Text Text = true
same_type sql.Bool sql.Bool = true
same_type _ _ = false

-- whether an operand of this type fits where a type is expected
abbrev pub fits : SqlType → Option SqlType → Bool
fits wanted None = true
fits wanted (Some t) = same_type wanted t

abbrev pub is_number : Option SqlType → Bool
is_number t = fits Int t || fits Big t

-- this type, if a condition holds
abbrev pub given : Bool → SqlType → Option SqlType
given holds t = if holds then Some t else None

-- the type of an operation on two numbers: BIGINT if one of them is, else INTEGER
abbrev pub wider : Option SqlType → Option SqlType → SqlType
wider (Some Big) b = Big
wider a (Some Big) = Big
wider a b = Int

-- `<`: two numbers, or two texts
abbrev pub are_ordered : Option SqlType → Option SqlType → Bool
are_ordered a b = (is_number a && is_number b) || (fits Text a && fits Text b)

-- `=`: also two truth values
abbrev pub are_comparable : Option SqlType → Option SqlType → Bool
are_comparable a b = are_ordered a b || (fits sql.Bool a && fits sql.Bool b)

-- an operator between two operands
abbrev pub binary_type : BinaryOp → Option SqlType → Option SqlType → Option SqlType
binary_type op.Or a b = given (fits sql.Bool a && fits sql.Bool b) sql.Bool
binary_type op.And a b = given (fits sql.Bool a && fits sql.Bool b) sql.Bool
binary_type op.Eq a b = given (are_comparable a b) sql.Bool
binary_type op.Ne a b = given (are_comparable a b) sql.Bool
binary_type op.Lt a b = given (are_ordered a b) sql.Bool
binary_type op.Le a b = given (are_ordered a b) sql.Bool
binary_type op.Gt a b = given (are_ordered a b) sql.Bool
binary_type op.Ge a b = given (are_ordered a b) sql.Bool
binary_type op.Add a b = if is_number a && is_number b then Some (wider a b) else given (fits Text a && fits Text b) Text
binary_type op.Sub a b = given (is_number a && is_number b) (wider a b)
binary_type op.Concat a b = given (fits Text a && fits Text b) Text
binary_type op.Mul a b = given (is_number a && is_number b) (wider a b)
binary_type op.Div a b = given (is_number a && is_number b) (wider a b)
binary_type op.Rem a b = given (is_number a && is_number b) (wider a b)

-- a sign before a number
abbrev pub sign_type : Option SqlType → Option SqlType
sign_type a = given (is_number a) (wider a None)

-- whether CAST converts a type to another
abbrev pub can_cast : Option SqlType → SqlType → Bool
can_cast from Int = is_number from || fits Text from
can_cast from Big = is_number from || fits Text from
can_cast from Text = true
can_cast from sql.Bool = fits sql.Bool from || fits Text from

-- the common type of two results; INTEGER widens to BIGINT
abbrev pub joint_of : SqlType → SqlType → Option SqlType
joint_of Int Int = Some Int
joint_of Int Big = Some Big
joint_of Big Int = Some Big
joint_of Big Big = Some Big
joint_of Text Text = Some Text
joint_of sql.Bool sql.Bool = Some sql.Bool
joint_of _ _ = None

-- the same, where each result may have only the type of NULL
abbrev pub joint : Option SqlType → Option SqlType → Option (Option SqlType)
joint None b = Some b
joint a None = Some a
joint (Some a) (Some b) = option_and_then (λ t. Some (Some t)) (joint_of a b)

-- the common type of some results
abbrev pub joint_type : List (Option SqlType) → Option (Option SqlType)
joint_type [] = Some None
joint_type (t ∷ ts) = option_and_then (joint t) (joint_type ts)

-- a type as the type of an expression
abbrev pub typed : Option SqlType → Option (Option SqlType)
typed t = option_and_then (λ found. Some (Some found)) t

-- a scalar function
abbrev pub fun_type : Fun → List (Option SqlType) → Option (Option SqlType)
fun_type Abs (x ∷ []) = typed (sign_type x)
fun_type Len (s ∷ []) = typed (given (fits Text s) Int)
fun_type Concat ss = typed (given (nat_le 2 (length ss) && list_all (fits Text) ss) Text)
fun_type Substring (s ∷ at ∷ []) = typed (given (fits Text s && is_number at) Text)
fun_type Substring (s ∷ at ∷ len ∷ []) = typed (given (fits Text s && is_number at && is_number len) Text)
fun_type Trim (s ∷ []) = typed (given (fits Text s) Text)
fun_type Ucase (s ∷ []) = typed (given (fits Text s) Text)
fun_type Lcase (s ∷ []) = typed (given (fits Text s) Text)
fun_type Coalesce (x ∷ xs) = joint_type (x ∷ xs)
fun_type IfNull (x ∷ y ∷ []) = joint_type (x ∷ y ∷ [])
fun_type NullIf (x ∷ y ∷ []) = if are_comparable x y then Some x else None
fun_type _ _ = None

-- an aggregate function with its argument
abbrev pub agg_type : AggFun → Option (Option SqlType) → Option (Option SqlType)
agg_type CountAll None = Some (Some Big)
agg_type Count (Some x) = Some (Some Big)
agg_type Sum (Some x) = typed (sign_type x)
agg_type Min (Some x) = typed (sign_type x)
agg_type Max (Some x) = typed (sign_type x)
agg_type Latest (Some x) = Some x
agg_type Earliest (Some x) = Some x
agg_type _ _ = None

-- the condition of a WHEN: a truth value, or a value comparable to the operand
abbrev pub can_be_when : Option (Option SqlType) → Option SqlType → Bool
can_be_when None cond = fits sql.Bool cond
can_be_when (Some operand) cond = are_comparable operand cond

-- CASE: its operand, its conditions and its results
abbrev pub case_type : Option (Option SqlType) → List (Option SqlType) → List (Option SqlType) → Option (Option SqlType)
case_type operand conds results = if list_all (can_be_when operand) conds then joint_type results else None

-- BETWEEN
abbrev pub is_between_typed : Option SqlType → Option SqlType → Option SqlType → Bool
is_between_typed x low high = are_ordered x low && are_ordered x high

-- IN
abbrev pub is_in_typed : Option SqlType → List (Option SqlType) → Bool
is_in_typed x choices = list_all (are_comparable x) choices
