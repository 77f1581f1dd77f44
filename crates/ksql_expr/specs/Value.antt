-- The value of an expression on a row (ksqlDB reference manual, "Operators" and "Scalar functions"): one equation for
-- each form. Whole numbers are computed exactly and then wrapped into their type's range in two's complement.
use Rattle.std.specs.Prelude.{ℕ, ◌-◌, ◌^◌, zero, suc, Bool, true, false, not, ◌&&◌, ◌||◌, ◌==◌, nat_le, nat_lt, if◌then◌else◌, List, [], ◌∷◌, ◌++◌, length, take, drop, reverse, codes, bytes_eq, Option, Some, None, unwrap_or, option_map, option_and_then, slice_get, ℤ, pos, negsuc, neg_ℤ, ◌+ℤ◌, ◌-ℤ◌, ◌*ℤ◌, int_div, int_rem}
use Rattle.std.specs.List.{list_any, list_all, flat_map}
use Rattle.std.specs.Int.{w32, w64, int_wrap}
use Rattle.std.specs.Char.{is_ascii_digit}
use Rattle.std.specs.Fmt.{signed_decimal}
use Rattle.std.specs.Str.{chars, encode_utf8_all, str_to_ascii_uppercase, str_to_ascii_lowercase}
use Rattle.std.specs.Str.Parse.{signed_digits_value, without_leading_sign}
use Rattle.std.specs.declared.cmp.Ordering.{Ordering}
use Rattle.std.specs.Ordering.{nat_cmp, int_cmp, bool_cmp, is_lt, is_le, is_gt, is_ge, is_eq, is_ne}
use Rattle.std.specs.Cmp.Lexicographic.{slice_cmp}
use Rattle.ksql_types.specs.declared.operator.BinaryOp.{BinaryOp}
use Rattle.ksql_types.specs.declared.operator.BinaryOp.TheVariants as op
use Rattle.ksql_types.specs.declared.value.SqlType.{SqlType}
use Rattle.ksql_types.specs.declared.value.SqlType.TheVariants as sql
use Rattle.ksql_types.specs.declared.value.Value.{Value}
use Rattle.ksql_types.specs.declared.value.Value.TheVariants.{Null, Int, Big, Txt}
use Rattle.ksql_types.specs.declared.value.Value.TheVariants as value
use Rattle.ksql_types.specs.Key.{is_null}
use Rattle.ksql_types.specs.Text.{longest_value}
use Rattle.ksql_expr.specs.declared.typed.Fun.{Fun}
use Rattle.ksql_expr.specs.declared.typed.Fun.TheVariants.{Abs, Len, Concat, Substring, Trim, Ucase, Lcase, Coalesce, IfNull, NullIf}
use Rattle.ksql_expr.specs.declared.typed.Typed.{Typed, fold-Typed}
use Rattle.ksql_expr.specs.declared.typed.TypedNode.TheOpen.{TypedNode-F}

-- ---- numbers

-- the whole number of a value
abbrev pub whole : Value → Option ℤ
whole (Int n) = Some n
whole (Big n) = Some n
whole _ = None

-- a whole number in a type, wrapped into its range in two's complement
abbrev pub number : Option SqlType → ℤ → Value
number (Some sql.Int) z = Int (int_wrap w32 z)
number (Some sql.Big) z = Big (int_wrap w64 z)
number _ z = Null

-- a number computed from one other; NULL for NULL
abbrev pub from_one : Option SqlType → (ℤ → ℤ) → Value → Value
from_one t f a = unwrap_or (option_map (λ x. number t (f x)) (whole a)) Null

-- a number computed from two others; NULL if one of them is NULL, or if they give none
abbrev pub from_two : Option SqlType → (ℤ → ℤ → Option ℤ) → Value → Value → Value
from_two t f a b = unwrap_or (option_map (number t) (option_and_then (λ x. option_and_then (f x) (whole b)) (whole a))) Null

abbrev pub sum : ℤ → ℤ → Option ℤ
sum x y = Some (x +ℤ y)

abbrev pub difference : ℤ → ℤ → Option ℤ
difference x y = Some (x -ℤ y)

abbrev pub product : ℤ → ℤ → Option ℤ
product x y = Some (x *ℤ y)

-- toward zero; none if the divisor is 0
abbrev pub quotient : ℤ → ℤ → Option ℤ
quotient x (pos zero) = None
quotient x y = Some (int_div x y)

-- with the sign of the left operand; none if the divisor is 0
abbrev pub remainder : ℤ → ℤ → Option ℤ
remainder x (pos zero) = None
remainder x y = Some (int_rem x y)

-- the absolute value
abbrev pub magnitude : ℤ → ℤ
magnitude (pos n) = pos n
magnitude (negsuc n) = pos (suc n)

-- ---- texts

-- a text, or NULL if it is too long
abbrev pub text : List ℕ → Value
text t = if nat_le (length t) longest_value then Txt t else Null

-- two texts joined; NULL if one of them is NULL, or if the result is too long
abbrev pub joined : Value → Value → Value
joined (Txt a) (Txt b) = text (a ++ b)
joined _ _ = Null

-- the bytes of a text; none for NULL
abbrev pub bytes_of : Value → List ℕ
bytes_of (Txt t) = t
bytes_of _ = []

-- the index of the character at a position: 1 is the first, negative positions count from the end; 0, and a position
-- before the first character, mean the first
abbrev pub index_of : ℕ → ℤ → ℕ
index_of count (pos zero) = 0
index_of count (pos (suc before)) = before
index_of count (negsuc behind) = count - suc behind

-- at most the first n characters; all of them without a length
abbrev pub at_most : Option ℤ → List ℕ → List ℕ
at_most None cs = cs
at_most (Some (pos n)) cs = take n cs
at_most (Some (negsuc n)) cs = []

-- the characters of a text from a position on
abbrev pub part_of : List ℕ → ℤ → Option ℤ → List ℕ
part_of t at len = encode_utf8_all (at_most len (drop (index_of (length (chars t)) at) (chars t)))

-- SUBSTRING without a length, and with one; NULL if an operand is NULL
abbrev pub tail_of : Value → Value → Value
tail_of (Txt t) at = unwrap_or (option_map (λ p. Txt (part_of t p None)) (whole at)) Null
tail_of _ at = Null

abbrev pub middle_of : Value → Value → Value → Value
middle_of (Txt t) at len = unwrap_or (option_and_then (λ p. option_map (λ n. Txt (part_of t p (Some n))) (whole len)) (whole at)) Null
middle_of _ at len = Null

-- without leading spaces
abbrev pub after_spaces : List ℕ → List ℕ
after_spaces [] = []
after_spaces (c ∷ cs) = if c == 32 then after_spaces cs else c ∷ cs

-- without leading and trailing spaces
abbrev pub trimmed : List ℕ → List ℕ
trimmed t = reverse (after_spaces (reverse (after_spaces t)))

-- LEN: the number of characters
abbrev pub length_of : Value → Value
length_of (Txt t) = Int (pos (length (chars t)))
length_of _ = Null

-- TRIM
abbrev pub without_spaces : Value → Value
without_spaces (Txt t) = Txt (trimmed t)
without_spaces _ = Null

-- UCASE and LCASE: only ASCII letters change
abbrev pub in_capitals : Value → Value
in_capitals (Txt t) = Txt (str_to_ascii_uppercase t)
in_capitals _ = Null

abbrev pub in_small_letters : Value → Value
in_small_letters (Txt t) = Txt (str_to_ascii_lowercase t)
in_small_letters _ = Null

-- whether a test holds of the characters, or of some tail of them
abbrev pub some_tail : (List ℕ → Bool) → List ℕ → Bool
some_tail test [] = test []
some_tail test (c ∷ cs) = test (c ∷ cs) || some_tail test cs

-- whether there is a first character that passes, and the others pass too
abbrev pub first_and_rest : (ℕ → Bool) → (List ℕ → Bool) → List ℕ → Bool
first_and_rest first rest [] = false
first_and_rest first rest (c ∷ cs) = first c && rest cs

-- whether characters match a pattern, in which `%` matches any characters and `_` exactly one
abbrev pub is_like : List ℕ → List ℕ → Bool
is_like [] cs = length cs == 0
is_like (p ∷ ps) cs = if p == 37 then some_tail (is_like ps) cs else first_and_rest (λ c. (p == 95) || (c == p)) (is_like ps) cs

-- whether a value matches a pattern; false for NULL
abbrev pub is_value_like : List ℕ → Value → Bool
is_value_like pattern (Txt t) = is_like (chars pattern) (chars t)
is_value_like pattern _ = false

-- ---- truth

-- whether a value is TRUE
abbrev pub is_true_value : Value → Bool
is_true_value (value.Bool truth) = truth
is_true_value _ = false

-- how two values compare: numbers by value and texts by bytes; not at all if one of them is NULL
abbrev pub value_order : Value → Value → Option Ordering
value_order (Int x) (Int y) = Some (int_cmp x y)
value_order (Int x) (Big y) = Some (int_cmp x y)
value_order (Big x) (Int y) = Some (int_cmp x y)
value_order (Big x) (Big y) = Some (int_cmp x y)
value_order (Txt x) (Txt y) = Some (slice_cmp nat_cmp x y)
value_order (value.Bool x) (value.Bool y) = Some (bool_cmp x y)
value_order _ _ = None

-- whether two values compare in this way; never if one of them is NULL
abbrev pub compare_so : (Ordering → Bool) → Value → Value → Bool
compare_so test a b = unwrap_or (option_map test (value_order a b)) false

-- negated, if NOT is written
abbrev pub with_not : Bool → Bool → Value
with_not negated truth = value.Bool (if negated then not truth else truth)

-- ---- forms

-- the cell of a column; NULL if the row has no such column
abbrev pub cell : List Value → ℕ → Value
cell row column = unwrap_or (slice_get row column) Null

-- an operator on two values, in the result type; `+` joins texts
abbrev pub applied : Option SqlType → BinaryOp → Value → Value → Value
applied t op.Or a b = value.Bool (is_true_value a || is_true_value b)
applied t op.And a b = value.Bool (is_true_value a && is_true_value b)
applied t op.Eq a b = value.Bool (compare_so is_eq a b)
applied t op.Ne a b = value.Bool (compare_so is_ne a b)
applied t op.Lt a b = value.Bool (compare_so is_lt a b)
applied t op.Le a b = value.Bool (compare_so is_le a b)
applied t op.Gt a b = value.Bool (compare_so is_gt a b)
applied t op.Ge a b = value.Bool (compare_so is_ge a b)
applied (Some sql.Text) op.Add a b = joined a b
applied t op.Add a b = from_two t sum a b
applied t op.Sub a b = from_two t difference a b
applied t op.Concat a b = joined a b
applied t op.Mul a b = from_two t product a b
applied t op.Div a b = from_two t quotient a b
applied t op.Rem a b = from_two t remainder a b

-- a sign before a number
abbrev pub signed : Option SqlType → Bool → Value → Value
signed t true x = from_one t neg_ℤ x
signed t false x = x

-- a value as a BIGINT, if that is the result type
abbrev pub widened : Option SqlType → Value → Value
widened (Some sql.Big) (Int n) = Big n
widened t x = x

-- whether a whole number is below a limit and not below its negative
abbrev pub is_below : ℕ → ℤ → Bool
is_below limit (pos n) = nat_lt n limit
is_below limit (negsuc n) = nat_lt n limit

-- a whole number in a type, or NULL if it is out of range
abbrev pub fitting : SqlType → ℤ → Value
fitting sql.Int z = if is_below (2 ^ 31) z then Int z else Null
fitting sql.Big z = if is_below (2 ^ 63) z then Big z else Null
fitting t z = Null

-- whether a text is one digit or more
abbrev pub are_digits : List ℕ → Bool
are_digits ds = nat_lt 0 (length ds) && list_all is_ascii_digit ds

-- CAST to a number: of a number, and of a text that is an optional sign and digits
abbrev pub cast_number : SqlType → Value → Value
cast_number to (Int n) = fitting to n
cast_number to (Big n) = fitting to n
cast_number to (Txt t) = if are_digits (without_leading_sign t) then fitting to (signed_digits_value 10 t) else Null
cast_number to _ = Null

-- a truth value as text
abbrev pub truth_text : Bool → List ℕ
truth_text true = codes "true"
truth_text false = codes "false"

-- CAST to VARCHAR: decimal text, `true` or `false`
abbrev pub cast_text : Value → Value
cast_text (Int n) = Txt (signed_decimal n)
cast_text (Big n) = Txt (signed_decimal n)
cast_text (Txt t) = Txt t
cast_text (value.Bool b) = Txt (truth_text b)
cast_text Null = Null

-- CAST to BOOLEAN: `true` in any case gives TRUE
abbrev pub cast_truth : Value → Value
cast_truth (Txt t) = value.Bool (bytes_eq (str_to_ascii_lowercase t) (codes "true"))
cast_truth (value.Bool b) = value.Bool b
cast_truth _ = Null

abbrev pub cast : SqlType → Value → Value
cast sql.Int x = cast_number sql.Int x
cast sql.Big x = cast_number sql.Big x
cast sql.Text x = cast_text x
cast sql.Bool x = cast_truth x

-- whether a WHEN is taken: its condition is TRUE, or equals the operand
abbrev pub is_taken : Option Value → Value → Bool
is_taken None cond = is_true_value cond
is_taken (Some operand) cond = compare_so is_eq operand cond

-- the result of the first WHEN that is taken
abbrev pub first_taken : Option Value → List (Value × Value) → Option Value
first_taken operand [] = None
first_taken operand (w ∷ ws) = if is_taken operand w.0 then Some w.1 else first_taken operand ws

-- the same, else the result of ELSE, else NULL
abbrev pub chosen : Option Value → List (Value × Value) → Option Value → Value
chosen operand whens otherwise = unwrap_or (first_taken operand whens) (unwrap_or otherwise Null)

-- the first value that isn't NULL
abbrev pub first_value : List Value → Value
first_value [] = Null
first_value (x ∷ xs) = if is_null x then first_value xs else x

-- a function of one value, in the result type
abbrev pub of_one : Option SqlType → Fun → Value → Value
of_one t Abs x = from_one t magnitude x
of_one t Len x = length_of x
of_one t Trim x = without_spaces x
of_one t Ucase x = in_capitals x
of_one t Lcase x = in_small_letters x
of_one t _ x = Null

-- a function of two values: NULLIF is NULL if they are equal
abbrev pub of_two : Fun → Value → Value → Value
of_two Substring x at = tail_of x at
of_two NullIf x y = if compare_so is_eq x y then Null else x
of_two _ x y = Null

-- a function of three values
abbrev pub of_three : Fun → Value → Value → Value → Value
of_three Substring x at len = middle_of x at len
of_three _ x y z = Null

-- a function of one, two or three values
abbrev pub of_few : Option SqlType → Fun → List Value → Value
of_few t f (x ∷ []) = of_one t f x
of_few t f (x ∷ y ∷ []) = of_two f x y
of_few t f (x ∷ y ∷ z ∷ []) = of_three f x y z
of_few t f _ = Null

-- a scalar function, in the result type
abbrev pub fun_value : Option SqlType → Fun → List Value → Value
fun_value t Concat xs = text (flat_map bytes_of xs)
fun_value t Coalesce xs = widened t (first_value xs)
fun_value t IfNull xs = widened t (first_value xs)
fun_value t f xs = of_few t f xs

-- the value of a form, given the values of its parts; an aggregate has no value on one row
abbrev pub node_value : List Value → ℕ → TypedNode-F (Option SqlType → Value) Value (Value × Value) → Option SqlType → Value
node_value row time (TypedNode-F.Literal x) t = x
node_value row time (TypedNode-F.Column column) t = cell row column
node_value row time TypedNode-F.RowTime t = Big (int_wrap w64 (pos time))
node_value row time (TypedNode-F.Sign minus x) t = signed t minus x
node_value row time (TypedNode-F.Binary o a b) t = applied t o a b
node_value row time (TypedNode-F.Not x) t = value.Bool (not (is_true_value x))
node_value row time (TypedNode-F.IsNull negated x) t = with_not negated (is_null x)
node_value row time (TypedNode-F.Between negated x low high) t = with_not negated (compare_so is_ge x low && compare_so is_le x high)
node_value row time (TypedNode-F.OneOf negated x choices) t = with_not negated (list_any (compare_so is_eq x) choices)
node_value row time (TypedNode-F.Like negated x pattern) t = with_not negated (is_value_like pattern x)
node_value row time (TypedNode-F.Cast x to) t = cast to x
node_value row time (TypedNode-F.Case operand whens otherwise) t = widened t (chosen operand whens otherwise)
node_value row time (TypedNode-F.Call fun args) t = fun_value t fun args
node_value row time (TypedNode-F.Aggregate fun arg) t = Null

-- the value of an expression on a row at a time
unfoldable pub value_of : List Value → ℕ → Typed → Value
value_of row time = fold-Typed (Option SqlType → Value) Value (Value × Value) (node_value row time) (λ e. e.node e.ty) (λ w. (w.cond, w.result))
