-- Sets of types: the types that a form can have, computed from those of its parts.
use Rattle.std.specs.Prelude.{Bool, true, false, ◌&&◌, if◌then◌else◌, nat_le, length, List, [], ◌∷◌, ◌++◌, Option, Some, None}
use Rattle.std.specs.List.{list_any, list_all}
use Rattle.ksql_types.specs.declared.operator.BinaryOp.{BinaryOp}
use Rattle.ksql_types.specs.declared.value.SqlType.{SqlType}
use Rattle.ksql_types.specs.declared.value.SqlType.TheVariants as sql
use Rattle.ksql_expr.specs.declared.typed.AggFun.{AggFun}
use Rattle.ksql_expr.specs.declared.typed.AggFun.TheVariants.{Count}
use Rattle.ksql_expr.specs.declared.typed.Fun.{Fun}
use Rattle.ksql_expr.specs.declared.typed.Fun.TheVariants.{Concat, Coalesce}
use Rattle.ksql_expr.specs.Rules.{same_type, fits, binary_type, sign_type, can_cast, fun_type, agg_type, joint, can_be_when, are_comparable, is_between_typed, typed}
use Rattle.ksql_type_sets.specs.declared.possible.Types.{Types}

-- all types
abbrev pub kinds : List (Option SqlType)
kinds = None ∷ Some sql.Int ∷ Some sql.Big ∷ Some sql.Text ∷ Some sql.Bool ∷ []

-- whether a type is in a set
abbrev pub has : Types → Option SqlType → Bool
has a None = a.null
has a (Some sql.Int) = a.int
has a (Some sql.Big) = a.big
has a (Some sql.Text) = a.text
has a (Some sql.Bool) = a.truth

-- the set of the types that pass
abbrev pub collect : (Option SqlType → Bool) → Types
collect p = record { null = p None; int = p (Some sql.Int); big = p (Some sql.Big); text = p (Some sql.Text); truth = p (Some sql.Bool) }

-- whether a type in a set passes
unfoldable pub some_in : Types → (Option SqlType → Bool) → Bool
some_in a p = list_any (λ t. has a t && p t) kinds

-- whether two types are the same
abbrev pub is_same : Option SqlType → Option SqlType → Bool
is_same None None = true
is_same (Some a) (Some b) = same_type a b
is_same _ _ = false

-- whether the result is this type
abbrev pub is_found : Option (Option SqlType) → Option SqlType → Bool
is_found None t = false
is_found (Some found) t = is_same found t

-- this type alone, if a condition holds
abbrev pub where_found : Bool → Option SqlType → Types
where_found holds found = collect (λ t. holds && is_same found t)

abbrev pub no_types : Types
no_types = where_found false None

abbrev pub truth_where : Bool → Types
truth_where holds = where_found holds (Some sql.Bool)

abbrev pub sign_types : Types → Types
sign_types a = collect (λ t. some_in a (λ x. is_found (typed (sign_type x)) t))

abbrev pub binary_types : BinaryOp → Types → Types → Types
binary_types o a b = collect (λ t. some_in a (λ x. some_in b (λ y. is_found (typed (binary_type o x y)) t)))

abbrev pub fitting : SqlType → Types → Types
fitting wanted a = truth_where (some_in a (fits wanted))

-- whether a set isn't empty
abbrev pub is_some_in : Types → Bool
is_some_in a = some_in a (λ t. true)

abbrev pub between_types : Types → Types → Types → Types
between_types a low high = truth_where (some_in a (λ x. some_in low (λ y. some_in high (λ z. is_between_typed x y z))))

-- whether each of some sets has a type that passes
abbrev pub each_in : (Option SqlType → Bool) → List Types → Bool
each_in p sets = list_all (λ a. some_in a p) sets

abbrev pub one_of_types : Types → List Types → Types
one_of_types a choices = truth_where (some_in a (λ x. each_in (are_comparable x) choices))

abbrev pub cast_types : SqlType → Types → Types
cast_types to a = where_found (some_in a (λ x. can_cast x to)) (Some to)

-- the common types of two sets
abbrev pub joint_two : Types → Types → Types
joint_two a b = collect (λ t. some_in a (λ x. some_in b (λ y. is_found (joint x y) t)))

abbrev pub joint_types : List Types → Types
joint_types [] = where_found true None
joint_types (a ∷ sets) = joint_two a (joint_types sets)

abbrev pub can_be_whens : Option Types → List Types → Bool
can_be_whens None conds = each_in (can_be_when None) conds
can_be_whens (Some a) conds = some_in a (λ x. each_in (can_be_when (Some x)) conds)

abbrev pub with_otherwise_types : List Types → Option Types → List Types
with_otherwise_types results None = results
with_otherwise_types results (Some a) = results ++ a ∷ []

abbrev pub case_types : Option Types → List Types → List Types → Types
case_types operand conds results = collect (λ t. can_be_whens operand conds && has (joint_types results) t)

-- a function of one, two or three arguments
abbrev pub fixed_can : Fun → List Types → Option SqlType → Bool
fixed_can f (a ∷ []) t = some_in a (λ x. is_found (fun_type f (x ∷ [])) t)
fixed_can f (a ∷ b ∷ []) t = some_in a (λ x. some_in b (λ y. is_found (fun_type f (x ∷ y ∷ [])) t))
fixed_can f (a ∷ b ∷ c ∷ []) t = some_in a (λ x. some_in b (λ y. some_in c (λ z. is_found (fun_type f (x ∷ y ∷ z ∷ [])) t)))
fixed_can f _ t = false

abbrev pub fixed_types : Fun → List Types → Types
fixed_types f sets = collect (fixed_can f sets)

abbrev pub coalesce_types : List Types → Types
coalesce_types [] = no_types
coalesce_types (a ∷ sets) = joint_types (a ∷ sets)

abbrev pub fun_types : Fun → List Types → Types
fun_types Concat sets = where_found (nat_le 2 (length sets) && each_in (fits sql.Text) sets) (Some sql.Text)
fun_types Coalesce sets = coalesce_types sets
fun_types f sets = fixed_types f sets

abbrev pub agg_types : AggFun → Types → Types
agg_types f a = collect (λ t. some_in a (λ x. is_found (agg_type f (Some x)) t))

-- the types that a call of an unknown function can have
abbrev pub unknown_types : Bool → Types
unknown_types holds = collect (λ t. holds)

abbrev pub agg_call_types : AggFun → Bool → List Types → Types
agg_call_types f false (a ∷ []) = agg_types f a
agg_call_types Count true [] = where_found true (Some sql.Big)
agg_call_types f star args = no_types

abbrev pub fun_call_types : Fun → Bool → List Types → Types
fun_call_types f star args = if star then no_types else fun_types f args

-- the types of a call, given the functions with its name and the sets of its arguments
abbrev pub call_types : Option AggFun → Option Fun → Bool → List Types → Types
call_types (Some f) _ star args = agg_call_types f star args
call_types None (Some f) star args = fun_call_types f star args
call_types None None star args = unknown_types (list_all is_some_in args)
