-- The typed tree of an expression, built from those of its parts; None if there is none.
use Rattle.std.specs.Prelude.{ℕ, Bool, true, false, if◌then◌else◌, List, [], ◌∷◌, Option, Some, None}
use Rattle.ksql_types.specs.declared.operator.BinaryOp.{BinaryOp}
use Rattle.ksql_types.specs.declared.value.SqlType.{SqlType}
use Rattle.ksql_types.specs.declared.value.SqlType.TheVariants as sql
use Rattle.ksql_types.specs.declared.value.Value.{Value}
use Rattle.ksql_types.specs.declared.value.Value.TheVariants as value
use Rattle.expression_trees.specs.declared.tree.Expr.{Expr, fold-Expr}
use Rattle.expression_trees.specs.declared.tree.Expr.TheOpen.{Expr-F, WhenText-F}
use Rattle.expression_trees.specs.Options.{◌>>=◌}
use Rattle.ksql_expr.specs.declared.typed.AggFun.{AggFun}
use Rattle.ksql_expr.specs.declared.typed.AggFun.TheVariants.{CountAll, Count}
use Rattle.ksql_expr.specs.declared.typed.Fun.{Fun}
use Rattle.ksql_expr.specs.declared.typed.Typed.{Typed}
use Rattle.ksql_expr.specs.declared.typed.TypedNode.{TypedNode}
use Rattle.ksql_expr.specs.declared.typed.TypedNode.TheVariants as n
use Rattle.ksql_expr.specs.declared.typed.TypedWhen.{TypedWhen, roll-TypedWhen}
use Rattle.ksql_expr.specs.Rules.{type_of, fits, binary_type, sign_type, can_cast, fun_type, agg_type, is_between_typed, is_in_typed, typed}
use Rattle.ksql_expr.specs.Typing.{of, truth, types}
use Rattle.ksql_scopes.specs.declared.scope.Scope.{Scope}
use Rattle.ksql_scopes.specs.Functions.{function_of, aggregate_of}
use Rattle.ksql_scopes.specs.Scope.{Meaning, meanings}
use Rattle.ksql_typing.specs.Possible.{scope_within}
use Rattle.ksql_typing.specs.Standing.{digits_value, type_of_case}

-- ---- a form built from typed parts

-- a form, if it has a type
abbrev pub with_type : Option (Option SqlType) → TypedNode → Option Typed
with_type None form = None
with_type (Some t) form = Some (of t form)

abbrev pub truth_where : Bool → TypedNode → Option Typed
truth_where holds form = if holds then Some (truth form) else None

abbrev pub literal_tree : Value → Option Typed
literal_tree x = Some (of (type_of x) (n.Literal x))

abbrev pub name_tree : List Meaning → Option Typed
name_tree (m ∷ []) = Some (of (Some m.1) m.0)
name_tree _ = None

abbrev pub sign_tree : Bool → Typed → Option Typed
sign_tree minus x = with_type (typed (sign_type x.ty)) (n.Sign minus x)

abbrev pub binary_tree : BinaryOp → Typed → Typed → Option Typed
binary_tree o x y = with_type (typed (binary_type o x.ty y.ty)) (n.Binary o x y)

abbrev pub not_tree : Typed → Option Typed
not_tree x = truth_where (fits sql.Bool x.ty) (n.Not x)

abbrev pub is_null_tree : Bool → Typed → Option Typed
is_null_tree negated x = Some (truth (n.IsNull negated x))

abbrev pub between_tree : Bool → Typed → Typed → Typed → Option Typed
between_tree negated x y z = truth_where (is_between_typed x.ty y.ty z.ty) (n.Between negated x y z)

abbrev pub one_of_tree : Bool → Typed → List Typed → Option Typed
one_of_tree negated x ys = truth_where (is_in_typed x.ty (types ys)) (n.OneOf negated x ys)

abbrev pub like_tree : Bool → List ℕ → Typed → Option Typed
like_tree negated pattern x = truth_where (fits sql.Text x.ty) (n.Like negated x pattern)

abbrev pub cast_tree : SqlType → Typed → Option Typed
cast_tree to x = if can_cast x.ty to then Some (of (Some to) (n.Cast x to)) else None

abbrev pub case_tree : Option Typed → List TypedWhen → Option Typed → Option Typed
case_tree x ws z = with_type (type_of_case x ws z) (n.Case x ws z)

abbrev pub call_tree : Fun → List Typed → Option Typed
call_tree f xs = with_type (fun_type f (types xs)) (n.Call f xs)

abbrev pub aggregate_tree : AggFun → Typed → Option Typed
aggregate_tree f x = with_type (agg_type f (Some x.ty)) (n.Aggregate f (Some x))

abbrev pub count_all_tree : Option Typed
count_all_tree = Some (of (Some sql.Big) (n.Aggregate CountAll None))

abbrev pub typed_when : Typed → Typed → TypedWhen
typed_when cond result = roll-TypedWhen (record { cond = cond; result = result })

-- ---- the tree of an expression

-- the tree of a part in a scope
abbrev pub Tree : Type 0
Tree = Scope → Option Typed

abbrev pub WhenTree : Type 0
WhenTree = Scope → Option TypedWhen

-- an optional part
abbrev pub perhaps_there : Scope → Option Tree → Option (Option Typed)
perhaps_there s None = Some None
perhaps_there s (Some f) = f s >>= λ x. Some (Some x)

-- all parts
abbrev pub all_there : {A : Type 0} → Scope → List (Scope → Option A) → Option (List A)
all_there s [] = Some []
all_there s (f ∷ fs) = f s >>= λ x. all_there s fs >>= λ xs. Some (x ∷ xs)

abbrev pub agg_call_tree : AggFun → Bool → List Typed → Option Typed
agg_call_tree f false (x ∷ []) = aggregate_tree f x
agg_call_tree Count true [] = count_all_tree
agg_call_tree f star args = None

abbrev pub fun_call_tree : Fun → Bool → List Typed → Option Typed
fun_call_tree f star args = if star then None else call_tree f args

-- a call, given the functions with its name and its arguments
abbrev pub named_tree : Option AggFun → Option Fun → Bool → List Typed → Option Typed
named_tree (Some f) _ star args = agg_call_tree f star args
named_tree None (Some f) star args = fun_call_tree f star args
named_tree None None star args = None

abbrev pub tree_step : Expr-F Tree WhenTree → Tree
tree_step (Expr-F.Digits number) s = literal_tree (digits_value number)
tree_step (Expr-F.Text content) s = literal_tree (value.Txt content)
tree_step (Expr-F.Truth b) s = literal_tree (value.Bool b)
tree_step Expr-F.Null s = literal_tree value.Null
tree_step (Expr-F.Name q name) s = name_tree (meanings s q name)
tree_step (Expr-F.Sign minus a) s = a s >>= sign_tree minus
tree_step (Expr-F.Binary o a b) s = a s >>= λ x. b s >>= binary_tree o x
tree_step (Expr-F.Not a) s = a s >>= not_tree
tree_step (Expr-F.IsNull negated a) s = a s >>= is_null_tree negated
tree_step (Expr-F.Between negated a low high) s = a s >>= λ x. low s >>= λ y. high s >>= between_tree negated x y
tree_step (Expr-F.OneOf negated a choices) s = a s >>= λ x. all_there s choices >>= one_of_tree negated x
tree_step (Expr-F.Like negated a pattern) s = a s >>= like_tree negated pattern
tree_step (Expr-F.Cast a to) s = a s >>= cast_tree to
tree_step (Expr-F.Case operand whens otherwise) s =
    perhaps_there s operand >>= λ x. all_there s whens >>= λ ys. perhaps_there s otherwise >>= case_tree x ys
tree_step (Expr-F.Call f star args) s = all_there (scope_within f s) args >>= named_tree (aggregate_of f) (function_of f) star

abbrev pub when_step : WhenText-F Tree WhenTree → WhenTree
when_step w s = w.cond s >>= λ x. w.result s >>= λ y. Some (typed_when x y)

-- the typed tree of an expression in a scope
unfoldable pub made : Expr → Tree
made = fold-Expr Tree WhenTree tree_step when_step
