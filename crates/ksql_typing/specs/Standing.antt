-- The typed trees of an expression, by rules for each form. Digits, texts, truth values and NULL become literals, names
-- what they stand for, calls their functions, and every other form the form with the same name and parts, with the type
-- that the rules give for the types of these. A call of an unknown function, whose arguments have types, can become
-- anything, of every type including that of NULL, so an expression with one can have several types.
use Rattle.std.specs.Prelude.{◌≡◌, ℕ, Bool, true, false, nat_le, if◌then◌else◌, IsTrue, List, [], ◌∷◌, ◌++◌, map, Option, Some, None, option_map, pos}
use Rattle.ksql_types.specs.declared.operator.BinaryOp.{BinaryOp}
use Rattle.ksql_types.specs.declared.value.SqlType.{SqlType}
use Rattle.ksql_types.specs.declared.value.SqlType.TheVariants as sql
use Rattle.ksql_types.specs.declared.value.Value.{Value}
use Rattle.ksql_types.specs.declared.value.Value.TheVariants as value
use Rattle.expression_trees.specs.declared.tree.Expr.{Expr}
use Rattle.expression_trees.specs.declared.tree.Expr.TheVariants as e
use Rattle.expression_trees.specs.declared.tree.WhenText.{WhenText}
use Rattle.ksql_expr.specs.declared.typed.AggFun.{AggFun}
use Rattle.ksql_expr.specs.declared.typed.AggFun.TheVariants.{CountAll, Count}
use Rattle.ksql_expr.specs.declared.typed.Fun.{Fun}
use Rattle.ksql_expr.specs.declared.typed.Typed.{Typed}
use Rattle.ksql_expr.specs.declared.typed.TypedNode.{TypedNode}
use Rattle.ksql_expr.specs.declared.typed.TypedNode.TheVariants as n
use Rattle.ksql_expr.specs.declared.typed.TypedWhen.{TypedWhen}
use Rattle.ksql_expr.specs.Rules.{fits, binary_type, sign_type, can_cast, fun_type, agg_type, case_type, is_between_typed, is_in_typed}
use Rattle.ksql_expr.specs.Typing.{of, types}
use Rattle.ksql_scopes.specs.declared.scope.Scope.{Scope}
use Rattle.ksql_scopes.specs.Functions.{function_of, aggregate_of, is_unknown}
use Rattle.ksql_scopes.specs.Scope.{meanings, inside}
use Rattle.ksql_scopes.specs.Uses.{has_unknown_function}

-- a part of an expression and its typed tree: an expression, an optional one, a list of them, and WHENs
pub data Pair : Type 0 where
  one : Expr → Typed → Pair
  perhaps : Option Expr → Option Typed → Pair
  each : List Expr → List Typed → Pair
  whens : List WhenText → List TypedWhen → Pair

-- digits are an INTEGER up to 2147483647, else a BIGINT
abbrev pub digits_type : ℕ → SqlType
digits_type number = if nat_le number 2147483647 then sql.Int else sql.Big

-- the value that digits spell
abbrev pub digits_value : ℕ → Value
digits_value number = if nat_le number 2147483647 then value.Int (pos number) else value.Big (pos number)

-- the results of a CASE: those of its WHENs, and that of ELSE
abbrev pub with_otherwise : List (Option SqlType) → Option (Option SqlType) → List (Option SqlType)
with_otherwise results None = results
with_otherwise results (Some t) = results ++ t ∷ []

-- the type of a CASE, given its parts
abbrev pub type_of_case : Option Typed → List TypedWhen → Option Typed → Option (Option SqlType)
type_of_case x ws z =
    case_type (option_map (λ e. e.ty) x) (map (λ w. w.cond.ty) ws) (with_otherwise (map (λ w. w.result.ty) ws) (option_map (λ e. e.ty) z))

pub data Stands : Scope → Pair → Type 0 where
  digits : {s : Scope} {number : ℕ} → Stands s (one (e.Digits number) (of (Some (digits_type number)) (n.Literal (digits_value number))))
  text : {s : Scope} {content : List ℕ} → Stands s (one (e.Text content) (of (Some sql.Text) (n.Literal (value.Txt content))))
  truth : {s : Scope} {b : Bool} → Stands s (one (e.Truth b) (of (Some sql.Bool) (n.Literal (value.Bool b))))
  null : {s : Scope} → Stands s (one e.Null (of None (n.Literal value.Null)))
  name : {s : Scope} {q : Option (List ℕ)} {found : List ℕ} {form : TypedNode} {t : SqlType}
      → meanings s q found ≡ (form, t) ∷ [] → Stands s (one (e.Name q found) (of (Some t) form))
  sign : {s : Scope} {minus : Bool} {a : Expr} {x : Typed} {t : SqlType} → Stands s (one a x)
      → sign_type x.ty ≡ Some t → Stands s (one (e.Sign minus a) (of (Some t) (n.Sign minus x)))
  binary : {s : Scope} {o : BinaryOp} {a b : Expr} {x y : Typed} {t : SqlType} → Stands s (one a x) → Stands s (one b y)
      → binary_type o x.ty y.ty ≡ Some t → Stands s (one (e.Binary o a b) (of (Some t) (n.Binary o x y)))
  not : {s : Scope} {a : Expr} {x : Typed} → Stands s (one a x)
      → IsTrue (fits sql.Bool x.ty) → Stands s (one (e.Not a) (of (Some sql.Bool) (n.Not x)))
  is_null : {s : Scope} {negated : Bool} {a : Expr} {x : Typed} → Stands s (one a x)
      → Stands s (one (e.IsNull negated a) (of (Some sql.Bool) (n.IsNull negated x)))
  between : {s : Scope} {negated : Bool} {a low high : Expr} {x y z : Typed}
      → Stands s (one a x) → Stands s (one low y) → Stands s (one high z) → IsTrue (is_between_typed x.ty y.ty z.ty)
      → Stands s (one (e.Between negated a low high) (of (Some sql.Bool) (n.Between negated x y z)))
  one_of : {s : Scope} {negated : Bool} {a : Expr} {es : List Expr} {x : Typed} {xs : List Typed}
      → Stands s (one a x) → Stands s (each es xs) → IsTrue (is_in_typed x.ty (types xs))
      → Stands s (one (e.OneOf negated a es) (of (Some sql.Bool) (n.OneOf negated x xs)))
  like : {s : Scope} {negated : Bool} {a : Expr} {pattern : List ℕ} {x : Typed} → Stands s (one a x)
      → IsTrue (fits sql.Text x.ty) → Stands s (one (e.Like negated a pattern) (of (Some sql.Bool) (n.Like negated x pattern)))
  cast : {s : Scope} {a : Expr} {to : SqlType} {x : Typed} → Stands s (one a x)
      → IsTrue (can_cast x.ty to) → Stands s (one (e.Cast a to) (of (Some to) (n.Cast x to)))
  case : {s : Scope} {operand otherwise : Option Expr} {ws : List WhenText} {x z : Option Typed} {ys : List TypedWhen} {t : Option SqlType}
      → Stands s (perhaps operand x) → Stands s (whens ws ys) → Stands s (perhaps otherwise z)
      → type_of_case x ys z ≡ Some t → Stands s (one (e.Case operand ws otherwise) (of t (n.Case x ys z)))
  call : {s : Scope} {f : List ℕ} {args : List Expr} {found : Fun} {xs : List Typed} {t : Option SqlType} → function_of f ≡ Some found
      → Stands s (each args xs) → fun_type found (types xs) ≡ Some t → Stands s (one (e.Call f false args) (of t (n.Call found xs)))
  count_all : {s : Scope} {f : List ℕ} → aggregate_of f ≡ Some Count
      → Stands s (one (e.Call f true []) (of (Some sql.Big) (n.Aggregate CountAll None)))
  aggregate : {s : Scope} {f : List ℕ} {a : Expr} {found : AggFun} {x : Typed} {t : Option SqlType}
      → aggregate_of f ≡ Some found → Stands (inside s) (one a x) → agg_type found (Some x.ty) ≡ Some t
      → Stands s (one (e.Call f false (a ∷ [])) (of t (n.Aggregate found (Some x))))
  unknown : {s : Scope} {f : List ℕ} {star : Bool} {args : List Expr} {xs : List Typed} {t : Option SqlType} {form : TypedNode}
      → IsTrue (is_unknown f) → Stands s (each args xs) → Stands s (one (e.Call f star args) (of t form))
  left_out : {s : Scope} → Stands s (perhaps None None)
  there : {s : Scope} {a : Expr} {x : Typed} → Stands s (one a x) → Stands s (perhaps (Some a) (Some x))
  none : {s : Scope} → Stands s (each [] [])
  more : {s : Scope} {a : Expr} {es : List Expr} {x : Typed} {xs : List Typed}
      → Stands s (one a x) → Stands s (each es xs) → Stands s (each (a ∷ es) (x ∷ xs))
  no_when : {s : Scope} → Stands s (whens [] [])
  more_whens : {s : Scope} {w : WhenText} {ws : List WhenText} {y : TypedWhen} {ys : List TypedWhen}
      → Stands s (one w.cond y.cond) → Stands s (one w.result y.result) → Stands s (whens ws ys) → Stands s (whens (w ∷ ws) (y ∷ ys))

-- the typed tree of an expression in a scope, all of whose functions are known
abbrev pub IsTypedTree : Scope → Expr → Typed → Type 0
IsTypedTree s a x = Stands s (one a x) × (has_unknown_function a ≡ false)

-- an expression can have this type in a scope
abbrev pub HasType : Scope → Expr → Option SqlType → Type 0
HasType s a t = (x : Typed) × Stands s (one a x) × (x.ty ≡ t)

-- it can have some type
abbrev pub HasSomeType : Scope → Expr → Type 0
HasSomeType s a = (t : Option SqlType) × HasType s a t

-- ---- what places require

-- an expression has a type other than that of plain NULL
abbrev pub HasValue : Scope → Expr → Type 0
HasValue s a = (t : SqlType) × HasType s a (Some t)

-- a type of an expression fits BOOLEAN
abbrev pub CanBeTrue : Scope → Expr → Type 0
CanBeTrue s a = (t : Option SqlType) × HasType s a t × IsTrue (fits sql.Bool t)

-- two types agree: they are the same, or one of them is that of NULL
abbrev pub Agree : Option SqlType → Option SqlType → Type 0
Agree (Some s) (Some t) = s ≡ t
Agree _ _ = Unit {0}

-- two expressions have types that agree
abbrev pub CanAgree : Scope → Expr × Expr → Type 0
CanAgree s sides = (x : Option SqlType) × (y : Option SqlType) × HasType s sides.0 x × HasType s sides.1 y × Agree x y
