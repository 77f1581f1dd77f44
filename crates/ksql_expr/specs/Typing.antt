-- The type of an expression: one rule for each form. The columns of the row have the types cs; None is the type of
-- plain NULL, which an aggregate can have.
use Rattle.std.specs.Prelude.{◌≡◌, ℕ, Bool, IsTrue, List, [], ◌∷◌, ◌++◌, map, Option, Some, None, option_map, slice_get}
use Rattle.ksql_types.specs.declared.operator.BinaryOp.{BinaryOp}
use Rattle.ksql_types.specs.declared.value.SqlType.{SqlType}
use Rattle.ksql_types.specs.declared.value.SqlType.TheVariants as sql
use Rattle.ksql_types.specs.declared.value.Value.{Value}
use Rattle.ksql_expr.specs.declared.typed.AggFun.{AggFun}
use Rattle.ksql_expr.specs.declared.typed.Fun.{Fun}
use Rattle.ksql_expr.specs.declared.typed.Typed.{Typed, roll-Typed}
use Rattle.ksql_expr.specs.declared.typed.TypedNode.{TypedNode}
use Rattle.ksql_expr.specs.declared.typed.TypedNode.TheVariants as n
use Rattle.ksql_expr.specs.declared.typed.TypedWhen.{TypedWhen}
use Rattle.ksql_expr.specs.Rules.{type_of, fits, binary_type, sign_type, can_cast, fun_type, agg_type, case_type, is_between_typed, is_in_typed}

-- an expression of this type and form
abbrev pub of : Option SqlType → TypedNode → Typed
of t form = roll-Typed (record { ty = t; node = form })

-- a truth value of this form
abbrev pub truth : TypedNode → Typed
truth form = of (Some sql.Bool) form

abbrev pub types : List Typed → List (Option SqlType)
types es = map (λ e. e.ty) es

-- the results of a CASE: those of its WHENs, and that of ELSE
abbrev pub results : List TypedWhen → Option Typed → List Typed
results ws None = map (λ w. w.result) ws
results ws (Some otherwise) = map (λ w. w.result) ws ++ otherwise ∷ []

-- what is typed: an expression, an optional one, a list of them, and each WHEN of a CASE
pub data Part : Type 0 where
  one : Typed → Part
  perhaps : Option Typed → Part
  each : List Typed → Part
  whens : List TypedWhen → Part

pub data HasTypes : List (Option SqlType) → Part → Type 0 where
  literal : {cs : List (Option SqlType)} {x : Value} → HasTypes cs (one (of (type_of x) (n.Literal x)))
  column : {cs : List (Option SqlType)} {i : ℕ} {t : Option SqlType} → slice_get cs i ≡ Some t → HasTypes cs (one (of t (n.Column i)))
  row_time : {cs : List (Option SqlType)} → HasTypes cs (one (of (Some sql.Big) n.RowTime))
  sign : {cs : List (Option SqlType)} {minus : Bool} {a : Typed} {t : SqlType} → HasTypes cs (one a)
      → sign_type a.ty ≡ Some t → HasTypes cs (one (of (Some t) (n.Sign minus a)))
  binary : {cs : List (Option SqlType)} {o : BinaryOp} {a b : Typed} {t : SqlType} → HasTypes cs (one a) → HasTypes cs (one b)
      → binary_type o a.ty b.ty ≡ Some t → HasTypes cs (one (of (Some t) (n.Binary o a b)))
  not : {cs : List (Option SqlType)} {a : Typed} → HasTypes cs (one a) → IsTrue (fits sql.Bool a.ty) → HasTypes cs (one (truth (n.Not a)))
  is_null : {cs : List (Option SqlType)} {negated : Bool} {a : Typed} → HasTypes cs (one a) → HasTypes cs (one (truth (n.IsNull negated a)))
  between : {cs : List (Option SqlType)} {negated : Bool} {a low high : Typed}
      → HasTypes cs (one a) → HasTypes cs (one low) → HasTypes cs (one high)
      → IsTrue (is_between_typed a.ty low.ty high.ty) → HasTypes cs (one (truth (n.Between negated a low high)))
  one_of : {cs : List (Option SqlType)} {negated : Bool} {a : Typed} {es : List Typed} → HasTypes cs (one a) → HasTypes cs (each es)
      → IsTrue (is_in_typed a.ty (types es)) → HasTypes cs (one (truth (n.OneOf negated a es)))
  like : {cs : List (Option SqlType)} {negated : Bool} {a : Typed} {pattern : List ℕ} → HasTypes cs (one a)
      → IsTrue (fits sql.Text a.ty) → HasTypes cs (one (truth (n.Like negated a pattern)))
  cast : {cs : List (Option SqlType)} {a : Typed} {to : SqlType} → HasTypes cs (one a)
      → IsTrue (can_cast a.ty to) → HasTypes cs (one (of (Some to) (n.Cast a to)))
  case : {cs : List (Option SqlType)} {operand otherwise : Option Typed} {ws : List TypedWhen} {t : Option SqlType}
      → HasTypes cs (perhaps operand) → HasTypes cs (whens ws) → HasTypes cs (perhaps otherwise)
      → case_type (option_map (λ e. e.ty) operand) (map (λ w. w.cond.ty) ws) (types (results ws otherwise)) ≡ Some t
      → HasTypes cs (one (of t (n.Case operand ws otherwise)))
  call : {cs : List (Option SqlType)} {f : Fun} {es : List Typed} {t : Option SqlType} → HasTypes cs (each es)
      → fun_type f (types es) ≡ Some t → HasTypes cs (one (of t (n.Call f es)))
  aggregate : {cs : List (Option SqlType)} {f : AggFun} {a : Option Typed} {t : Option SqlType} → HasTypes cs (perhaps a)
      → agg_type f (option_map (λ e. e.ty) a) ≡ Some t → HasTypes cs (one (of t (n.Aggregate f a)))
  left_out : {cs : List (Option SqlType)} → HasTypes cs (perhaps None)
  there : {cs : List (Option SqlType)} {a : Typed} → HasTypes cs (one a) → HasTypes cs (perhaps (Some a))
  none : {cs : List (Option SqlType)} → HasTypes cs (each [])
  more : {cs : List (Option SqlType)} {a : Typed} {es : List Typed} → HasTypes cs (one a) → HasTypes cs (each es) → HasTypes cs (each (a ∷ es))
  no_when : {cs : List (Option SqlType)} → HasTypes cs (whens [])
  more_whens : {cs : List (Option SqlType)} {w : TypedWhen} {ws : List TypedWhen} → HasTypes cs (one w.cond) → HasTypes cs (one w.result)
      → HasTypes cs (whens ws) → HasTypes cs (whens (w ∷ ws))

-- an expression and its parts have their types
abbrev pub IsTyped : List (Option SqlType) → Typed → Type 0
IsTyped cs e = HasTypes cs (one e)
