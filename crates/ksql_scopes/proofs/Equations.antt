-- The equations of the names and the calls of an expression: one for each form.
use Rattle.std.proofs.Common.{◌≡◌, ℕ, Bool, List, ◌++◌, map, Option}
use Rattle.ksql_types.specs.declared.operator.BinaryOp.{BinaryOp}
use Rattle.ksql_types.specs.declared.value.SqlType.{SqlType}
use Rattle.expression_trees.specs.declared.tree.Expr.{Expr}
use Rattle.expression_trees.specs.declared.tree.Expr.TheVariants as e
use Rattle.expression_trees.specs.declared.tree.Expr.TheOpen.{Expr-F}
use Rattle.expression_trees.specs.declared.tree.WhenText.{WhenText}
use Rattle.ksql_scopes.specs.Uses.{Use, names, names_step, of_when, calls, calls_step}
use Rattle.expression_trees.proofs.Folds as f
use Rattle.expression_trees.proofs.Folds.{perhaps_folded}

-- ---- the folds of WHENs

unfoldable pub names_when : WhenText → List Use
names_when = f.folded_when (List Use) (List Use) names_step of_when

unfoldable pub calls_when : WhenText → List (List ℕ)
calls_when = f.folded_when (List (List ℕ)) (List (List ℕ)) calls_step of_when

-- ---- the folds of expressions

pub names-Digits : (number : ℕ) → names (e.Digits number) ≡ names_step (Expr-F.Digits number)
unfolding names
names-Digits number = f.fold-Digits (List Use) (List Use) names_step of_when number

pub names-Text : (content : List ℕ) → names (e.Text content) ≡ names_step (Expr-F.Text content)
unfolding names
names-Text content = f.fold-Text (List Use) (List Use) names_step of_when content

pub names-Truth : (b : Bool) → names (e.Truth b) ≡ names_step (Expr-F.Truth b)
unfolding names
names-Truth b = f.fold-Truth (List Use) (List Use) names_step of_when b

pub names-Null : names e.Null ≡ names_step Expr-F.Null
unfolding names
names-Null = f.fold-Null (List Use) (List Use) names_step of_when

pub names-Name : (q : Option (List ℕ)) (name : List ℕ) → names (e.Name q name) ≡ names_step (Expr-F.Name q name)
unfolding names
names-Name q name = f.fold-Name (List Use) (List Use) names_step of_when q name

pub names-Sign : (minus : Bool) (a : Expr) → names (e.Sign minus a) ≡ names_step (Expr-F.Sign minus (names a))
unfolding names
names-Sign minus a = f.fold-Sign (List Use) (List Use) names_step of_when minus a

pub names-Binary : (o : BinaryOp) (a : Expr) (b : Expr) → names (e.Binary o a b) ≡ names_step (Expr-F.Binary o (names a) (names b))
unfolding names
names-Binary o a b = f.fold-Binary (List Use) (List Use) names_step of_when o a b

pub names-Not : (a : Expr) → names (e.Not a) ≡ names_step (Expr-F.Not (names a))
unfolding names
names-Not a = f.fold-Not (List Use) (List Use) names_step of_when a

pub names-IsNull : (n : Bool) (a : Expr) → names (e.IsNull n a) ≡ names_step (Expr-F.IsNull n (names a))
unfolding names
names-IsNull n a = f.fold-IsNull (List Use) (List Use) names_step of_when n a

pub names-Between : (n : Bool) (a : Expr) (b : Expr) (c : Expr) → names (e.Between n a b c) ≡ names_step (Expr-F.Between n (names a) (names b) (names c))
unfolding names
names-Between n a b c = f.fold-Between (List Use) (List Use) names_step of_when n a b c

pub names-OneOf : (n : Bool) (a : Expr) (cs : List Expr) → names (e.OneOf n a cs) ≡ names_step (Expr-F.OneOf n (names a) (map names cs))
unfolding names
names-OneOf n a cs = f.fold-OneOf (List Use) (List Use) names_step of_when n a cs

pub names-Like : (n : Bool) (a : Expr) (pattern : List ℕ) → names (e.Like n a pattern) ≡ names_step (Expr-F.Like n (names a) pattern)
unfolding names
names-Like n a pattern = f.fold-Like (List Use) (List Use) names_step of_when n a pattern

pub names-Cast : (a : Expr) (to : SqlType) → names (e.Cast a to) ≡ names_step (Expr-F.Cast (names a) to)
unfolding names
names-Cast a to = f.fold-Cast (List Use) (List Use) names_step of_when a to

pub names-Case : (x : Option Expr) (ws : List WhenText) (z : Option Expr) → names (e.Case x ws z) ≡ names_step (Expr-F.Case (perhaps_folded names x) (map names_when ws) (perhaps_folded names z))
unfolding names names_when
names-Case x ws z = f.fold-Case (List Use) (List Use) names_step of_when x ws z

pub names-Call : (g : List ℕ) (star : Bool) (args : List Expr) → names (e.Call g star args) ≡ names_step (Expr-F.Call g star (map names args))
unfolding names
names-Call g star args = f.fold-Call (List Use) (List Use) names_step of_when g star args

pub calls-Digits : (number : ℕ) → calls (e.Digits number) ≡ calls_step (Expr-F.Digits number)
unfolding calls
calls-Digits number = f.fold-Digits (List (List ℕ)) (List (List ℕ)) calls_step of_when number

pub calls-Text : (content : List ℕ) → calls (e.Text content) ≡ calls_step (Expr-F.Text content)
unfolding calls
calls-Text content = f.fold-Text (List (List ℕ)) (List (List ℕ)) calls_step of_when content

pub calls-Truth : (b : Bool) → calls (e.Truth b) ≡ calls_step (Expr-F.Truth b)
unfolding calls
calls-Truth b = f.fold-Truth (List (List ℕ)) (List (List ℕ)) calls_step of_when b

pub calls-Null : calls e.Null ≡ calls_step Expr-F.Null
unfolding calls
calls-Null = f.fold-Null (List (List ℕ)) (List (List ℕ)) calls_step of_when

pub calls-Name : (q : Option (List ℕ)) (name : List ℕ) → calls (e.Name q name) ≡ calls_step (Expr-F.Name q name)
unfolding calls
calls-Name q name = f.fold-Name (List (List ℕ)) (List (List ℕ)) calls_step of_when q name

pub calls-Sign : (minus : Bool) (a : Expr) → calls (e.Sign minus a) ≡ calls_step (Expr-F.Sign minus (calls a))
unfolding calls
calls-Sign minus a = f.fold-Sign (List (List ℕ)) (List (List ℕ)) calls_step of_when minus a

pub calls-Binary : (o : BinaryOp) (a : Expr) (b : Expr) → calls (e.Binary o a b) ≡ calls_step (Expr-F.Binary o (calls a) (calls b))
unfolding calls
calls-Binary o a b = f.fold-Binary (List (List ℕ)) (List (List ℕ)) calls_step of_when o a b

pub calls-Not : (a : Expr) → calls (e.Not a) ≡ calls_step (Expr-F.Not (calls a))
unfolding calls
calls-Not a = f.fold-Not (List (List ℕ)) (List (List ℕ)) calls_step of_when a

pub calls-IsNull : (n : Bool) (a : Expr) → calls (e.IsNull n a) ≡ calls_step (Expr-F.IsNull n (calls a))
unfolding calls
calls-IsNull n a = f.fold-IsNull (List (List ℕ)) (List (List ℕ)) calls_step of_when n a

pub calls-Between : (n : Bool) (a : Expr) (b : Expr) (c : Expr) → calls (e.Between n a b c) ≡ calls_step (Expr-F.Between n (calls a) (calls b) (calls c))
unfolding calls
calls-Between n a b c = f.fold-Between (List (List ℕ)) (List (List ℕ)) calls_step of_when n a b c

pub calls-OneOf : (n : Bool) (a : Expr) (cs : List Expr) → calls (e.OneOf n a cs) ≡ calls_step (Expr-F.OneOf n (calls a) (map calls cs))
unfolding calls
calls-OneOf n a cs = f.fold-OneOf (List (List ℕ)) (List (List ℕ)) calls_step of_when n a cs

pub calls-Like : (n : Bool) (a : Expr) (pattern : List ℕ) → calls (e.Like n a pattern) ≡ calls_step (Expr-F.Like n (calls a) pattern)
unfolding calls
calls-Like n a pattern = f.fold-Like (List (List ℕ)) (List (List ℕ)) calls_step of_when n a pattern

pub calls-Cast : (a : Expr) (to : SqlType) → calls (e.Cast a to) ≡ calls_step (Expr-F.Cast (calls a) to)
unfolding calls
calls-Cast a to = f.fold-Cast (List (List ℕ)) (List (List ℕ)) calls_step of_when a to

pub calls-Case : (x : Option Expr) (ws : List WhenText) (z : Option Expr) → calls (e.Case x ws z) ≡ calls_step (Expr-F.Case (perhaps_folded calls x) (map calls_when ws) (perhaps_folded calls z))
unfolding calls calls_when
calls-Case x ws z = f.fold-Case (List (List ℕ)) (List (List ℕ)) calls_step of_when x ws z

pub calls-Call : (g : List ℕ) (star : Bool) (args : List Expr) → calls (e.Call g star args) ≡ calls_step (Expr-F.Call g star (map calls args))
unfolding calls
calls-Call g star args = f.fold-Call (List (List ℕ)) (List (List ℕ)) calls_step of_when g star args

-- ---- and of WHENs

pub names-when : (w : WhenText) → names_when w ≡ names w.cond ++ names w.result
unfolding names names_when
names-when w = f.fold-when (List Use) (List Use) names_step of_when w

pub calls-when : (w : WhenText) → calls_when w ≡ calls w.cond ++ calls w.result
unfolding calls calls_when
calls-when w = f.fold-when (List (List ℕ)) (List (List ℕ)) calls_step of_when w
