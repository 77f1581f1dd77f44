-- Whether two expressions are the same: the same form with the same parts.
use denote.Enum.Bare.{sameb}
use Rattle.std.specs.Prelude.{ℕ, ◌==◌, Bool, true, false, not, ◌&&◌, List, [], ◌∷◌, Option, Some, None, bytes_eq}
use Rattle.ksql_types.specs.declared.operator.BinaryOp.{BinaryOp}
use Rattle.ksql_types.specs.contracts.operator.BinaryOp.{the_type as the_op}
use Rattle.ksql_types.specs.declared.value.SqlType.{SqlType}
use Rattle.ksql_types.specs.contracts.value.SqlType.{the_type as the_sql_type}
use Rattle.expression_trees.specs.declared.tree.Expr.{Expr, fold-Expr, out-Expr}
use Rattle.expression_trees.specs.declared.tree.Expr.TheOpen.{Expr-F, WhenText-F}
use Rattle.expression_trees.specs.declared.tree.WhenText.{WhenText, fold-WhenText}

-- a test of another value against a part
abbrev pub Test : Type 0 → Type 0
Test A = A → Bool

abbrev pub same_op : BinaryOp → BinaryOp → Bool
same_op o p = sameb the_op o p

abbrev pub same_type : SqlType → SqlType → Bool
same_type s t = sameb the_sql_type s t

abbrev pub same_truth : Bool → Bool → Bool
same_truth true b = b
same_truth false b = not b

abbrev pub same_name : Option (List ℕ) → Option (List ℕ) → Bool
same_name None None = true
same_name (Some a) (Some b) = bytes_eq a b
same_name _ _ = false

abbrev pub same_part : {A : Type 0} → Option (Test A) → Option A → Bool
same_part None None = true
same_part (Some test) (Some a) = test a
same_part _ _ = false

abbrev pub same_parts : {A : Type 0} → List (Test A) → List A → Bool
same_parts [] [] = true
same_parts (test ∷ tests) (a ∷ others) = test a && same_parts tests others
same_parts _ _ = false

abbrev pub same_form : Expr-F (Test Expr) (Test WhenText) → Expr-F Expr WhenText → Bool
same_form (Expr-F.Digits m) (Expr-F.Digits n) = m == n
same_form (Expr-F.Text s) (Expr-F.Text t) = bytes_eq s t
same_form (Expr-F.Truth a) (Expr-F.Truth b) = same_truth a b
same_form Expr-F.Null Expr-F.Null = true
same_form (Expr-F.Name q m) (Expr-F.Name r n) = same_name q r && bytes_eq m n
same_form (Expr-F.Sign m x) (Expr-F.Sign n a) = same_truth m n && x a
same_form (Expr-F.Binary o x y) (Expr-F.Binary p a b) = same_op o p && x a && y b
same_form (Expr-F.Not x) (Expr-F.Not a) = x a
same_form (Expr-F.IsNull m x) (Expr-F.IsNull n a) = same_truth m n && x a
same_form (Expr-F.Between m x y z) (Expr-F.Between n a b c) = same_truth m n && x a && y b && z c
same_form (Expr-F.OneOf m x xs) (Expr-F.OneOf n a es) = same_truth m n && x a && same_parts xs es
same_form (Expr-F.Like m x s) (Expr-F.Like n a t) = same_truth m n && x a && bytes_eq s t
same_form (Expr-F.Cast x s) (Expr-F.Cast a t) = x a && same_type s t
same_form (Expr-F.Case x ws y) (Expr-F.Case a vs b) = same_part x a && same_parts ws vs && same_part y b
same_form (Expr-F.Call f m xs) (Expr-F.Call g n es) = bytes_eq f g && same_truth m n && same_parts xs es
same_form _ _ = false

abbrev pub same_when : WhenText-F (Test Expr) (Test WhenText) → Test WhenText
same_when w v = w.cond v.cond && w.result v.result

-- whether two expressions are the same
unfoldable pub same_expr : Expr → Expr → Bool
same_expr = fold-Expr (Test Expr) (Test WhenText) (λ form a. same_form form (out-Expr a)) same_when

-- whether two WHENs are the same
unfoldable pub same_when_text : WhenText → WhenText → Bool
same_when_text = fold-WhenText (Test Expr) (Test WhenText) (λ form a. same_form form (out-Expr a)) same_when
