-- The equations of the tree that is made of an expression and of the set of its types: one for each form.
use Rattle.std.proofs.Common.{◌≡◌, ℕ, Bool, List, map, Option, ap}
use Rattle.ksql_types.specs.declared.operator.BinaryOp.{BinaryOp}
use Rattle.ksql_types.specs.declared.value.SqlType.{SqlType}
use Rattle.expression_trees.specs.declared.tree.Expr.{Expr}
use Rattle.expression_trees.specs.declared.tree.Expr.TheVariants as e
use Rattle.expression_trees.specs.declared.tree.Expr.TheOpen.{Expr-F}
use Rattle.expression_trees.specs.declared.tree.WhenText.{WhenText}
use Rattle.ksql_scopes.specs.declared.scope.Scope.{Scope}
use Rattle.expression_trees.proofs.Folds as f
use Rattle.expression_trees.proofs.Folds.{perhaps_folded}
use Rattle.ksql_typing.specs.Possible.{possible, Sets, WhenSets, sets_step, when_sets}
use Rattle.ksql_typing.specs.Made.{made, Tree, WhenTree, tree_step, when_step}

-- ---- the folds of WHENs

unfoldable pub made_when : WhenText → WhenTree
made_when = f.folded_when Tree WhenTree tree_step when_step

unfoldable pub possible_when : WhenText → WhenSets
possible_when = f.folded_when Sets WhenSets sets_step when_sets

-- ---- the folds of expressions

pub made-Digits : (number : ℕ) (s : Scope) → made (e.Digits number) s ≡ tree_step (Expr-F.Digits number) s
unfolding made
made-Digits number s = ap (λ v. v s) (f.fold-Digits Tree WhenTree tree_step when_step number)

pub made-Text : (content : List ℕ) (s : Scope) → made (e.Text content) s ≡ tree_step (Expr-F.Text content) s
unfolding made
made-Text content s = ap (λ v. v s) (f.fold-Text Tree WhenTree tree_step when_step content)

pub made-Truth : (b : Bool) (s : Scope) → made (e.Truth b) s ≡ tree_step (Expr-F.Truth b) s
unfolding made
made-Truth b s = ap (λ v. v s) (f.fold-Truth Tree WhenTree tree_step when_step b)

pub made-Null : (s : Scope) → made e.Null s ≡ tree_step Expr-F.Null s
unfolding made
made-Null s = ap (λ v. v s) (f.fold-Null Tree WhenTree tree_step when_step)

pub made-Name : (q : Option (List ℕ)) (name : List ℕ) (s : Scope) → made (e.Name q name) s ≡ tree_step (Expr-F.Name q name) s
unfolding made
made-Name q name s = ap (λ v. v s) (f.fold-Name Tree WhenTree tree_step when_step q name)

pub made-Sign : (minus : Bool) (a : Expr) (s : Scope) → made (e.Sign minus a) s ≡ tree_step (Expr-F.Sign minus (made a)) s
unfolding made
made-Sign minus a s = ap (λ v. v s) (f.fold-Sign Tree WhenTree tree_step when_step minus a)

pub made-Binary : (o : BinaryOp) (a : Expr) (b : Expr) (s : Scope) → made (e.Binary o a b) s ≡ tree_step (Expr-F.Binary o (made a) (made b)) s
unfolding made
made-Binary o a b s = ap (λ v. v s) (f.fold-Binary Tree WhenTree tree_step when_step o a b)

pub made-Not : (a : Expr) (s : Scope) → made (e.Not a) s ≡ tree_step (Expr-F.Not (made a)) s
unfolding made
made-Not a s = ap (λ v. v s) (f.fold-Not Tree WhenTree tree_step when_step a)

pub made-IsNull : (n : Bool) (a : Expr) (s : Scope) → made (e.IsNull n a) s ≡ tree_step (Expr-F.IsNull n (made a)) s
unfolding made
made-IsNull n a s = ap (λ v. v s) (f.fold-IsNull Tree WhenTree tree_step when_step n a)

pub made-Between : (n : Bool) (a : Expr) (b : Expr) (c : Expr) (s : Scope) → made (e.Between n a b c) s ≡ tree_step (Expr-F.Between n (made a) (made b) (made c)) s
unfolding made
made-Between n a b c s = ap (λ v. v s) (f.fold-Between Tree WhenTree tree_step when_step n a b c)

pub made-OneOf : (n : Bool) (a : Expr) (cs : List Expr) (s : Scope) → made (e.OneOf n a cs) s ≡ tree_step (Expr-F.OneOf n (made a) (map made cs)) s
unfolding made
made-OneOf n a cs s = ap (λ v. v s) (f.fold-OneOf Tree WhenTree tree_step when_step n a cs)

pub made-Like : (n : Bool) (a : Expr) (pattern : List ℕ) (s : Scope) → made (e.Like n a pattern) s ≡ tree_step (Expr-F.Like n (made a) pattern) s
unfolding made
made-Like n a pattern s = ap (λ v. v s) (f.fold-Like Tree WhenTree tree_step when_step n a pattern)

pub made-Cast : (a : Expr) (to : SqlType) (s : Scope) → made (e.Cast a to) s ≡ tree_step (Expr-F.Cast (made a) to) s
unfolding made
made-Cast a to s = ap (λ v. v s) (f.fold-Cast Tree WhenTree tree_step when_step a to)

pub made-Case : (x : Option Expr) (ws : List WhenText) (z : Option Expr) (s : Scope) → made (e.Case x ws z) s ≡ tree_step (Expr-F.Case (perhaps_folded made x) (map made_when ws) (perhaps_folded made z)) s
unfolding made made_when
made-Case x ws z s = ap (λ v. v s) (f.fold-Case Tree WhenTree tree_step when_step x ws z)

pub made-Call : (g : List ℕ) (star : Bool) (args : List Expr) (s : Scope) → made (e.Call g star args) s ≡ tree_step (Expr-F.Call g star (map made args)) s
unfolding made
made-Call g star args s = ap (λ v. v s) (f.fold-Call Tree WhenTree tree_step when_step g star args)

pub possible-Digits : (number : ℕ) (s : Scope) → possible (e.Digits number) s ≡ sets_step (Expr-F.Digits number) s
unfolding possible
possible-Digits number s = ap (λ v. v s) (f.fold-Digits Sets WhenSets sets_step when_sets number)

pub possible-Text : (content : List ℕ) (s : Scope) → possible (e.Text content) s ≡ sets_step (Expr-F.Text content) s
unfolding possible
possible-Text content s = ap (λ v. v s) (f.fold-Text Sets WhenSets sets_step when_sets content)

pub possible-Truth : (b : Bool) (s : Scope) → possible (e.Truth b) s ≡ sets_step (Expr-F.Truth b) s
unfolding possible
possible-Truth b s = ap (λ v. v s) (f.fold-Truth Sets WhenSets sets_step when_sets b)

pub possible-Null : (s : Scope) → possible e.Null s ≡ sets_step Expr-F.Null s
unfolding possible
possible-Null s = ap (λ v. v s) (f.fold-Null Sets WhenSets sets_step when_sets)

pub possible-Name : (q : Option (List ℕ)) (name : List ℕ) (s : Scope) → possible (e.Name q name) s ≡ sets_step (Expr-F.Name q name) s
unfolding possible
possible-Name q name s = ap (λ v. v s) (f.fold-Name Sets WhenSets sets_step when_sets q name)

pub possible-Sign : (minus : Bool) (a : Expr) (s : Scope) → possible (e.Sign minus a) s ≡ sets_step (Expr-F.Sign minus (possible a)) s
unfolding possible
possible-Sign minus a s = ap (λ v. v s) (f.fold-Sign Sets WhenSets sets_step when_sets minus a)

pub possible-Binary : (o : BinaryOp) (a : Expr) (b : Expr) (s : Scope) → possible (e.Binary o a b) s ≡ sets_step (Expr-F.Binary o (possible a) (possible b)) s
unfolding possible
possible-Binary o a b s = ap (λ v. v s) (f.fold-Binary Sets WhenSets sets_step when_sets o a b)

pub possible-Not : (a : Expr) (s : Scope) → possible (e.Not a) s ≡ sets_step (Expr-F.Not (possible a)) s
unfolding possible
possible-Not a s = ap (λ v. v s) (f.fold-Not Sets WhenSets sets_step when_sets a)

pub possible-IsNull : (n : Bool) (a : Expr) (s : Scope) → possible (e.IsNull n a) s ≡ sets_step (Expr-F.IsNull n (possible a)) s
unfolding possible
possible-IsNull n a s = ap (λ v. v s) (f.fold-IsNull Sets WhenSets sets_step when_sets n a)

pub possible-Between : (n : Bool) (a : Expr) (b : Expr) (c : Expr) (s : Scope) → possible (e.Between n a b c) s ≡ sets_step (Expr-F.Between n (possible a) (possible b) (possible c)) s
unfolding possible
possible-Between n a b c s = ap (λ v. v s) (f.fold-Between Sets WhenSets sets_step when_sets n a b c)

pub possible-OneOf : (n : Bool) (a : Expr) (cs : List Expr) (s : Scope) → possible (e.OneOf n a cs) s ≡ sets_step (Expr-F.OneOf n (possible a) (map possible cs)) s
unfolding possible
possible-OneOf n a cs s = ap (λ v. v s) (f.fold-OneOf Sets WhenSets sets_step when_sets n a cs)

pub possible-Like : (n : Bool) (a : Expr) (pattern : List ℕ) (s : Scope) → possible (e.Like n a pattern) s ≡ sets_step (Expr-F.Like n (possible a) pattern) s
unfolding possible
possible-Like n a pattern s = ap (λ v. v s) (f.fold-Like Sets WhenSets sets_step when_sets n a pattern)

pub possible-Cast : (a : Expr) (to : SqlType) (s : Scope) → possible (e.Cast a to) s ≡ sets_step (Expr-F.Cast (possible a) to) s
unfolding possible
possible-Cast a to s = ap (λ v. v s) (f.fold-Cast Sets WhenSets sets_step when_sets a to)

pub possible-Case : (x : Option Expr) (ws : List WhenText) (z : Option Expr) (s : Scope) → possible (e.Case x ws z) s ≡ sets_step (Expr-F.Case (perhaps_folded possible x) (map possible_when ws) (perhaps_folded possible z)) s
unfolding possible possible_when
possible-Case x ws z s = ap (λ v. v s) (f.fold-Case Sets WhenSets sets_step when_sets x ws z)

pub possible-Call : (g : List ℕ) (star : Bool) (args : List Expr) (s : Scope) → possible (e.Call g star args) s ≡ sets_step (Expr-F.Call g star (map possible args)) s
unfolding possible
possible-Call g star args s = ap (λ v. v s) (f.fold-Call Sets WhenSets sets_step when_sets g star args)

-- ---- and of WHENs

pub possible-when : (w : WhenText) (s : Scope) → possible_when w s ≡ (possible w.cond s, possible w.result s)
unfolding possible possible_when
possible-when w s = ap (λ v. v s) (f.fold-when Sets WhenSets sets_step when_sets w)

pub made-when : (w : WhenText) (s : Scope) → made_when w s ≡ when_step (record { cond = made w.cond; result = made w.result }) s
unfolding made made_when
made-when w s = ap (λ v. v s) (f.fold-when Tree WhenTree tree_step when_step w)
