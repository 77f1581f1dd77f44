-- Resolved names, form by form.
use Rattle.std.proofs.Common.{◌≡◌, ℕ, Bool, true, false, if◌then◌else◌, List, [], ◌∷◌, map, Option, Some, None, refl}
use Rattle.std.specs.Prelude.{option_map, find, filter}
use Rattle.ksql_types.specs.declared.operator.BinaryOp.{BinaryOp}
use Rattle.ksql_types.specs.declared.value.SqlType.{SqlType}
use Rattle.expression_trees.specs.declared.tree.Expr.{Expr}
use Rattle.expression_trees.specs.declared.tree.Expr.TheVariants as e
use Rattle.expression_trees.specs.declared.tree.Expr.TheVariants.{outs-Digits, outs-Text, outs-Truth, outs-Null, outs-Name, outs-Sign, outs-Binary, outs-Not, outs-IsNull, outs-Between, outs-OneOf, outs-Like, outs-Cast, outs-Case, outs-Call}
use Rattle.expression_trees.specs.declared.tree.WhenText.{WhenText}
use Rattle.ksql_scopes.specs.declared.scope.Scope.{Scope}
use Rattle.ksql_scopes.specs.declared.scope.ScopeColumn.{ScopeColumn}
use Rattle.expression_trees.proofs.Becoming.{becomes-decided, becomes-Digits, becomes-Text, becomes-Truth, becomes-Null, becomes-Sign, becomes-Binary, becomes-Not, becomes-IsNull, becomes-Between, becomes-OneOf, becomes-Like, becomes-Cast, becomes-Case, becomes-Call}
use Rattle.ksql_scopes.specs.Resolved.{resolved, resolved_when, full_name, full_name_of, written_for}

module _ (s : Scope) where
  pub resolved-Name : (q : Option (List ℕ)) (name : List ℕ) → resolved s (e.Name q name) ≡ full_name s q name
  unfolding resolved
  resolved-Name q name = becomes-decided (full_name_of s) (e.Name q name) (full_name s q name) (rw (outs-Name q name))

  pub resolved-Digits : (number : ℕ) → resolved s (e.Digits number) ≡ e.Digits number
  unfolding resolved
  resolved-Digits number = becomes-Digits (full_name_of s) (e.Digits number) number refl (rw (outs-Digits number))

  pub resolved-Text : (content : List ℕ) → resolved s (e.Text content) ≡ e.Text content
  unfolding resolved
  resolved-Text content = becomes-Text (full_name_of s) (e.Text content) content refl (rw (outs-Text content))

  pub resolved-Truth : (b : Bool) → resolved s (e.Truth b) ≡ e.Truth b
  unfolding resolved
  resolved-Truth b = becomes-Truth (full_name_of s) (e.Truth b) b refl (rw (outs-Truth b))

  pub resolved-Null : resolved s e.Null ≡ e.Null
  unfolding resolved
  resolved-Null = becomes-Null (full_name_of s) e.Null refl (rw outs-Null)

  pub resolved-Sign : (minus : Bool) (a : Expr) → resolved s (e.Sign minus a) ≡ e.Sign minus (resolved s a)
  unfolding resolved
  resolved-Sign minus a = becomes-Sign (full_name_of s) (e.Sign minus a) minus a refl (rw (outs-Sign minus a))

  pub resolved-Binary : (o : BinaryOp) (a b : Expr) → resolved s (e.Binary o a b) ≡ e.Binary o (resolved s a) (resolved s b)
  unfolding resolved
  resolved-Binary o a b = becomes-Binary (full_name_of s) (e.Binary o a b) o a b refl (rw (outs-Binary o a b))

  pub resolved-Not : (a : Expr) → resolved s (e.Not a) ≡ e.Not (resolved s a)
  unfolding resolved
  resolved-Not a = becomes-Not (full_name_of s) (e.Not a) a refl (rw (outs-Not a))

  pub resolved-IsNull : (n : Bool) (a : Expr) → resolved s (e.IsNull n a) ≡ e.IsNull n (resolved s a)
  unfolding resolved
  resolved-IsNull n a = becomes-IsNull (full_name_of s) (e.IsNull n a) n a refl (rw (outs-IsNull n a))

  pub resolved-Between : (n : Bool) (a b c : Expr) → resolved s (e.Between n a b c) ≡ e.Between n (resolved s a) (resolved s b) (resolved s c)
  unfolding resolved
  resolved-Between n a b c = becomes-Between (full_name_of s) (e.Between n a b c) n a b c refl (rw (outs-Between n a b c))

  pub resolved-OneOf : (n : Bool) (a : Expr) (cs : List Expr) → resolved s (e.OneOf n a cs) ≡ e.OneOf n (resolved s a) (map (resolved s) cs)
  unfolding resolved
  resolved-OneOf n a cs = becomes-OneOf (full_name_of s) (e.OneOf n a cs) n a cs refl (rw (outs-OneOf n a cs))

  pub resolved-Like : (n : Bool) (a : Expr) (pattern : List ℕ) → resolved s (e.Like n a pattern) ≡ e.Like n (resolved s a) pattern
  unfolding resolved
  resolved-Like n a pattern = becomes-Like (full_name_of s) (e.Like n a pattern) n a pattern refl (rw (outs-Like n a pattern))

  pub resolved-Cast : (a : Expr) (to : SqlType) → resolved s (e.Cast a to) ≡ e.Cast (resolved s a) to
  unfolding resolved
  resolved-Cast a to = becomes-Cast (full_name_of s) (e.Cast a to) a to refl (rw (outs-Cast a to))

  pub resolved-Call : (name : List ℕ) (star : Bool) (args : List Expr) → resolved s (e.Call name star args) ≡ e.Call name star (map (resolved s) args)
  unfolding resolved
  resolved-Call name star args = becomes-Call (full_name_of s) (e.Call name star args) name star args refl (rw (outs-Call name star args))

  pub resolved-Case : (x : Option Expr) (ws : List WhenText) (z : Option Expr) → resolved s (e.Case x ws z) ≡ e.Case (option_map (resolved s) x) (map (resolved_when s) ws) (option_map (resolved s) z)
  unfolding resolved resolved_when
  resolved-Case x ws z = becomes-Case (full_name_of s) (e.Case x ws z) x ws z refl (rw (outs-Case x ws z))

  pub resolved-when : (w : WhenText) → resolved_when s w ≡ record { cond = resolved s w.cond; result = resolved s w.result }
  unfolding resolved resolved_when
  resolved-when w = refl

-- what is written where a column is known by the name, or none
abbrev pub written_by : Scope → Option (List ℕ) → List ℕ → Option ScopeColumn → Expr
written_by s q name None = written_for s q name []
written_by s q name (Some c) = e.Name c.alias name

found_at : (s : Scope) (q : Option (List ℕ)) (name : List ℕ) (b : Bool) (c : ScopeColumn) (cs : List ScopeColumn) (o : Option ScopeColumn)
    → written_for s q name cs ≡ written_by s q name o
    → written_for s q name (if b then c ∷ cs else cs) ≡ written_by s q name (if b then Some c else o)
found_at s q name true c cs o h = refl
found_at s q name false c cs o h = h

pub written-found : (s : Scope) (q : Option (List ℕ)) (name : List ℕ) (p : ScopeColumn → Bool) (cs : List ScopeColumn)
    → written_for s q name (filter p cs) ≡ written_by s q name (find p cs)
written-found s q name p [] = refl
written-found s q name p (c ∷ cs) = found_at s q name (p c) c (filter p cs) (find p cs) (written-found s q name p cs)
