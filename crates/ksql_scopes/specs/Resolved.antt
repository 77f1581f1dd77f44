-- Expressions with resolved names: two are equal if their trees with resolved names are.
use Rattle.std.specs.Prelude.{ℕ, ◌==◌, Bool, true, false, ◌&&◌, if◌then◌else◌, List, [], ◌∷◌, length, filter, Option, Some, None, codes, bytes_eq}
use Rattle.expression_trees.specs.declared.tree.Expr.{Expr, out-Expr}
use Rattle.expression_trees.specs.declared.tree.Expr.TheVariants as e
use Rattle.expression_trees.specs.declared.tree.Expr.TheOpen.{Expr-F}
use Rattle.expression_trees.specs.declared.tree.WhenText.{WhenText}
use Rattle.ksql_scopes.specs.declared.scope.Scope.{Scope}
use Rattle.ksql_scopes.specs.declared.scope.ScopeColumn.{ScopeColumn}
use Rattle.ksql_scopes.specs.Scope.{is_known_as, row_time}
use Rattle.expression_trees.specs.Parts.{becomes, when_becomes}

-- whether a name stands for ROWTIME
abbrev pub is_row_time : Scope → Option (List ℕ) → List ℕ → Bool
is_row_time s q name = length (row_time s q name) == 1

-- a name as it is written, given the columns that it stands for
abbrev pub written_for : Scope → Option (List ℕ) → List ℕ → List ScopeColumn → Expr
written_for s q name [] = if is_row_time s q name then e.Name None name else e.Name q name
written_for s q name (c ∷ cs) = e.Name c.alias name

-- a name as it is written wherever it is used: a column after the name of its relation, ROWTIME alone
abbrev pub full_name : Scope → Option (List ℕ) → List ℕ → Expr
full_name s q name = written_for s q name (filter (is_known_as q name) s.columns)

-- the replacement of a name: what it stands for, in full
abbrev pub full_name_of : Scope → Expr → Option Expr
full_name_of s a = of (out-Expr a)
  where
    of : Expr-F Expr WhenText → Option Expr
    of (Expr-F.Name q name) = Some (full_name s q name)
    of form = None

-- an expression with resolved names
unfoldable pub resolved : Scope → Expr → Expr
resolved s = becomes (full_name_of s)

-- a WHEN with resolved names
unfoldable pub resolved_when : Scope → WhenText → WhenText
resolved_when s = when_becomes (full_name_of s)
