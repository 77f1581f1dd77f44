-- Searching for names in an expression.
use Rattle.std.specs.Prelude.{ℕ, Bool, true, false, not, List, Option, Some, None}
use Rattle.std.specs.List.{list_any}
use Rattle.expression_trees.specs.declared.tree.Expr.{Expr, out-Expr}
use Rattle.expression_trees.specs.declared.tree.Expr.TheOpen.{Expr-F}
use Rattle.expression_trees.specs.declared.tree.WhenText.{WhenText}
use Rattle.ksql_scopes.specs.Uses.{Use, names}
use Rattle.ksql_clauses.specs.declared.left_names.Sought.{Sought}
use Rattle.ksql_clauses.specs.declared.left_names.Sought.TheVariants.{Any, Other}
use Rattle.ksql_clauses.specs.Keys.{is_left_name}

-- a name outside aggregates
abbrev pub use_of : Option (List ℕ) → List ℕ → Use
use_of q name = record { within = false; qualifier = q; name = name }

-- whether a name is looked for
abbrev pub is_sought : Sought → Use → Bool
is_sought Any u = true
is_sought (Other scope left) u = not (is_left_name scope.now left.now u)

-- whether an expression has such a name
abbrev pub has_name : Sought → Expr → Bool
has_name sought a = list_any (is_sought sought) (names a)

-- the decision for an expression in a search for such a name
abbrev pub sought_name : Sought → Expr → Option Bool
sought_name sought a = of (out-Expr a)
  where
    of : Expr-F Expr WhenText → Option Bool
    of (Expr-F.Name q name) = Some (is_sought sought (use_of q name))
    of form = None
