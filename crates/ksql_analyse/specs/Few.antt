-- The number of function calls in the expressions of a statement.
use Rattle.std.specs.Prelude.{◌≤◌, length}
use Rattle.std.specs.List.{AllByRecursion}
use Rattle.expression_trees.specs.declared.tree.Expr.{Expr}
use Rattle.statement_trees.specs.declared.tree.StatementBody.{StatementBody}
use Rattle.statement_trees.specs.declared.tree.StatementBody.TheVariants.{Declared, Query}
use Rattle.ksql_scopes.specs.Uses.{calls}
use Rattle.ksql_clauses.specs.Sources.{late_exprs}

-- an expression calls at most 2,000 functions
abbrev pub CallsFew : Expr → Type 0
CallsFew a = length (calls a) ≤ 2000

-- so does each of the items of a query, and its HAVING
abbrev pub HasFewCalls : StatementBody → Type 0
HasFewCalls (Declared cs ps) = Unit {0}
HasFewCalls (Query ps q) = AllByRecursion CallsFew (late_exprs q)
