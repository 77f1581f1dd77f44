-- What the sets of types decide about a query's expressions.
use Rattle.std.specs.Prelude.{Bool, true, Option, Some, None}
use Rattle.std.specs.List.{list_all}
use Rattle.expression_trees.specs.declared.tree.Expr.{Expr}
use Rattle.statement_trees.specs.declared.tree.Select.{Select}
use Rattle.ksql_type_sets.specs.declared.possible.Types.{Types}
use Rattle.ksql_scopes.specs.declared.scope.Scope.{Scope}
use Rattle.ksql_type_sets.specs.Decisions as decided
use Rattle.ksql_typing.specs.Judged.{judged}
use Rattle.ksql_clauses.specs.declared.items.Named.{Named}
use Rattle.ksql_clauses.specs.Sources.{on_exprs}
use Rattle.ksql_clauses.specs.Keys.{on_sides}

-- the set of an expression's types
abbrev pub types_of : Scope → Expr → Types
types_of s a = (judged a s).types

-- a part, if present, has a type that fits BOOLEAN
abbrev pub fits_truth : Scope → Option Expr → Bool
fits_truth s None = true
fits_truth s (Some a) = decided.can_be_true (types_of s a)

-- a column has a type other than that of plain NULL
abbrev pub is_valued : Scope → Named → Bool
is_valued s c = decided.has_value (types_of s c.expr)

-- two sides, if present, have types that agree
abbrev pub do_sides_agree : Scope → Option (Expr × Expr) → Bool
do_sides_agree s None = true
do_sides_agree s (Some sides) = decided.can_agree (types_of s sides.0) (types_of s sides.1)

abbrev pub does_on_agree : Scope → Select → Bool
does_on_agree s q = list_all (λ on. do_sides_agree s (on_sides on)) (on_exprs q)
