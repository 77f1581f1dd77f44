-- Aggregates and groups (ksqlDB reference manual, "Aggregate functions" and "GROUP BY").
use Rattle.std.specs.Prelude.{ℕ, ◌+◌, suc, Bool, true, false, not, ◌&&◌, ◌||◌, if◌then◌else◌, List, [], ◌∷◌, ◌++◌, length, Option, Some, None, is_some, codes, bytes_eq}
use Rattle.std.specs.List.{list_any}
use Rattle.expression_trees.specs.declared.tree.Expr.{Expr, para-Expr, out-Expr}
use Rattle.expression_trees.specs.declared.tree.Expr.TheOpen.{Expr-F}
use Rattle.expression_trees.specs.declared.tree.WhenText.{WhenText}
use Rattle.ksql_types.specs.Names.{is_among}
use Rattle.aggregate_rules.specs.declared.aggregates.Called.{Called}
use Rattle.aggregate_rules.specs.declared.aggregates.Called.TheVariants.{Aggregate, Ordered, Unknown}
use Rattle.ksql_scopes.specs.Functions.{is_aggregate, is_unknown}
use Rattle.expression_trees.specs.Same.{same_expr}
use Rattle.ksql_scopes.specs.Uses.{gathered, calls}
use Rattle.expression_trees.specs.Parts.{decided_or, passes}

-- the aggregates that can't be used on a table
abbrev pub ordered_aggregates : List (List ℕ)
ordered_aggregates = codes "MIN" ∷ codes "MAX" ∷ codes "LATEST_BY_OFFSET" ∷ codes "EARLIEST_BY_OFFSET" ∷ []

-- whether a function is looked for
abbrev pub is_wanted : Called → List ℕ → Bool
is_wanted Aggregate name = is_aggregate name
is_wanted Ordered name = is_among ordered_aggregates name
is_wanted Unknown name = is_unknown name

-- the decision for an expression in a search for such a function
abbrev pub is_called : Called → Expr → Option Bool
is_called wanted a = of (out-Expr a)
  where
    of : Expr-F Expr WhenText → Option Bool
    of (Expr-F.Call f star args) = if is_wanted wanted f then Some true else None
    of form = None

-- whether an expression contains an aggregate
abbrev pub has_aggregate : Expr → Bool
has_aggregate a = list_any is_aggregate (calls a)

-- whether it contains one that can't be used on a table
abbrev pub has_ordered_aggregate : Expr → Bool
has_ordered_aggregate a = list_any (is_among ordered_aggregates) (calls a)

-- what an expression gives: by its decision, or else what its parts give, from left to right
unfoldable pub gives : (Expr → Option (List Expr)) → Expr → List Expr
gives decide = para-Expr (List Expr) (List Expr) (decided_or (List Expr) (List Expr) decide gathered) (λ w. w.cond.1 ++ w.result.1)

-- ---- aggregates

-- whether an expression is an aggregate as a whole
abbrev pub is_aggregate_call : Expr → Bool
is_aggregate_call a = of (out-Expr a)
  where
    of : Expr-F Expr WhenText → Bool
    of (Expr-F.Call f star args) = is_aggregate f
    of form = false

-- an aggregate gives itself and nothing inside it
abbrev pub whole_aggregate : Expr → Option (List Expr)
whole_aggregate a = if is_aggregate_call a then Some (a ∷ []) else None

-- the aggregates in an expression, from left to right, without those inside other aggregates
abbrev pub aggregates_of : Expr → List Expr
aggregates_of a = gives whole_aggregate a

-- an aggregate passes if its arguments contain another
abbrev pub holds_inner : Expr → Option Bool
holds_inner a = of (out-Expr a)
  where
    of : Expr-F Expr WhenText → Option Bool
    of (Expr-F.Call f star args) = if is_aggregate f && list_any has_aggregate args then Some true else None
    of form = None

-- whether one of an expression's aggregates contains another
abbrev pub has_nested_aggregate : Expr → Bool
has_nested_aggregate a = passes holds_inner a

-- an expression appended to others, unless it is one of them
abbrev pub add_once : List Expr → Expr → List Expr
add_once found a = if list_any (same_expr a) found then found else found ++ a ∷ []

-- expressions without duplicates, in the order of their first occurrence
abbrev pub once_from : List Expr → List Expr → List Expr
once_from found [] = found
once_from found (a ∷ others) = once_from (add_once found a) others

-- ---- groups

-- the index of the first of some expressions that is the same, counted from a number on
abbrev pub place_from : ℕ → List Expr → Expr → Option ℕ
place_from number [] a = None
place_from number (g ∷ gs) a = if same_expr g a then Some number else place_from (suc number) gs a

-- the index of the first of some expressions that is the same
abbrev pub place_among : List Expr → Expr → Option ℕ
place_among es a = place_from 0 es a

-- whether a name is a bound of a window
abbrev pub is_window_bound : Option (List ℕ) → List ℕ → Bool
is_window_bound None name = bytes_eq name (codes "WINDOWSTART") || bytes_eq name (codes "WINDOWEND")
is_window_bound (Some q) name = false

-- whether an expression is a column that is neither in an aggregate nor in a group expression
abbrev pub is_bare : List Expr → Expr → Option Bool
is_bare groups a = if is_some (place_among groups a) then Some false else of (out-Expr a)
  where
    of : Expr-F Expr WhenText → Option Bool
    of (Expr-F.Name q name) = Some (not (is_window_bound q name))
    of (Expr-F.Call f star args) = if is_aggregate f then Some false else None
    of form = None

-- whether an expression, with resolved names, contains such a column
abbrev pub has_bare_column : List Expr → Expr → Bool
has_bare_column groups a = passes (is_bare groups) a
