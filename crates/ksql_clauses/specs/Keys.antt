-- The key of a query's result (the keys of results are this dialect's own rule).
use Rattle.std.specs.Prelude.{ℕ, ◌==◌, Bool, false, not, ◌&&◌, nat_lt, if◌then◌else◌, List, [], ◌∷◌, length, map, filter, Option, Some, None, option_map, option_and_then, codes, bytes_eq, slice_get}
use Rattle.std.specs.List.{list_any, list_all, find, position, filter_map, enumerate_from}
use Rattle.ksql_types.specs.declared.operator.BinaryOp.TheVariants as op
use Rattle.expression_trees.specs.declared.tree.Expr.{Expr, out-Expr}
use Rattle.expression_trees.specs.declared.tree.Expr.TheVariants as e
use Rattle.expression_trees.specs.declared.tree.Expr.TheOpen.{Expr-F}
use Rattle.statement_trees.specs.declared.tree.JoinWord.{JoinWord}
use Rattle.statement_trees.specs.declared.tree.JoinWord.TheVariants.{Inner, Left, Full}
use Rattle.statement_trees.specs.declared.tree.Select.{Select}
use Rattle.expression_trees.specs.declared.tree.WhenText.{WhenText}
use Rattle.ksql_scopes.specs.declared.scope.Scope.{Scope}
use Rattle.ksql_scopes.specs.declared.scope.ScopeColumn.{ScopeColumn}
use Rattle.ksql_clauses.specs.declared.items.Named.{Named}
use Rattle.ksql_clauses.specs.declared.sources.Known.{Known}
use Rattle.ksql_clauses.specs.Items.{result_columns}
use Rattle.ksql_scopes.specs.Resolved.{resolved}
use Rattle.expression_trees.specs.Same.{same_expr}
use Rattle.ksql_scopes.specs.Scope.{is_known_as, row_time}
use Rattle.ksql_clauses.specs.Sources.{is_stream, join_word, from_scope, on_scope}
use Rattle.ksql_scopes.specs.Uses.{Use, names}

-- ---- ON

-- the two sides of `a = b`
abbrev pub equated_sides : Expr-F Expr WhenText → Option (Expr × Expr)
equated_sides (Expr-F.Binary op.Eq a b) = Some (a, b)
equated_sides form = None

abbrev pub on_sides : Expr → Option (Expr × Expr)
on_sides on = equated_sides (out-Expr on)

-- a key column, as an expression
abbrev pub key_exprs : Known → List Expr
key_exprs k = map (λ c. e.Name (Some k.alias) c.name) k.relation.schema.keys

-- whether an expression is a relation's only key column
abbrev pub is_only_key : Scope → Known → Expr → Bool
is_only_key s k a = of (key_exprs k)
  where
    of : List Expr → Bool
    of (key ∷ []) = same_expr (resolved s a) key
    of _ = false

-- whether a column with this alias is the relation's
abbrev pub is_alias_of : Known → Option (List ℕ) → Bool
is_alias_of k None = false
is_alias_of k (Some alias) = bytes_eq alias k.alias

-- whether a name is a column of the left relation, or its time
abbrev pub is_left_name : Scope → Known → Use → Bool
is_left_name s k u = of (filter (is_known_as u.qualifier u.name) s.columns)
  where
    of : List ScopeColumn → Bool
    of [] = length (row_time s u.qualifier u.name) == 1
    of (c ∷ cs) = is_alias_of k c.alias

-- whether an expression has a column, and only columns of the left relation
abbrev pub is_of_left : Scope → Known → Expr → Bool
is_of_left s k a = nat_lt 0 (length (names a)) && list_all (is_left_name s k) (names a)

-- whether an expression can be the key of the left side: for a stream an expression of its columns, for a table its
-- only key column
abbrev pub is_left_side : Scope → Known → Expr → Bool
is_left_side s l a = if is_stream l.relation then is_of_left s l a else is_only_key s l a

-- whether the two sides are the left side's key and the right relation's only key column
abbrev pub are_sides : Scope → Known → Known → Expr → Expr → Bool
are_sides s l r a b = is_left_side s l a && is_only_key s r b

-- the two sides of ON, the left relation's first, if they have this form in either order
abbrev pub key_sides : Scope → Known → Known → Option (Expr × Expr) → Option (Expr × Expr)
key_sides s l r None = None
key_sides s l r (Some sides) =
    if are_sides s l r sides.0 sides.1 then Some (sides.0, sides.1)
    else if are_sides s l r sides.1 sides.0 then Some (sides.1, sides.0)
    else None

-- the key of a join: both sides of ON, the left relation's first, if ON is `a = b` of the required form
abbrev pub join_key : Select → List Known → Option (Expr × Expr)
join_key q (l ∷ r ∷ more) = of (option_map (λ j. j.on) q.join)
  where
    of : Option Expr → Option (Expr × Expr)
    of None = None
    of (Some on) = key_sides (on_scope q (l ∷ r ∷ more)) l r (on_sides on)
join_key q _ = None

-- ---- the key that a result needs: for each of its columns the expressions that can fill it, one of which must be an
-- item

-- two lists side by side: each member of the left with its counterpart, if any
abbrev pub beside : List Expr → List Expr → List (List Expr)
beside (a ∷ ls) [] = (a ∷ []) ∷ beside ls []
beside (a ∷ ls) (b ∷ rs) = (a ∷ b ∷ []) ∷ beside ls rs
beside _ _ = []

abbrev pub alone : List Expr → List (List Expr)
alone es = map (λ a. a ∷ []) es

-- of two tables
abbrev pub tables_need : JoinWord → Known → Known → List (List Expr)
tables_need Inner l r = beside (key_exprs l) (key_exprs r)
tables_need Left l r = alone (key_exprs l)
tables_need Full l r = (e.Name None (codes "ROWKEY") ∷ []) ∷ []

-- of a stream and a table, given the stream's side of ON; none if ON doesn't have the required form
abbrev pub stream_needs : JoinWord → Known → Option Expr → List (List Expr)
stream_needs word r None = []
stream_needs Inner r (Some a) = (a ∷ key_exprs r) ∷ []
stream_needs word r (Some a) = (a ∷ []) ∷ []

-- the left side of a join's key, with resolved names
abbrev pub left_side : Select → List Known → Option Expr
left_side q ks = option_map (λ sides. resolved (on_scope q ks) sides.0) (join_key q ks)

-- of what a query reads: one source, a stream and a table, or two tables
abbrev pub sources_need : Select → List Known → List (List Expr)
sources_need q [] = []
sources_need q (k ∷ []) = alone (key_exprs k)
sources_need q (l ∷ r ∷ more) = of (join_word q)
  where
    of : Option JoinWord → List (List Expr)
    of None = []
    of (Some word) = if is_stream l.relation then stream_needs word r (left_side q (l ∷ r ∷ more)) else tables_need word l r

-- of a query: its group expressions, else the expression of PARTITION BY, else what its sources need
abbrev pub needs : Select → List Known → List (List Expr)
needs q ks = of q.group q.partition
  where
    of : List Expr → Option Expr → List (List Expr)
    of (g ∷ gs) p = alone (map (resolved (from_scope q ks)) (g ∷ gs))
    of [] (Some p) = alone (resolved (from_scope q ks) p ∷ [])
    of [] None = sources_need q ks

-- whether a column is one of these expressions
abbrev pub is_one_of : List Expr → Named → Bool
is_one_of es c = list_any (same_expr c.expr) es

-- the index of the first column that is one of these expressions
abbrev pub first_of : List Expr → List Named → Option ℕ
first_of es cs = position (is_one_of es) cs

-- for each key column, its index among the result's columns, or None if it is missing
abbrev pub key_places : Select → List Known → List (Option ℕ)
key_places q ks = map (λ es. first_of es (result_columns q ks)) (needs q ks)

-- ---- the columns of a result

-- for each list of expressions, the first column that is one of them, if any
abbrev pub first_columns : List Named → List (List Expr) → List Named
first_columns cs needs = filter_map (λ es. find (is_one_of es) cs) needs

-- the columns at some places
abbrev pub at_places : List Named → List (Option ℕ) → List Named
at_places cs places = filter_map (option_and_then (slice_get cs)) places

abbrev pub is_place : ℕ → Option ℕ → Bool
is_place number None = false
is_place number (Some place) = number == place

-- the columns at none of these places, in order
abbrev pub besides : List (Option ℕ) → List Named → List Named
besides places cs = map (λ c. c.1) (filter (λ c. not (list_any (is_place c.0) places)) (enumerate_from 0 cs))

-- the key columns of the result, and its other columns
abbrev pub key_columns : Select → List Known → List Named
key_columns q ks = first_columns (result_columns q ks) (needs q ks)

abbrev pub value_columns : Select → List Known → List Named
value_columns q ks = besides (key_places q ks) (result_columns q ks)
