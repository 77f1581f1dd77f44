-- The columns of a query's result, with their names (ksqlDB reference manual, "SELECT").
use Rattle.std.specs.Prelude.{◌≡◌, ℕ, ◌+◌, ◌≤◌, ⊤, All, ◌==◌, suc, Bool, true, false, not, ◌&&◌, if◌then◌else◌, List, [], ◌∷◌, ◌++◌, length, map, filter, Option, Some, None, codes, bytes_eq}
use Rattle.std.specs.Fmt.{decimal}
use Rattle.std.specs.List.{list_any, list_all, flat_map}
use Rattle.ksql_types.specs.declared.relation.Column.{Column}
use Rattle.expression_trees.specs.declared.tree.Expr.{Expr, fold-Expr}
use Rattle.expression_trees.specs.declared.tree.Expr.TheVariants as e
use Rattle.expression_trees.specs.declared.tree.Expr.TheOpen.{Expr-F}
use Rattle.statement_trees.specs.declared.tree.Select.{Select}
use Rattle.statement_trees.specs.declared.tree.SelectItem.{SelectItem}
use Rattle.statement_trees.specs.declared.tree.SelectItem.TheVariants.{Star, StarOf, One}
use Rattle.ksql_types.specs.Columns.{columns}
use Rattle.ksql_scopes.specs.Resolved.{resolved}
use Rattle.ksql_clauses.specs.declared.items.Named.{Named}
use Rattle.ksql_scopes.specs.declared.scope.Scope.{Scope}
use Rattle.ksql_clauses.specs.declared.sources.Known.{Known}
use Rattle.ksql_clauses.specs.Sources.{item_scope}

abbrev pub is_join : List Known → Bool
is_join (l ∷ r ∷ more) = true
is_join _ = false

-- the name of a column in a join
abbrev pub made_name : List ℕ → List ℕ → List ℕ
made_name alias name = alias ++ (codes "_" ++ name)

-- a column that a star gives; in a join its name includes its relation's alias
abbrev pub star_column : Bool → List ℕ → Column → Named
star_column join alias c = record { name = if join then made_name alias c.name else c.name; expr = e.Name (Some alias) c.name }

-- all columns of a relation, key first
abbrev pub star_of : List Known → Known → List Named
star_of ks k = map (star_column (is_join ks) k.alias) (columns k.relation)

-- all columns of the relations, and those of the relation with an alias
abbrev pub all_stars : List Known → List Named
all_stars ks = flat_map (star_of ks) ks

abbrev pub stars_of : List ℕ → List Known → List Named
stars_of alias ks = flat_map (star_of ks) (filter (λ k. bytes_eq k.alias alias) ks)

-- whether one of these columns has the name
abbrev pub is_among : List ℕ → List Column → Bool
is_among name cs = list_any (λ c. bytes_eq c.name name) cs

abbrev pub has_column : List ℕ → Known → Bool
has_column name k = is_among name (columns k.relation)

-- whether one of these relations has the alias
abbrev pub is_alias : List ℕ → List Known → Bool
is_alias alias ks = list_any (λ k. bytes_eq k.alias alias) ks

-- the name of a plain column: its own, or with its alias in front if both joined relations have that name
abbrev pub column_name : List Known → Option (List ℕ) → List ℕ → List ℕ
column_name ks None name = name
column_name ks (Some q) name = if is_join ks && is_alias q ks && list_all (has_column name) ks then made_name q name else name

-- the name of a form without an alias; None if it isn't a plain column
abbrev pub plain_step : {A B : Type 0} → List Known → Expr-F A B → Option (List ℕ)
plain_step ks (Expr-F.Name q name) = Some (column_name ks q name)
plain_step ks form = None

unfoldable pub plain_name : List Known → Expr → Option (List ℕ)
plain_name ks = fold-Expr (Option (List ℕ)) (Option (List ℕ)) (plain_step ks) (λ w. None)

-- a name after a qualifier, each of at most 128 bytes as in the grammar
abbrev pub IsShortName : Option (List ℕ) → List ℕ → Type 0
IsShortName None name = ⊤
IsShortName (Some q) name = (length q ≤ 128) × (length name ≤ 128)

-- an expression that isn't a name, or a name as in the grammar
abbrev pub IsShort : Expr → Type 0
IsShort a = (q : Option (List ℕ)) (name : List ℕ) → a ≡ e.Name q name → IsShortName q name

abbrev pub IsShortItem : SelectItem → Type 0
IsShortItem (One a alias) = IsShort a
IsShortItem _ = ⊤

-- a relation whose columns and alias have names of at most 128 bytes
abbrev pub HasShortNames : Known → Type 0
HasShortNames k =
    (length k.alias ≤ 128) × All (λ c. length c.name ≤ 128) k.relation.schema.keys × All (λ c. length c.name ≤ 128) k.relation.schema.values

-- the name of a column that has no other: KSQL_COL_ and its number among such columns
abbrev pub numbered_name : ℕ → List ℕ
numbered_name number = codes "KSQL_COL_" ++ decimal number

abbrev pub named : List ℕ → Expr → Named
named name a = record { name = name; expr = a }

-- the column of an item without an alias, and the columns after it: the first list if it isn't numbered, the second if
-- it is
abbrev pub without_alias : ℕ → Option (List ℕ) → Expr → List Named → List Named → List Named
without_alias number (Some name) a others numbered = record { name = name; expr = a } ∷ others
without_alias number None a others numbered = record { name = numbered_name number; expr = a } ∷ numbered

-- the result columns of items in a scope, where this many before them were numbered
unfoldable pub named_from : Scope → List Known → ℕ → List SelectItem → List Named
named_from s ks number [] = []
named_from s ks number (Star ∷ is) = all_stars ks ++ named_from s ks number is
named_from s ks number (StarOf alias ∷ is) = stars_of alias ks ++ named_from s ks number is
named_from s ks number (One a (Some alias) ∷ is) = record { name = alias; expr = resolved s a } ∷ named_from s ks number is
named_from s ks number (One a None ∷ is) =
    without_alias number (plain_name ks a) (resolved s a) (named_from s ks number is) (named_from s ks (suc number) is)

-- the columns of a query's result, in the order of its items
abbrev pub result_columns : Select → List Known → List Named
result_columns q ks = named_from (item_scope q ks) ks 0 q.items
