-- What a query reads, and what its names can stand for (ksqlDB reference manual, "SELECT" and "Join").
use Rattle.std.specs.Prelude.{◌≡◌, ℕ, ◌==◌, Bool, true, false, not, ◌&&◌, ◌||◌, nat_lt, if◌then◌else◌, List, [], ◌∷◌, ◌++◌, length, map, take, Option, Some, None, is_some, unwrap_or, option_map, codes, bytes_eq}
use Rattle.std.specs.List.{list_any, flat_map}
use Rattle.ksql_types.specs.Catalog.{find_named}
use Rattle.ksql_types.specs.declared.relation.Column.{Column}
use Rattle.ksql_types.specs.declared.relation.Kind.{Kind}
use Rattle.ksql_types.specs.declared.relation.Kind.TheVariants as kind
use Rattle.ksql_types.specs.declared.relation.Relation.{Relation}
use Rattle.expression_trees.specs.declared.tree.Expr.{Expr}
use Rattle.statement_trees.specs.declared.tree.JoinText.{JoinText}
use Rattle.statement_trees.specs.declared.tree.JoinWord.{JoinWord}
use Rattle.statement_trees.specs.declared.tree.JoinWord.TheVariants.{Inner, Left, Full}
use Rattle.statement_trees.specs.declared.tree.Select.{Select}
use Rattle.statement_trees.specs.declared.tree.SelectItem.{SelectItem}
use Rattle.statement_trees.specs.declared.tree.SelectItem.TheVariants.{Star, StarOf, One}
use Rattle.statement_trees.specs.declared.tree.Source.{Source}
use Rattle.ksql_types.specs.Columns.{columns}
use Rattle.ksql_scopes.specs.declared.scope.Scope.{Scope}
use Rattle.ksql_scopes.specs.declared.scope.ScopeColumn.{ScopeColumn}
use Rattle.ksql_clauses.specs.declared.sources.Known.{Known}

-- a source's alias, or else its name
abbrev pub alias_of : Source → List ℕ
alias_of s = unwrap_or s.alias s.name

-- the sources of a query
abbrev pub sources : Select → List Source
sources q = q.source ∷ joined q.join
  where
    joined : Option JoinText → List Source
    joined None = []
    joined (Some j) = j.source ∷ []

-- a source, if it is in the catalog
abbrev pub known : List Relation → Source → List Known
known catalog s = of (find_named s.name catalog)
  where
    of : Option Relation → List Known
    of None = []
    of (Some r) = record { alias = alias_of s; relation = r } ∷ []

abbrev pub all_known : List Relation → Select → List Known
all_known catalog q = flat_map (known catalog) (sources q)

-- whether a source is unknown
abbrev pub has_unknown_source : List Relation → Select → Bool
has_unknown_source catalog q = list_any (λ s. length (known catalog s) == 0) (sources q)

-- whether two sources have the same alias
abbrev pub have_one_alias : Select → Bool
have_one_alias q = alike (map alias_of (sources q))
  where
    alike : List (List ℕ) → Bool
    alike (a ∷ b ∷ more) = bytes_eq a b
    alike _ = false

-- ---- kinds

abbrev pub is_stream : Relation → Bool
is_stream r = of r.kind
  where
    of : Kind → Bool
    of kind.Stream = true
    of _ = false

abbrev pub is_windowed : Relation → Bool
is_windowed r = of r.kind
  where
    of : Kind → Bool
    of kind.Windowed = true
    of _ = false

-- whether a query reads a stream: its left source is one
abbrev pub reads_stream : List Known → Bool
reads_stream [] = false
reads_stream (k ∷ ks) = is_stream k.relation

-- the kinds that are joined: whether a stream is on the left, and on the right; None if there is no join
abbrev pub joined_streams : List Known → Option (Bool × Bool)
joined_streams (l ∷ r ∷ more) = Some (is_stream l.relation, is_stream r.relation)
joined_streams _ = None

-- how a query's sources are joined
abbrev pub join_word : Select → Option JoinWord
join_word q = option_map (λ j. j.kind) q.join

abbrev pub is_full_word : JoinWord → Bool
is_full_word Full = true
is_full_word _ = false

abbrev pub is_full : Select → Bool
is_full q = of (join_word q)
  where
    of : Option JoinWord → Bool
    of None = false
    of (Some word) = is_full_word word

-- ---- scopes

-- a column of the relation with this alias, as a column of a row
abbrev pub scope_column : List ℕ → Column → ScopeColumn
scope_column alias c = record { alias = Some alias; column = c }

-- the columns of a relation, as columns of a row
abbrev pub scope_columns : Known → List ScopeColumn
scope_columns k = map (scope_column k.alias) (columns k.relation)

-- ROWKEY has the type of this key column
abbrev pub rowkey_of : Column → ScopeColumn
rowkey_of c = record { alias = None; column = record { name = codes "ROWKEY"; ty = c.ty } }

-- the key columns of everything that is read
abbrev pub key_columns_of : List Known → List Column
key_columns_of ks = flat_map (λ k. k.relation.schema.keys) ks

-- ROWKEY, in a FULL join: it has the type of the first key column, which is the left source's if that has one
abbrev pub rowkey : Select → List Known → List ScopeColumn
rowkey q ks = if is_full q then map rowkey_of (take 1 (key_columns_of ks)) else []

-- the columns of everything that is read, and ROWKEY
abbrev pub from_columns : Select → List Known → List ScopeColumn
from_columns q ks = flat_map scope_columns ks ++ rowkey q ks

-- what names can stand for in WHERE, GROUP BY and PARTITION BY
abbrev pub from_scope : Select → List Known → Scope
from_scope q ks = record { columns = from_columns q ks; stream = reads_stream ks; windowed = false }

-- and in the items and in HAVING
abbrev pub item_scope : Select → List Known → Scope
item_scope q ks = record (from_scope q ks) { windowed = is_some q.window }

-- what names can stand for in ON: currently the same as in WHERE, GROUP BY and PARTITION BY
abbrev pub on_scope : Select → List Known → Scope
on_scope q ks = from_scope q ks

-- ---- the expressions of a query

abbrev pub there : Option Expr → List Expr
there None = []
there (Some e) = e ∷ []

abbrev pub item_exprs : SelectItem → List Expr
item_exprs Star = []
item_exprs (StarOf q) = []
item_exprs (One e alias) = e ∷ []

abbrev pub on_exprs : Select → List Expr
on_exprs q = there (option_map (λ j. j.on) q.join)

-- those of the items and HAVING
abbrev pub late_exprs : Select → List Expr
late_exprs q = flat_map item_exprs q.items ++ there q.having

-- those of WHERE, GROUP BY and PARTITION BY
abbrev pub front_exprs : Select → List Expr
front_exprs q = there q.filter ++ q.group ++ there q.partition

-- and these with that of ON
abbrev pub early_exprs : Select → List Expr
early_exprs q = on_exprs q ++ there q.filter ++ q.group ++ there q.partition
