-- What a name stands for in a query (ksqlDB reference manual, "SELECT" and "Pseudocolumns").
use Rattle.std.specs.Prelude.{ℕ, ◌+◌, suc, Bool, true, false, ◌&&◌, if◌then◌else◌, List, [], ◌∷◌, ◌++◌, length, map, Option, Some, None, codes, bytes_eq}
use Rattle.ksql_types.specs.declared.value.SqlType.{SqlType}
use Rattle.ksql_types.specs.declared.value.SqlType.TheVariants as sql
use Rattle.ksql_expr.specs.declared.typed.TypedNode.{TypedNode}
use Rattle.ksql_expr.specs.declared.typed.TypedNode.TheVariants as n
use Rattle.ksql_scopes.specs.declared.scope.Scope.{Scope}
use Rattle.ksql_scopes.specs.declared.scope.ScopeColumn.{ScopeColumn}

-- whether a qualifier, if written, names the relation with this alias
abbrev pub is_qualified : Option (List ℕ) → Option (List ℕ) → Bool
is_qualified None alias = true
is_qualified (Some q) None = false
is_qualified (Some q) (Some alias) = bytes_eq alias q

-- whether a name after a qualifier stands for a column
abbrev pub is_known_as : Option (List ℕ) → List ℕ → ScopeColumn → Bool
is_known_as q name c = is_qualified q c.alias && bytes_eq c.column.name name

-- what a name can stand for: a form, and its type
abbrev pub Meaning : Type 0
Meaning = TypedNode × SqlType

-- the columns that a name stands for, where the first of these columns has this index
abbrev pub columns_known_as : Option (List ℕ) → List ℕ → ℕ → List ScopeColumn → List Meaning
columns_known_as q name i [] = []
columns_known_as q name i (c ∷ cs) =
    if is_known_as q name c then (n.Column i, c.column.ty) ∷ columns_known_as q name (suc i) cs else columns_known_as q name (suc i) cs

-- the alias of the first column's relation
abbrev pub first_alias : List ScopeColumn → Option (List ℕ)
first_alias [] = None
first_alias (c ∷ cs) = c.alias

-- ROWTIME
abbrev pub row_time : Scope → Option (List ℕ) → List ℕ → List Meaning
row_time s q name =
    if s.stream && bytes_eq name (codes "ROWTIME") && is_qualified q (first_alias s.columns) then (n.RowTime, sql.Big) ∷ [] else []

-- WINDOWSTART and WINDOWEND, after the columns
abbrev pub window_bounds : Scope → Option (List ℕ) → List ℕ → List Meaning
window_bounds s (Some q) name = []
window_bounds s None name =
    if s.windowed && bytes_eq name (codes "WINDOWSTART") then (n.Column (length s.columns), sql.Big) ∷ []
    else if s.windowed && bytes_eq name (codes "WINDOWEND") then (n.Column (length s.columns + 1), sql.Big) ∷ []
    else []

-- what a name can stand for in a scope
unfoldable pub meanings : Scope → Option (List ℕ) → List ℕ → List Meaning
meanings s q name = columns_known_as q name 0 s.columns ++ row_time s q name ++ window_bounds s q name

-- a scope in which the bounds of windows can be named, or can't
abbrev pub seen : Bool → Scope → Scope
seen windowed s = record s { windowed = windowed }

-- the scope of an aggregate's argument, where there is no window yet
abbrev pub inside : Scope → Scope
inside s = seen false s

-- the types of a row's columns in a scope
abbrev pub column_types : Scope → List (Option SqlType)
column_types s = map (λ c. Some c.column.ty) s.columns ++ (if s.windowed then Some sql.Big ∷ Some sql.Big ∷ [] else [])
