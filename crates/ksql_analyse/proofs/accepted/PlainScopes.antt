-- No column that a query can name has the name of a time.
use Rattle.std.proofs.Common.{◌≡◌, ℕ, Bool, true, false, not, if◌then◌else◌, List, [], ◌∷◌, ◌++◌, map, take, Option, Some, None, refl, IsTrue}
use Rattle.std.specs.Prelude.{codes, bytes_eq}
use Rattle.std.specs.List.{All, flat_map, AllByRecursion as Each}
use Rattle.std.proofs.lemmas.List.Elements.{recursion_from_All}
use Rattle.ksql_types.specs.Catalog.{find_named, has_name}
use Rattle.ksql_types.specs.declared.relation.Column.{Column}
use Rattle.ksql_types.specs.declared.relation.Relation.{Relation}
use Rattle.statement_trees.specs.declared.tree.Select.{Select}
use Rattle.statement_trees.specs.declared.tree.Source.{Source}
use Rattle.ksql_types.specs.Names.{is_among, reserved_columns}
use Rattle.ksql_types.specs.Columns.{columns}
use Rattle.ksql_scopes.specs.declared.scope.ScopeColumn.{ScopeColumn}
use Rattle.ksql_clauses.specs.declared.sources.Known.{Known}
use Rattle.ksql_clauses.specs.Sources.{known, all_known, sources, scope_column, scope_columns, rowkey, rowkey_of, from_columns, from_scope, item_scope, is_full, alias_of, key_columns_of}
use Rattle.ksql_rules.proofs.Within.{All-find}
use Rattle.ksql_analyse.specs.Plain.{HasPlainNames}
use Rattle.ksql_analyse.proofs.lists.Distinct.{or-false, false-or, true-not}
use Rattle.ksql_analyse.proofs.accepted.PlainColumns.{time_names, HasPlainColumns}
use Rattle.ksql_analyse.proofs.sound.SoundTrees.{each-front, each-behind}
use Rattle.ksql_analyse.proofs.sound.SoundColumns.{each-append, each-at, each-map, each-weaker}

-- a name that isn't reserved is that of no time
no-time : (name : List ℕ) → is_among reserved_columns name ≡ false → is_among time_names name ≡ false
no-time name h =
    let a = or-false (bytes_eq name (codes "ROWTIME")) (is_among (codes "ROWKEY" ∷ codes "WINDOWSTART" ∷ codes "WINDOWEND" ∷ []) name) h in
    let b = or-false (bytes_eq name (codes "ROWKEY")) (is_among (codes "WINDOWSTART" ∷ codes "WINDOWEND" ∷ []) name) a.1 in
    false-or (bytes_eq name (codes "ROWTIME")) (is_among (codes "WINDOWSTART" ∷ codes "WINDOWEND" ∷ []) name) a.0 b.1

abbrev IsPlain : ScopeColumn → Type 0
IsPlain c = is_among time_names c.column.name ≡ false

abbrev AreFree : Column → Type 0
AreFree c = IsTrue (not (is_among reserved_columns c.name))

relation-plain : (alias : List ℕ) (r : Relation) → HasPlainNames r → Each IsPlain (map (scope_column alias) (columns r))
relation-plain alias r h =
    each-map IsPlain (scope_column alias) (columns r)
    (each-weaker AreFree (λ c. IsPlain (scope_column alias c)) (λ c k. no-time c.name (true-not (is_among reserved_columns c.name) k)) (columns r)
    (recursion_from_All AreFree (columns r) h))

known-plain : (catalog : List Relation) (s : Source) → All HasPlainNames catalog → Each IsPlain (flat_map scope_columns (known catalog s))
known-plain catalog s h = at (find_named s.name catalog) refl
  where
    at : (o : Option Relation) → find_named s.name catalog ≡ o → Each IsPlain (flat_map scope_columns (known catalog s))
    at None e = rw e tt
    at (Some r) e = rw e (each-append IsPlain (map (scope_column (alias_of s)) (columns r)) []
        (relation-plain (alias_of s) r (All-find HasPlainNames (has_name s.name) catalog r h e)) tt)

flat-append : {A B : Type 0} (f : A → List B) (P : B → Type 0) (xs ys : List A) → Each P (flat_map f xs) → Each P (flat_map f ys) → Each P (flat_map f (xs ++ ys))
flat-append f P [] ys h k = k
flat-append f P (x ∷ xs) ys h k =
    each-append P (f x) (flat_map f (xs ++ ys)) (each-front P (f x) (flat_map f xs) h) (flat-append f P xs ys (each-behind P (f x) (flat_map f xs) h) k)

sources-plain : (catalog : List Relation) (ss : List Source) → All HasPlainNames catalog → Each IsPlain (flat_map scope_columns (flat_map (known catalog) ss))
sources-plain catalog [] h = tt
sources-plain catalog (s ∷ ss) h =
    flat-append scope_columns IsPlain (known catalog s) (flat_map (known catalog) ss) (known-plain catalog s h) (sources-plain catalog ss h)

rowkey-plain : (q : Select) (ks : List Known) → Each IsPlain (rowkey q ks)
rowkey-plain q ks = at (is_full q) (take 1 (key_columns_of ks))
  where
    all : (cs : List Column) → Each IsPlain (map rowkey_of cs)
    all [] = tt
    all (c ∷ cs) = (refl, all cs)

    at : (b : Bool) (cs : List Column) → Each IsPlain (if b then map rowkey_of cs else [])
    at true cs = all cs
    at false cs = tt

columns-plain : (catalog : List Relation) (q : Select) → All HasPlainNames catalog → Each IsPlain (from_columns q (all_known catalog q))
columns-plain catalog q h =
    each-append IsPlain (flat_map scope_columns (all_known catalog q)) (rowkey q (all_known catalog q)) (sources-plain catalog (sources q) h) (rowkey-plain q (all_known catalog q))

pub from-plain : (catalog : List Relation) (q : Select) → All HasPlainNames catalog → HasPlainColumns (from_scope q (all_known catalog q))
from-plain catalog q h i c at = each-at IsPlain (from_columns q (all_known catalog q)) (columns-plain catalog q h) i c at

pub item-plain : (catalog : List Relation) (q : Select) → All HasPlainNames catalog → HasPlainColumns (item_scope q (all_known catalog q))
item-plain catalog q h i c at = each-at IsPlain (from_columns q (all_known catalog q)) (columns-plain catalog q h) i c at
