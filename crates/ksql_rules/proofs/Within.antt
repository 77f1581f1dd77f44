-- What the sources of a query keep of the limits.
use Rattle.std.proofs.Common.{◌≡◌, ◌+◌, ◌*◌, ◌-◌, ◌^◌, ◌≤◌, Bool, true, false, if◌then◌else◌, List, [], ◌∷◌, ◌++◌, map, length, take, Option, Some, None, All, arith, refl, sym, subst, length-append}
use Rattle.std.specs.Prelude.{find}
use Rattle.std.specs.List.{flat_map}
use Rattle.std.proofs.lemmas.List.{length-map, length-take}
use Rattle.std.proofs.lemmas.List.Elements.{All-nil, All-cons, All-head, All-tail, All-append}
use Rattle.ksql_types.specs.Catalog.{find_named, has_name}
use Rattle.ksql_types.specs.declared.relation.Column.{Column}
use Rattle.ksql_types.specs.declared.relation.Relation.{Relation}
use Rattle.statement_trees.specs.declared.tree.JoinText.{JoinText}
use Rattle.statement_trees.specs.declared.tree.Select.{Select}
use Rattle.statement_trees.specs.declared.tree.Source.{Source}
use Rattle.ksql_types.specs.Columns.{columns}
use Rattle.ksql_scopes.specs.Uses.{IsSmall}
use Rattle.ksql_clauses.specs.declared.sources.Known.{Known}
use Rattle.ksql_clauses.specs.Items.{HasShortNames}
use Rattle.ksql_clauses.specs.Sources.{alias_of, sources, known, all_known, is_full, key_columns_of, scope_columns, scope_column, rowkey, rowkey_of, from_columns, there, on_exprs, front_exprs, early_exprs}
use Rattle.ksql_rules.specs.Limits.{IsRelationWithin}

-- ---- lists

pub All-unmap : {X Y : Type 0} (P : X → Type 0) (f : Y → X) (ys : List Y) → All P (map f ys) → All (λ y. P (f y)) ys
All-unmap P f [] h = All-nil (λ y. P (f y))
All-unmap P f (y ∷ ys) h = All-cons (λ y. P (f y)) y ys (All-head P (f y) (map f ys) h) (All-unmap P f ys (All-tail P (f y) (map f ys) h))

pub All-left : {X : Type 0} (P : X → Type 0) (xs ys : List X) → All P (xs ++ ys) → All P xs
All-left P [] ys h = All-nil P
All-left P (x ∷ xs) ys h = All-cons P x xs (All-head P x (xs ++ ys) h) (All-left P xs ys (All-tail P x (xs ++ ys) h))

pub All-right : {X : Type 0} (P : X → Type 0) (xs ys : List X) → All P (xs ++ ys) → All P ys
All-right P [] ys h = h
All-right P (x ∷ xs) ys h = All-right P xs ys (All-tail P x (xs ++ ys) h)

-- of what stands early, ON and the others
pub on-within : (q : Select) → All IsSmall (early_exprs q) → All IsSmall (on_exprs q)
on-within q h =
    All-left IsSmall (on_exprs q) (there q.filter)
    (All-left IsSmall (on_exprs q ++ there q.filter) q.group (All-left IsSmall (on_exprs q ++ there q.filter ++ q.group) (there q.partition) h))

pub front-within : (q : Select) → All IsSmall (early_exprs q) → All IsSmall (front_exprs q)
front-within q h =
    let first = All-left IsSmall (on_exprs q ++ there q.filter ++ q.group) (there q.partition) h in
    let filters = All-right IsSmall (on_exprs q) (there q.filter) (All-left IsSmall (on_exprs q ++ there q.filter) q.group first) in
    let groups = All-right IsSmall (on_exprs q ++ there q.filter) q.group first in
    All-append IsSmall (there q.filter ++ q.group) (there q.partition)
    (All-append IsSmall (there q.filter) q.group filters groups)
    (All-right IsSmall (on_exprs q ++ there q.filter ++ q.group) (there q.partition) h)

found-at : {X : Type 0} (P : X → Type 0) (b : Bool) (x y : X) (o : Option X) → P x → (o ≡ Some y → P y) → (if b then Some x else o) ≡ Some y → P y
found-at P true x y o h k e = let same : x ≡ y = cc (e) in subst P same h
found-at P false x y o h k e = k e

pub All-find : {X : Type 0} (P : X → Type 0) (p : X → Bool) (xs : List X) (y : X) → All P xs → find p xs ≡ Some y → P y
All-find P p [] y h e = absurd (cc (e))
All-find P p (x ∷ xs) y h e = found-at P (p x) x y (find p xs) (All-head P x xs h) (All-find P p xs y (All-tail P x xs h)) e

-- ---- sources

-- a source whose alias and relation keep their limits
pub record IsKnownWithin (k : Known) : Type 0 where
  pub alias_short : length k.alias ≤ 128
  pub relation : IsRelationWithin k.relation

known-at : (catalog : List Relation) (s : Source) (o : Option Relation) → find_named s.name catalog ≡ o → All IsRelationWithin catalog → length (alias_of s) ≤ 128
    → All IsKnownWithin (known catalog s) × (length (known catalog s) ≤ 1)
known-at catalog s None e h k = rw e (All-nil IsKnownWithin, omega arith)
known-at catalog s (Some r) e h k =
    let one : Known = record { alias = alias_of s; relation = r } in
    let found : IsRelationWithin r = All-find IsRelationWithin (has_name s.name) catalog r h e in
    rw e (All-cons IsKnownWithin one [] (record { alias_short = k; relation = found }) (All-nil IsKnownWithin), omega arith)

known-within : (catalog : List Relation) (s : Source) → All IsRelationWithin catalog → length (alias_of s) ≤ 128
    → All IsKnownWithin (known catalog s) × (length (known catalog s) ≤ 1)
known-within catalog s = known-at catalog s (find_named s.name catalog) refl

sources-within : (catalog : List Relation) (ss : List Source) → All IsRelationWithin catalog → All (λ s. length (alias_of s) ≤ 128) ss
    → All IsKnownWithin (flat_map (known catalog) ss) × (length (flat_map (known catalog) ss) ≤ length ss)
sources-within catalog [] h k = (All-nil IsKnownWithin, omega arith)
sources-within catalog (s ∷ ss) h k =
    let first = known-within catalog s h (All-head (λ s. length (alias_of s) ≤ 128) s ss k) in
    let others = sources-within catalog ss h (All-tail (λ s. length (alias_of s) ≤ 128) s ss k) in
    let len : length (known catalog s ++ flat_map (known catalog) ss) ≡ length (known catalog s) + length (flat_map (known catalog) ss) =
    length-append (known catalog s) (flat_map (known catalog) ss) in
    (All-append IsKnownWithin (known catalog s) (flat_map (known catalog) ss) first.0 others.0, omega (arith, first.1, others.1, len))

two-sources : (q : Select) (j : Option JoinText) → q.join ≡ j → length (sources q) ≤ 2
two-sources q None e = rw e (omega arith)
two-sources q (Some j) e = rw e (omega arith)

pub all-within : (catalog : List Relation) (q : Select) → All IsRelationWithin catalog → All (λ s. length (alias_of s) ≤ 128) (sources q)
    → All IsKnownWithin (all_known catalog q) × (length (all_known catalog q) ≤ 2)
all-within catalog q h k =
    let w = sources-within catalog (sources q) h k in
    let two : length (sources q) ≤ 2 = two-sources q q.join refl in
    (w.0, omega (arith, w.1, two))

short-names : (k : Known) → IsKnownWithin k → HasShortNames k
short-names k h =
    let keys = k.relation.schema.keys in
    let values = k.relation.schema.values in
    (h.alias_short, All-left (λ c. length c.name ≤ 128) keys values h.relation.names_short, All-right (λ c. length c.name ≤ 128) keys values h.relation.names_short)

pub all-short : (ks : List Known) → All IsKnownWithin ks → All HasShortNames ks
all-short [] h = All-nil HasShortNames
all-short (k ∷ ks) h =
    All-cons HasShortNames k ks (short-names k (All-head IsKnownWithin k ks h)) (all-short ks (All-tail IsKnownWithin k ks h))

-- ---- scopes

few-scope : (ks : List Known) → All IsKnownWithin ks → length (flat_map scope_columns ks) ≤ 64 * length ks
few-scope [] h = omega arith
few-scope (k ∷ ks) h =
    let first = All-head IsKnownWithin k ks h in
    let others = few-scope ks (All-tail IsKnownWithin k ks h) in
    let len : length (scope_columns k ++ flat_map scope_columns ks) ≡ length (scope_columns k) + length (flat_map scope_columns ks) =
    length-append (scope_columns k) (flat_map scope_columns ks) in
    let own : length (scope_columns k) ≡ length (columns k.relation) = length-map (columns k.relation) (scope_column k.alias) in
    omega (arith, len, own, first.relation.columns_few, others)

one-rowkey : (full : Bool) (keys : List Column) → length (if full then map rowkey_of (take 1 keys) else []) ≤ 1
one-rowkey true [] = omega arith
one-rowkey true (c ∷ cs) = omega (arith, length-map (take 1 (c ∷ cs)) rowkey_of, length-take 1 (c ∷ cs))
one-rowkey false keys = omega arith

rowkey-few : (q : Select) (ks : List Known) → length (rowkey q ks) ≤ 1
rowkey-few q ks = one-rowkey (is_full q) (key_columns_of ks)

-- the columns of two sources are few
pub few-columns : (q : Select) (ks : List Known) → All IsKnownWithin ks → length ks ≤ 2 → length (from_columns q ks) ≤ 2 ^ 32 - 2
few-columns q ks h k =
    let len : length (flat_map scope_columns ks ++ rowkey q ks) ≡ length (flat_map scope_columns ks) + length (rowkey q ks) =
    length-append (flat_map scope_columns ks) (rowkey q ks) in
    let front = few-scope ks h in
    let end = rowkey-few q ks in
    omega (arith, len, front, end)

module _ (catalog : List Relation) (q : Select) (ks : List Known) (relations : All IsRelationWithin catalog)
    (aliases : All (λ s. length (alias_of s) ≤ 128) (sources q)) (known_are : ks ≡ all_known catalog q) where
  pub few-in : length (from_columns q ks) ≤ 2 ^ 32 - 2
  few-in =
      let w = all-within catalog q relations aliases in
      subst (λ xs. length (from_columns q xs) ≤ 2 ^ 32 - 2) (sym known_are) (few-columns q (all_known catalog q) w.0 w.1)

  pub short-in : All HasShortNames ks
  short-in =
      let w = all-within catalog q relations aliases in
      subst (λ xs. All HasShortNames xs) (sym known_are) (all-short (all_known catalog q) w.0)
