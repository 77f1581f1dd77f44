-- A query over one relation that groups nothing is sound.
use Rattle.std.proofs.Common.{◌≡◌, ◌≢◌, ℕ, zero, suc, ◌+◌, ◌≤◌, arith, Bool, true, false, not, ◌&&◌, ◌||◌, if◌then◌else◌, nat_lt, List, [], ◌∷◌, ◌++◌, length, map, Option, Some, None, is_some, refl, ap, ap₂, sym, ◌∙◌, subst}
use Rattle.std.specs.Prelude.{slice_get, is_none, bytes_eq, option_map, filter, take}
use Rattle.std.specs.List.{list_any, flat_map, AllByRecursion as Each}
use Rattle.std.proofs.lemmas.Bool.{false≢true, ltb-false}
use Rattle.std.proofs.lemmas.List.{append-nil}
use Rattle.std.proofs.lemmas.Slice.Eq.{bytes_eq-Decides}
use Rattle.ksql_types.specs.declared.relation.Column.{Column}
use Rattle.ksql_types.specs.declared.relation.Kind.{Kind}
use Rattle.ksql_types.specs.declared.relation.Kind.TheVariants as kind
use Rattle.ksql_types.specs.declared.relation.Relation.{Relation}
use Rattle.ksql_types.specs.declared.value.SqlType.{SqlType}
use Rattle.expression_trees.specs.declared.tree.Expr.{Expr}
use Rattle.expression_trees.specs.declared.tree.Expr.TheVariants as e
use Rattle.statement_trees.specs.declared.tree.Select.{Select}
use Rattle.statement_trees.specs.declared.tree.SelectItem.{SelectItem}
use Rattle.statement_trees.specs.declared.tree.SelectItem.TheVariants.{Star, StarOf, One}
use Rattle.statement_trees.specs.declared.tree.WindowText.{WindowText}
use Rattle.ksql_expr.specs.declared.typed.Typed.{Typed}
use Rattle.ksql_expr.specs.declared.typed.TypedNode.TheVariants as n
use Rattle.ksql_program.specs.declared.program.Item.{Item}
use Rattle.ksql_program.specs.declared.query.From.{From}
use Rattle.ksql_program.specs.declared.query.From.TheVariants as from
use Rattle.ksql_program.specs.Program.{relation_at}
use Rattle.ksql_program.specs.Sound as sound
use Rattle.ksql_types.specs.Columns.{columns}
use Rattle.ksql_program.specs.Sound.{Reads, IsKeyed, AreColumnsFrom}
use Rattle.ksql_scopes.specs.declared.scope.Scope.{Scope}
use Rattle.ksql_scopes.specs.declared.scope.ScopeColumn.{ScopeColumn}
use Rattle.ksql_scopes.specs.Scope.{column_types, is_known_as}
use Rattle.ksql_scopes.specs.Functions.{is_aggregate}
use Rattle.ksql_scopes.proofs.Equations as equation
use Rattle.std.proofs.lemmas.Bool.{and_from}
use Rattle.ksql_typing.specs.Standing as st
use Rattle.ksql_typing.specs.Standing.{Stands}
use Rattle.expression_trees.specs.Same.{same_expr}
use Rattle.ksql_clauses.specs.declared.items.Named.{Named}
use Rattle.ksql_clauses.specs.declared.sources.Known.{Known}
use Rattle.ksql_clauses.specs.Items.{result_columns, star_column, star_of, is_join}
use Rattle.ksql_scopes.specs.Resolved.{resolved}
use Rattle.ksql_clauses.specs.Sources.{is_stream, is_windowed, is_full, reads_stream, scope_column, scope_columns, rowkey_of, from_scope, item_scope, from_columns, item_exprs, key_columns_of, there}
use Rattle.ksql_clauses.specs.Keys.{key_columns}
use Rattle.ksql_rules.specs.Breaks.{is_grouped, is_bad_window, lacks_key}
use Rattle.ksql_clauses.specs.Keys.{key_exprs, key_places, needs, alone}
use Rattle.expression_trees.proofs.Equality.{equal}
use Rattle.ksql_analyse.specs.Judgement.{IsFrom, AreTypedTrees, exprs}
use Rattle.ksql_analyse.proofs.lists.Appended.{front-at}
use Rattle.ksql_analyse.proofs.lists.Distinct.{or-false}
use Rattle.ksql_analyse.proofs.forms.Meant.{meant-known}
use Rattle.ksql_analyse.proofs.parsed.Parsed.{name_small}
use Rattle.ksql_analyse.proofs.accepted.Refusals.{not-not}
use Rattle.ksql_analyse.proofs.forms.Resolution.{calls-resolved, small-resolved}
use Rattle.ksql_analyse.proofs.sound.SoundColumns.{each-map, each-flat, each-all, columns-each, OfItem, AreKeys, keys-are}
use Rattle.ksql_analyse.proofs.sound.SoundSources.{IsThere}
use Rattle.ksql_analyse.proofs.sound.SoundTrees.{IsPlain}
use Rattle.ksql_analyse.proofs.forms.Stood.{stood-name}

-- ---- kinds

pub not-windowed : (r : Relation) → is_windowed r ≡ false → r.kind ≢ kind.Windowed
not-windowed r h k = false≢true (sym h ∙ ap (λ x. is_windowed (record r { kind = x })) k)

-- the kind of an ungrouped result is that of what is read
pub kind-kept : (r : Relation) → is_windowed r ≡ false → (if is_stream r then kind.Stream else kind.Table) ≡ r.kind
kind-kept r h = at r.kind refl
  where
    at : (k : Kind) → r.kind ≡ k → (if is_stream r then kind.Stream else kind.Table) ≡ r.kind
    at kind.Stream e = ap (λ x. if is_stream (record r { kind = x }) then kind.Stream else kind.Table) e ∙ sym e
    at kind.Table e = ap (λ x. if is_stream (record r { kind = x }) then kind.Stream else kind.Table) e ∙ sym e
    at kind.Windowed e = absurd (not-windowed r h e)

pub stream-kind : (r : Relation) → is_stream r ≡ true → r.kind ≡ kind.Stream
stream-kind r h = at r.kind refl
  where
    at : (k : Kind) → r.kind ≡ k → r.kind ≡ kind.Stream
    at kind.Stream e = e
    at kind.Table e = absurd (false≢true (sym (ap (λ x. is_stream (record r { kind = x })) e) ∙ h))
    at kind.Windowed e = absurd (false≢true (sym (ap (λ x. is_stream (record r { kind = x })) e) ∙ h))

pub table-kind : (r : Relation) → is_stream r ≡ false → is_windowed r ≡ false → r.kind ≡ kind.Table
table-kind r h w = at r.kind refl
  where
    at : (k : Kind) → r.kind ≡ k → r.kind ≡ kind.Table
    at kind.Stream e = absurd (false≢true (sym h ∙ ap (λ x. is_stream (record r { kind = x })) e))
    at kind.Table e = e
    at kind.Windowed e = absurd (not-windowed r w e)

-- ---- the parts of a query that groups nothing

pub no-group : (q : Select) → is_grouped q ≡ false → q.group ≡ []
no-group q h = at q.group h
  where
    at : (es : List Expr) → nat_lt 0 (length es) ≡ false → es ≡ []
    at [] k = refl
    at (a ∷ es) k = let z : length (a ∷ es) ≤ 0 = ltb-false 0 (length (a ∷ es)) k in absurd (omega arith)

pub no-window : (q : Select) (ks : List Known) → is_grouped q ≡ false → is_bad_window q ks ≡ false → q.window ≡ None
no-window q ks g h = at q.window refl
  where
    at : (o : Option WindowText) → q.window ≡ o → q.window ≡ None
    at None k = k
    at (Some w) k =
        absurd (cc (ap not g, (or-false (not (is_grouped q)) _ (or-false _ _ (sym (ap (λ o. is_bad_window (record q { window = o }) ks) k) ∙ h)).0).0))

-- ---- the expressions of a query

pub plain-name : (q : Option (List ℕ)) (name : List ℕ) → IsPlain (e.Name q name)
plain-name q name = (ap (list_any is_aggregate) (equation.calls-Name q name), name_small q name)

pub plain-resolved : (s : Scope) (a : Expr) → IsPlain a → IsPlain (resolved s a)
plain-resolved s a h = (ap (list_any is_aggregate) (calls-resolved s a) ∙ h.0, small-resolved s a ∙ h.1)

module _ (P : Expr → Type 0) (s : Scope) (ks : List Known) (named : (alias name : List ℕ) → P (e.Name (Some alias) name)) (kept : (a : Expr) → P a → P (resolved s a)) where
  abbrev Holds : Named → Type 0
  Holds c = P c.expr

  stars-hold : (others : List Known) → Each Holds (flat_map (star_of ks) others)
  stars-hold others =
      each-flat Holds (star_of ks) (λ k. each-map Holds (star_column (is_join ks) k.alias) (columns k.relation)
      (each-all (λ c. Holds (star_column (is_join ks) k.alias c)) (λ c. named k.alias c.name) (columns k.relation))) others

  items-hold : (is : List SelectItem) → Each P (flat_map item_exprs is) → Each (OfItem Holds s ks) is
  items-hold [] h = tt
  items-hold (Star ∷ is) h = (stars-hold ks, items-hold is h)
  items-hold (StarOf alias ∷ is) h = (stars-hold (filter (λ k. bytes_eq k.alias alias) ks), items-hold is h)
  items-hold (One a (Some alias) ∷ is) h = (kept a h.0, items-hold is h.1)
  items-hold (One a None ∷ is) h = ((λ name g. kept a h.0, λ number small. kept a h.0), items-hold is h.1)

-- what holds of the items' expressions, of names and of resolved expressions holds of the columns
pub exprs-hold : (P : Expr → Type 0) (q : Select) (ks : List Known) → ((alias name : List ℕ) → P (e.Name (Some alias) name))
    → ((a : Expr) → P a → P (resolved (item_scope q ks) a)) → nat_lt 64 (length (result_columns q ks)) ≡ false → Each P (flat_map item_exprs q.items)
    → Each (λ c. P c.expr) (result_columns q ks)
exprs-hold P q ks named kept few h =
    let count : length (result_columns q ks) ≤ 64 = ltb-false 64 (length (result_columns q ks)) few in
    columns-each (λ c. P c.expr) (item_scope q ks) ks q.items 0 (omega arith) (items-hold P (item_scope q ks) ks named kept q.items h)

-- ---- the columns of one relation

abbrev pub typed_column : ScopeColumn → Option SqlType
typed_column c = Some c.column.ty

pub types-of : (alias : List ℕ) (cs : List Column) → map typed_column (map (scope_column alias) cs) ≡ sound.column_types cs
types-of alias [] = refl
types-of alias (c ∷ cs) = ap (λ l. Some c.ty ∷ l) (types-of alias cs)

pub not-full-join : (q : Select) → q.join ≡ None → is_full q ≡ false
not-full-join q h = ap (λ j. is_full (record q { join = j })) h

from-columns-one : (q : Select) (k : Known) → q.join ≡ None → from_columns q (k ∷ []) ≡ scope_columns k
from-columns-one q k h =
    ap (λ (b : Bool). (scope_columns k ++ []) ++ (if b then map rowkey_of (take 1 (key_columns_of (k ∷ []))) else [])) (not-full-join q h) ∙ append-nil (scope_columns k ++ []) ∙ append-nil (scope_columns k)

pub from-types-one : (q : Select) (k : Known) → q.join ≡ None → column_types (from_scope q (k ∷ [])) ≡ sound.column_types (columns k.relation)
from-types-one q k h =
    ap (λ cs. map typed_column cs ++ []) (from-columns-one q k h) ∙ append-nil (map typed_column (scope_columns k)) ∙ types-of k.alias (columns k.relation)

-- without a window the items see the columns of the sources
pub item-types : (q : Select) (ks : List Known) → q.window ≡ None → column_types (item_scope q ks) ≡ column_types (from_scope q ks)
item-types q ks h = ap (λ w. column_types (item_scope (record q { window = w }) ks)) h

-- ---- what is read

pub reads-one : (before : List Item) (q : Select) (k : Known) (f : From) → IsFrom q (k ∷ []) f → IsThere before k.relation → is_windowed k.relation ≡ false
    → Reads before f (sound.column_types (columns k.relation)) k.relation
reads-one before q k (from.One number) h there w =
    sound.one (ap (relation_at before) (h.2 ∙ ap (λ l. l.relation.number) (same-known h.0 h.1)) ∙ there.at) (not-windowed k.relation w)
  where
    same-known : (l : Known) → k ∷ [] ≡ l ∷ [] → l ≡ k
    same-known l e = cc (e)
reads-one before q k (from.Join j left right on) h there w = absurd (cc (h.2))

-- ---- the key

pub same-one : (c : Named) (a : Expr) → list_any (same_expr c.expr) (a ∷ []) ≡ true → c.expr ≡ a
same-one c a h = equal c.expr a (one-of (same_expr c.expr a) h)
  where
    one-of : (b : Bool) → (b || false) ≡ true → b ≡ true
    one-of true k = refl
    one-of false k = k

-- the tree of a column with its relation's alias is this column
pub column-tree : (s : Scope) (alias : List ℕ) (c : Column) (i : ℕ) → slice_get s.columns i ≡ Some (scope_column alias c) → (a : Expr) (x : Typed)
    → a ≡ e.Name (Some alias) c.name → Stands s (st.one a x) → x.node ≡ n.Column i
column-tree s alias c i at a x is h =
    let k = stood-name s a x (Some alias) c.name is h in
    let known : is_known_as (Some alias) c.name (scope_column alias c) ≡ true =
    and_from (bytes_eq alias alias) (bytes_eq c.name c.name) ((bytes_eq-Decides alias alias).1 refl) ((bytes_eq-Decides c.name c.name).1 refl) in
    ap (λ y. y.node) k.3 ∙ (meant-known s (Some alias) c.name k.0 k.1 k.2 i (scope_column alias c) at known).0

-- the key's columns of one relation, from an index on
keys-from : (s : Scope) (alias : List ℕ) (i : ℕ) (cs : List Column) → ((j : ℕ) (c : Column) → slice_get cs j ≡ Some c → slice_get s.columns (i + j) ≡ Some (scope_column alias c))
    → (found : List Named) (xs : List Typed) → AreKeys (alone (map (λ c. e.Name (Some alias) c.name) cs)) found → AreTypedTrees s (exprs found) xs → AreColumnsFrom i cs xs
keys-from s alias i [] at [] [] k h = tt
keys-from s alias i [] at [] (x ∷ xs) k h = absurd h
keys-from s alias i [] at (d ∷ found) xs k h = absurd k
keys-from s alias i (c ∷ cs) at [] xs k h = absurd k
keys-from s alias i (c ∷ cs) at (d ∷ found) [] k h = absurd h
keys-from s alias i (c ∷ cs) at (d ∷ found) (x ∷ xs) k h =
    let z : i + 0 ≡ i = omega arith in
    let here : slice_get s.columns i ≡ Some (scope_column alias c) = ap (slice_get s.columns) (sym z) ∙ at 0 c refl in (
      column-tree s alias c i here d.expr x (same-one d (e.Name (Some alias) c.name) k.0) h.0.0,
      keys-from s alias (i + 1) cs (λ j o g. let w : i + 1 + j ≡ i + suc j = omega arith in ap (slice_get s.columns) w ∙ at (suc j) o g) found xs k.1 h.1,
    )

pub scoped-at : (alias : List ℕ) (cs : List Column) (j : ℕ) (c : Column) → slice_get cs j ≡ Some c → slice_get (map (scope_column alias) cs) j ≡ Some (scope_column alias c)
scoped-at alias [] j c h = absurd (cc (h))
scoped-at alias (d ∷ cs) zero c h = ap (λ o. option_map (scope_column alias) o) h
scoped-at alias (d ∷ cs) (suc j) c h = scoped-at alias cs j c h

-- a query over one relation whose key is its own or that of PARTITION BY has its key
pub keyed-one : (before : List Item) (q : Select) (k : Known) (f : From) (xs : List Typed) → IsFrom q (k ∷ []) f → q.join ≡ None → is_grouped q ≡ false
    → IsThere before k.relation → (is_some q.partition && not (reads_stream (k ∷ []))) ≡ false → lacks_key q (k ∷ []) ≡ false
    → AreTypedTrees (item_scope q (k ∷ [])) (exprs (key_columns q (k ∷ []))) xs → IsKeyed before f xs
keyed-one before q k (from.Join j left right on) xs h join g there p l t = absurd (cc (h.2))
keyed-one before q k (from.One number) xs h join g there p l t = at q.partition refl
  where
    same-known : (o : Known) → k ∷ [] ≡ o ∷ [] → o ≡ k
    same-known o e = cc (e)

    here : relation_at before number ≡ Some k.relation
    here = ap (relation_at before) (h.2 ∙ ap (λ o. o.relation.number) (same-known h.0 h.1)) ∙ there.at

    all-there : list_any is_none (key_places q (k ∷ [])) ≡ false
    all-there = sym (ap (λ b. not (b && is_some q.partition) && list_any is_none (key_places q (k ∷ []))) g) ∙ l

    keys : AreKeys (needs q (k ∷ [])) (key_columns q (k ∷ []))
    keys = keys-are (result_columns q (k ∷ [])) (needs q (k ∷ [])) all-there

    at : (o : Option Expr) → q.partition ≡ o → IsKeyed before (from.One number) xs
    at None e =
        let need : needs q (k ∷ []) ≡ alone (key_exprs k) = ap₂ (λ es w. needs (record q { group = es; partition = w }) (k ∷ [])) (no-group q g) e in
        sound.own here (keys-from (item_scope q (k ∷ [])) k.alias 0 k.relation.schema.keys
        (λ j c got. let z : 0 + j ≡ j = omega arith in
        ap (slice_get (from_columns q (k ∷ []))) z ∙ ap (λ cs. slice_get cs j) (from-columns-one q k join)
        ∙ scoped-at k.alias (columns k.relation) j c (front-at k.relation.schema.keys k.relation.schema.values j c got))
        (key_columns q (k ∷ [])) xs (subst (λ ns. AreKeys ns (key_columns q (k ∷ []))) need keys) t)
    at (Some o) e =
        let need : needs q (k ∷ []) ≡ alone (resolved (from_scope q (k ∷ [])) o ∷ []) =
        ap₂ (λ es w. needs (record q { group = es; partition = w }) (k ∷ [])) (no-group q g) e in
        one-key (key_columns q (k ∷ [])) xs (subst (λ ns. AreKeys ns (key_columns q (k ∷ []))) need keys) t
      where
        stream : is_stream k.relation ≡ true
        stream = not-not (is_stream k.relation) (sym (ap (λ w. is_some w && not (is_stream k.relation)) e) ∙ p)

        one-key : (found : List Named) (ys : List Typed) → AreKeys (alone (resolved (from_scope q (k ∷ [])) o ∷ [])) found → AreTypedTrees (item_scope q (k ∷ [])) (exprs found) ys
            → IsKeyed before (from.One number) ys
        one-key [] ys m v = absurd m
        one-key (d ∷ []) [] m v = absurd v
        one-key (d ∷ []) (y ∷ []) m v = sound.partitioned here (stream-kind k.relation stream)
        one-key (d ∷ []) (y ∷ z ∷ ys) m v = absurd v.1
        one-key (d ∷ c ∷ found) ys m v = absurd m.1
