-- Keys and rows of what a task's nodes make of changes.
use Rattle.std.proofs.Common.{◌≡◌, ap, refl, sym, subst, ℕ, List, [], ◌∷◌, ◌++◌, map, length, Bool, true, false, true≢false}
use Rattle.std.specs.Prelude.{if◌then◌else◌, Option, Some, None, option_map, option_and_then, unwrap_or, IfSome}
use Rattle.std.specs.List.{AllByRecursion}
use Rattle.ksql_types.specs.Columns.{columns}
use Rattle.ksql_types.specs.Key.{is_key}
use Rattle.ksql_types.specs.declared.relation.Column.{Column}
use Rattle.ksql_types.specs.declared.relation.Kind.{Kind}
use Rattle.ksql_types.specs.declared.relation.Kind.TheVariants as kind
use Rattle.ksql_types.specs.declared.relation.Relation.{Relation}
use Rattle.ksql_types.specs.declared.value.SqlType.{SqlType}
use Rattle.ksql_types.specs.declared.value.Value.{Value}
use Rattle.ksql_types.specs.declared.value.Value.TheVariants.{Null, Int, Big, Txt}
use Rattle.ksql_types.specs.declared.value.Value.TheVariants as value
use Rattle.ksql_place.specs.declared.change.Body.{Body}
use Rattle.ksql_place.specs.declared.change.Body.TheVariants.{Said, Turned}
use Rattle.ksql_place.specs.declared.change.Change.{Change}
use Rattle.ksql_expr.specs.Rules.{agg_type}
use Rattle.ksql_expr.specs.Typing.{IsTyped}
use Rattle.ksql_expr.specs.Value.{value_of}
use Rattle.ksql_expr.specs.declared.typed.Typed.{Typed}
use Rattle.ksql_program.specs.Sound.{AreColumns, Aggregates, argument_type, column_types, more, none}
use Rattle.ksql_program.specs.declared.query.Agg.{Agg}
use Rattle.ksql_nodes.specs.Aggregates.{outcome, type_of_agg, unless_none, worth}
use Rattle.ksql_nodes.specs.Entries.{Entry, Row, from_side, is_same_key, of_key, results, through}
use Rattle.ksql_nodes.specs.Groups.{Member, grouped, in_group, member, moved}
use Rattle.ksql_nodes.specs.Joins.{join_key, rekeyed}
use Rattle.ksql_nodes.specs.Nodes.{gives}
use Rattle.ksql_nodes.specs.Rows.{key_of, values}
use Rattle.ksql_nodes.specs.declared.node.Node.{Node}
use Rattle.ksql_nodes.specs.declared.node.Node.TheVariants.{Aggregate, Filter, Group, Rekey}
use Rattle.query_meaning.specs.Queries.{filter_of, with_key_cells}
use Rattle.meaning_laws.proofs.RowTypes.{BodyHas, Holds, IsChangeOf, KeyHas, RowHas, WholeKey, filter-fits, values-fit, whole-filled, zip-append}
use Rattle.meaning_laws.proofs.Sizes.{Gives, entries-give, results-give}
use Rattle.meaning_laws.proofs.Turning.{changed-from-side}
use Rattle.meaning_laws.proofs.TypedValues.{Has, number-has, typed-has_type}
use Rattle.topology.specs.Contents.{with_cells}

-- ---- nodes in a row

-- nodes turn changes with property A into changes with property B
abbrev pub Leads : (A B : Change → Type 0) → List Node → Type 0
Leads A B nodes = (changes : List Change) → AllByRecursion A changes → AllByRecursion B (through (map (gives 1) nodes) (from_side 0 changes))

pub leads-none : (A : Change → Type 0) → Leads A A []
leads-none A changes h = subst (AllByRecursion A) (sym (changed-from-side changes)) h

pub leads-more : (A B C : Change → Type 0) (x : Node) (xs : List Node) → Gives A B (gives 1 x) → Leads B C xs → Leads A C (x ∷ xs)
leads-more A B C x xs give lead changes h =
    lead (results (gives 1 x) [] (from_side 0 changes)) (results-give (λ e. A e.change) B (gives 1 x) give [] (from_side 0 changes) tt (entries-give A 0 changes h))

pub leads-one : (A B : Change → Type 0) (x : Node) → Gives A B (gives 1 x) → Leads A B (x ∷ [])
leads-one A B x give = leads-more A B B x [] give (leads-none B)

through-both : (xs ys : List Node) (changes : List Change) →
    through (map (gives 1) (xs ++ ys)) (from_side 0 changes) ≡ through (map (gives 1) ys) (from_side 0 (through (map (gives 1) xs) (from_side 0 changes)))
through-both [] ys changes = ap (λ cs. through (map (gives 1) ys) (from_side 0 cs)) (sym (changed-from-side changes))
through-both (x ∷ xs) ys changes = through-both xs ys (results (gives 1 x) [] (from_side 0 changes))

pub leads-both : (A B C : Change → Type 0) (xs ys : List Node) → Leads A B xs → Leads B C ys → Leads A C (xs ++ ys)
leads-both A B C xs ys first second changes h =
    subst (AllByRecursion C) (sym (through-both xs ys changes)) (second (through (map (gives 1) xs) (from_side 0 changes)) (first changes h))

pub filter-leads : (over : Kind) (K : List Value → Type 0) (types : List (Option SqlType)) (on : Option Typed) → Leads (Holds over K types) (Holds over K types) (filter_of on)
filter-leads over K types None = leads-none (Holds over K types)
filter-leads over K types (Some e) = leads-one (Holds over K types) (Holds over K types) (Filter e) (filter-fits 1 e over K types)

-- ---- whole rows, as a task reads them

pub cells-filled : (over : Kind) (r : Relation) (c : Change) → IsChangeOf over (column_types r.schema.keys) (column_types r.schema.values) c →
    IsChangeOf over (column_types r.schema.keys) (column_types (columns r)) (with_cells (length r.schema.keys) c)
cells-filled over r c h = by r.schema.keys refl
  where
    Filled : List Column → Type 0
    Filled keys = IsChangeOf over (column_types keys) (column_types (keys ++ r.schema.values)) (with_cells (length keys) c)

    by : (keys : List Column) → r.schema.keys ≡ keys → Filled r.schema.keys
    by [] is = subst Filled (sym is) (subst (λ keys. IsChangeOf over (column_types keys) (column_types r.schema.values) c) is h)
    by (k ∷ ks) is =
        subst Filled (sym is)
        (subst (λ keys. IsChangeOf over (column_types keys) (column_types (keys ++ r.schema.values)) (with_key_cells (length keys) c)) is (whole-filled over r c h))

-- ---- a rekeyed side

-- the key of one value, which is of the type of the one key column
one-key-fits : (t : Option SqlType) (ks : List (Option SqlType)) → IfSome t (λ s. ks ≡ Some s ∷ []) → (v : Value) → Has t v → KeyHas ks (key_of (v ∷ []))
one-key-fits (Some s) ks like v h = by (is_key (v ∷ [])) refl
  where
    by : (b : Bool) → is_key (v ∷ []) ≡ b → KeyHas ks (if b then v ∷ [] else [])
    by true is = (subst (λ ts. RowHas ts (v ∷ [])) (sym like) (h, tt), is)
    by false is = tt
one-key-fits None ks like Null h = tt
one-key-fits None ks like (Int x) h = absurd (true≢false (sym h))
one-key-fits None ks like (Big x) h = absurd (true≢false (sym h))
one-key-fits None ks like (Txt x) h = absurd (true≢false (sym h))
one-key-fits None ks like (value.Bool x) h = absurd (true≢false (sym h))

-- a change under a key, if it has one
rekeyed-fits : (over : Kind) (ks types : List (Option SqlType)) (key : List Value) → KeyHas ks key → (c : Change) → BodyHas over types c.body → AllByRecursion (Holds over (WholeKey ks) types) (rekeyed key c)
rekeyed-fits over ks types [] h c body = tt
rekeyed-fits over ks types (v ∷ vs) h c body = ((h, body), tt)

pub rekey-fits : (ks types : List (Option SqlType)) (on : Typed) → IsTyped types on → IfSome on.ty (λ s. ks ≡ Some s ∷ []) → (K : List Value → Type 0) →
    Gives (Holds kind.Stream K types) (Holds kind.Stream (WholeKey ks) types) (gives 1 (Rekey on))
unfolding gives
rekey-fits ks types on typed like K before past e now = by e.change.body now.1
  where
    by : (body : Body) → BodyHas kind.Stream types body →
        AllByRecursion (Holds kind.Stream (WholeKey ks) types) (rekeyed (join_key on (record e.change { body = body })) (record e.change { body = body }))
    by (Said row) h =
        rekeyed-fits kind.Stream ks types (key_of (value_of row e.change.time on ∷ []))
        (one-key-fits on.ty ks like (value_of row e.change.time on) (typed-has_type row e.change.time types h on typed)) (record e.change { body = Said row }) h
    by (Turned old new) h = absurd h

-- ---- groups of a table

pub table-group-fits : (types : List (Option SqlType)) (es : List Typed) (cs : List Column) → AreColumns kind.Table types es cs → (K : List Value → Type 0) →
    Gives (Holds kind.Table K types) (Holds kind.Table (WholeKey (column_types cs)) types) (gives 1 (Group es))
unfolding gives
table-group-fits types es cs sound K before past e now = by e.change.body now.1
  where
    time : ℕ
    time = e.change.time

    Fits : Member → Type 0
    Fits m = WholeKey (column_types cs) m.group × RowHas types m.row

    member-fits : (row : Row) → RowHas types row → IfSome (member es time row) Fits
    member-fits row h = key (is_key (values es time row)) refl
      where
        key : (b : Bool) → is_key (values es time row) ≡ b → IfSome (if b then Some (record { group = values es time row; row = row }) else None) Fits
        key true is = ((values-fit kind.Table types es cs sound row time h, is), h)
        key false is = tt

    each : (o : Option Row) → IfSome o (RowHas types) → IfSome (option_and_then (member es time) o) Fits
    each None h = tt
    each (Some row) h = member-fits row h

    moved-fits : (c : Change) (old new : Option Member) → IfSome old Fits → IfSome new Fits → AllByRecursion (Holds kind.Table (WholeKey (column_types cs)) types) (moved c old new)
    moved-fits c None None h k = tt
    moved-fits c (Some l) None h k = ((h.0, (h.1, tt)), tt)
    moved-fits c None (Some r) h k = ((k.0, (tt, k.1)), tt)
    moved-fits c (Some l) (Some r) h k = same (is_same_key l.group r.group)
      where
        same : (b : Bool) → AllByRecursion (Holds kind.Table (WholeKey (column_types cs)) types) (if b then in_group r.group 0 c (Turned (Some l.row) (Some r.row)) ∷ []
            else in_group l.group 0 c (Turned (Some l.row) None) ∷ in_group r.group 1 c (Turned None (Some r.row)) ∷ [])
        same true = ((k.0, (h.1, k.1)), tt)
        same false = ((h.0, (h.1, tt)), ((k.0, (tt, k.1)), tt))

    by : (body : Body) → BodyHas kind.Table types body → AllByRecursion (Holds kind.Table (WholeKey (column_types cs)) types) (grouped es (record e.change { body = body }))
    by (Said row) h = absurd h
    by (Turned old new) h = moved-fits (record e.change { body = Turned old new }) (option_and_then (member es time) old) (option_and_then (member es time) new) (each old h.0) (each new h.1)

-- ---- aggregates of a table, as tasks do them

agg-type : (a : Agg) (t : Option SqlType) → agg_type a.fun (argument_type a.arg) ≡ Some t → type_of_agg a ≡ t
agg-type a t is = by a.arg is
  where
    by : (arg : Option Typed) → agg_type a.fun (argument_type arg) ≡ Some t → unwrap_or (agg_type a.fun (option_map (λ e. e.ty) arg)) None ≡ t
    by None is = ap (λ o. unwrap_or o None) is
    by (Some e) is = ap (λ o. unwrap_or o None) is

balances-fit : (types : List (Option SqlType)) {aggs : List Agg} {ats : List (Option SqlType)} → Aggregates kind.Table types aggs ats → (es : List Entry) →
    RowHas ats (map (worth kind.Table es) aggs)
balances-fit types none es = tt
balances-fit types (more {a = a} {t = t} _ _ is rest) es =
    (subst (λ ty. Has ty (worth kind.Table es a)) (agg-type a t is) (number-has (type_of_agg a) _), balances-fit types rest es)

pub table-balance-fits : (types ks : List (Option SqlType)) {aggs : List Agg} {ats : List (Option SqlType)} → Aggregates kind.Table types aggs ats →
    Gives (Holds kind.Table (WholeKey ks) types) (IsChangeOf kind.Table ks (ks ++ ats ++ [])) (gives 1 (Aggregate kind.Table aggs None))
unfolding gives
table-balance-fits types ks {aggs = aggs} {ats = ats} sound before past e now =
    ((now.0, (fits (of_key e.change.key before), fits (of_key e.change.key before ++ e ∷ []))), tt)
  where
    unless : (es : List Entry) (row : Row) → RowHas (ks ++ ats ++ []) row → IfSome (unless_none es row) (RowHas (ks ++ ats ++ []))
    unless [] row h = tt
    unless (e ∷ es) row h = h

    fits : (es : List Entry) → IfSome (outcome kind.Table aggs e.change.key None es) (RowHas (ks ++ ats ++ []))
    fits es =
        unless es (e.change.key ++ map (worth kind.Table es) aggs ++ [])
        (zip-append (ks ++ ats) [] (e.change.key ++ map (worth kind.Table es) aggs) []
        (zip-append ks ats e.change.key (map (worth kind.Table es) aggs) now.0.0 (balances-fit types sound es)) tt)
