-- Rows and keys with values of given types, and what steps make of them.
use Rattle.std.proofs.Common.{◌≡◌, ◌∙◌, ap, ap₂, refl, sym, subst, ℕ, List, [], ◌∷◌, ◌++◌, map, length, length-append, append_assoc, replicate, Bool, true, false}
use Rattle.std.specs.Prelude.{filter, if◌then◌else◌, Option, Some, None, option_map, option_and_then, unwrap_or, IfSome}
use Rattle.std.specs.List.{enumerate_from, fold, last_or, list_any, AllByRecursion, AllZip}
use Rattle.std.specs.declared.cmp.Ordering.{Ordering}
use Rattle.std.specs.Ordering.{is_gt, is_lt}
use Rattle.std.proofs.lemmas.List.{append-nil, length-map, map-append}
use Rattle.std.proofs.lemmas.Option.{none-some, same_Some}
use Rattle.ksql_types.specs.Columns.{columns}
use Rattle.ksql_types.specs.Key.{IsKey, is_key, is_null}
use Rattle.ksql_types.specs.declared.relation.Column.{Column}
use Rattle.ksql_types.specs.declared.relation.Kind.{Kind}
use Rattle.ksql_types.specs.declared.relation.Kind.TheVariants as kind
use Rattle.ksql_types.specs.declared.relation.Relation.{Relation}
use Rattle.ksql_types.specs.declared.relation.Span.{Span}
use Rattle.ksql_types.specs.declared.relation.Window.{Window}
use Rattle.ksql_types.specs.declared.value.SqlType.{SqlType}
use Rattle.ksql_types.specs.declared.value.SqlType.TheVariants as sql
use Rattle.ksql_types.specs.declared.value.Value.{Value}
use Rattle.ksql_types.specs.declared.value.Value.TheVariants.{Null}
use Rattle.ksql_place.specs.Said.{row_in}
use Rattle.ksql_place.specs.declared.change.Body.{Body}
use Rattle.ksql_place.specs.declared.change.Body.TheVariants.{Said, Turned}
use Rattle.ksql_place.specs.declared.change.Change.{Change}
use Rattle.ksql_expr.specs.Rules.{agg_type, sign_type, typed}
use Rattle.ksql_expr.specs.Typing.{IsTyped}
use Rattle.ksql_expr.specs.Value.{cell, first_value, is_true_value, value_of}
use Rattle.ksql_expr.specs.declared.typed.AggFun.{AggFun}
use Rattle.ksql_expr.specs.declared.typed.AggFun.TheVariants.{CountAll, Count, Sum, Min, Max, Latest, Earliest}
use Rattle.ksql_expr.specs.declared.typed.Typed.{Typed}
use Rattle.ksql_expr.specs.declared.typed.TypedNode.TheVariants as form
use Rattle.ksql_program.specs.Sound.{AreColumns, AreColumnsFrom, Aggregates, argument_type, column_types, grouped_kind, IsArgument, more, none, window_types}
use Rattle.ksql_program.specs.declared.query.Agg.{Agg}
use Rattle.ksql_nodes.specs.declared.node.Node.TheVariants.{Aggregate, Filter, Group, Having, Select, Table}
use Rattle.ksql_nodes.specs.Aggregates.{Dated, aggregate, argument, arguments, better, dated, entered, extreme, group_change, outcome, present, type_of_agg, unless_none, window_cells, worth}
use Rattle.ksql_nodes.specs.Entries.{Entry, Row, is_same_key, of_key, row_after}
use Rattle.ksql_nodes.specs.Groups.{Member, grouped, in_group, member, moved}
use Rattle.ksql_nodes.specs.Joins.{rekeyed}
use Rattle.ksql_nodes.specs.Nodes.{gives}
use Rattle.ksql_nodes.specs.Rows.{at_path, by_rows, key_of, passing, selected, selected_key, turned, values, with_body}
use Rattle.ksql_nodes.specs.TableAggregates.{aggregate_of_table, held, held_change, held_outcome, held_worth, is_in, standing, touching}
use Rattle.ksql_nodes.specs.Windows.{Timed, added, is_added, timed, window_change, windows_of, with_times}
use Rattle.ksql_nodes.proofs.Lists.{All-append}
use Rattle.query_meaning.specs.Queries.{key_cells, with_key_cells}
use Rattle.meaning_laws.specs.Bounds.{HasColumnsOf, IsBodyOf, IsKeyOf, IsRowOf}
use Rattle.meaning_laws.proofs.Lists.{All-filter, All-map, All-of, All-weaker}
use Rattle.meaning_laws.proofs.Sizes.{All-flat_map, Gives, last-holds, timed-hold}
use Rattle.meaning_laws.proofs.TypedValues.{Has, null-has, nothing-has, number-has, typed-has_type, value-column}

-- a row has a value of each type
abbrev pub RowHas : List (Option SqlType) → List Value → Type 0
RowHas ts row = AllZip Has ts row

-- a key has a value of each type, none of them NULL
abbrev pub WholeKey : List (Option SqlType) → List Value → Type 0
WholeKey ks key = RowHas ks key × IsKey key

-- a key is empty or whole
abbrev pub KeyHas : List (Option SqlType) → List Value → Type 0
KeyHas ks [] = Unit {0}
KeyHas ks (v ∷ vs) = WholeKey ks (v ∷ vs)

-- a stream's key may be empty, and a table's is whole
abbrev pub KeyOf : Kind → List (Option SqlType) → List Value → Type 0
KeyOf kind.Stream ks key = KeyHas ks key
KeyOf _ ks key = WholeKey ks key

-- a stream's change says a row, and a table's turns rows
abbrev pub BodyHas : Kind → List (Option SqlType) → Body → Type 0
BodyHas kind.Stream ts (Said row) = RowHas ts row
BodyHas kind.Stream ts (Turned old new) = ⊥
BodyHas _ ts (Said row) = ⊥
BodyHas _ ts (Turned old new) = IfSome old (RowHas ts) × IfSome new (RowHas ts)

-- a change of a kind has a key with property K, and rows of these types
abbrev pub Holds : Kind → (List Value → Type 0) → List (Option SqlType) → Change → Type 0
Holds over K ts c = K c.key × BodyHas over ts c.body

-- a change of a relation of a kind has a key and rows of these types
abbrev pub IsChangeOf : Kind → List (Option SqlType) → List (Option SqlType) → Change → Type 0
IsChangeOf over ks ts c = Holds over (KeyOf over ks) ts c

-- ---- rows

pub zip-append : (ts us : List (Option SqlType)) (xs ys : List Value) → RowHas ts xs → RowHas us ys → RowHas (ts ++ us) (xs ++ ys)
zip-append [] us [] ys hx hy = hy
zip-append [] us (x ∷ xs) ys hx hy = absurd hx
zip-append (t ∷ ts) us [] ys hx hy = absurd hx
zip-append (t ∷ ts) us (x ∷ xs) ys hx hy = (hx.0, zip-append ts us xs ys hx.1 hy)

pub nulls-fit : (ts : List (Option SqlType)) → RowHas ts (replicate (length ts) Null)
nulls-fit [] = tt
nulls-fit (t ∷ ts) = (null-has t, nulls-fit ts)

pub row-types : (cs : List Column) (row : List Value) → IsRowOf cs row → RowHas (column_types cs) row
row-types [] [] h = tt
row-types [] (v ∷ vs) h = absurd h
row-types (c ∷ cs) [] h = absurd h
row-types (c ∷ cs) (v ∷ vs) h = (h.0, row-types cs vs h.1)

row-columns : (cs : List Column) (row : List Value) → RowHas (column_types cs) row → IsRowOf cs row
row-columns [] [] h = tt
row-columns [] (v ∷ vs) h = absurd h
row-columns (c ∷ cs) [] h = absurd h
row-columns (c ∷ cs) (v ∷ vs) h = (h.0, row-columns cs vs h.1)

pub key-types : (cs : List Column) (key : List Value) → IsKeyOf cs key → KeyHas (column_types cs) key
key-types cs [] h = tt
key-types cs (v ∷ vs) h = (row-types cs (v ∷ vs) h.0, h.1)

some-key : (over : Kind) (ks : List (Option SqlType)) (key : List Value) → KeyOf over ks key → KeyHas ks key
some-key kind.Stream ks key h = h
some-key kind.Table ks [] h = tt
some-key kind.Table ks (v ∷ vs) h = h
some-key kind.Windowed ks [] h = tt
some-key kind.Windowed ks (v ∷ vs) h = h

key-columns : (cs : List Column) (key : List Value) → KeyHas (column_types cs) key → IsKeyOf cs key
key-columns cs [] h = tt
key-columns cs (v ∷ vs) h = (row-columns cs (v ∷ vs) h.0, h.1)

option-columns : (cs : List Column) (o : Option Row) → IfSome o (RowHas (column_types cs)) → IfSome o (IsRowOf cs)
option-columns cs None h = tt
option-columns cs (Some row) h = row-columns cs row h

body-columns : (over : Kind) (cs : List Column) (body : Body) → BodyHas over (column_types cs) body → IsBodyOf cs body
body-columns kind.Stream cs (Said row) h = row-columns cs row h
body-columns kind.Stream cs (Turned old new) h = absurd h
body-columns kind.Table cs (Said row) h = absurd h
body-columns kind.Table cs (Turned old new) h = (option-columns cs old h.0, option-columns cs new h.1)
body-columns kind.Windowed cs (Said row) h = absurd h
body-columns kind.Windowed cs (Turned old new) h = (option-columns cs old h.0, option-columns cs new h.1)

pub filled-columns : (r : Relation) (c : Change) → IsChangeOf r.kind (column_types r.schema.keys) (column_types r.schema.values) c → HasColumnsOf r c
filled-columns r c h = record { key = key-columns r.schema.keys c.key (some-key r.kind (column_types r.schema.keys) c.key h.0); rows = body-columns r.kind r.schema.values c.body h.1 }

-- ---- whole rows

cells-fit : (cs : List Column) (key : List Value) → KeyHas (column_types cs) key → RowHas (column_types cs) (key_cells (length cs) key)
cells-fit cs [] h = subst (λ n. RowHas (column_types cs) (replicate n Null)) (length-map cs (λ c. Some c.ty)) (nulls-fit (column_types cs))
cells-fit cs (v ∷ vs) h = h.0

whole-fits : (r : Relation) (key row : List Value) → KeyHas (column_types r.schema.keys) key → RowHas (column_types r.schema.values) row →
    RowHas (column_types (columns r)) (key_cells (length r.schema.keys) key ++ row)
whole-fits r key row k h =
    subst (λ ts. RowHas ts (key_cells (length r.schema.keys) key ++ row)) (sym (map-append (λ c. Some c.ty) r.schema.keys r.schema.values))
    (zip-append (column_types r.schema.keys) (column_types r.schema.values) (key_cells (length r.schema.keys) key) row (cells-fit r.schema.keys key k) h)

whole-option : (r : Relation) (key : List Value) (o : Option Row) → KeyHas (column_types r.schema.keys) key → IfSome o (RowHas (column_types r.schema.values)) →
    IfSome (option_map (λ row. key_cells (length r.schema.keys) key ++ row) o) (RowHas (column_types (columns r)))
whole-option r key None k h = tt
whole-option r key (Some row) k h = whole-fits r key row k h

pub whole-filled : (over : Kind) (r : Relation) (c : Change) → IsChangeOf over (column_types r.schema.keys) (column_types r.schema.values) c →
    IsChangeOf over (column_types r.schema.keys) (column_types (columns r)) (with_key_cells (length r.schema.keys) c)
whole-filled over r c h = (h.0, by over c.body h.1)
  where
    key : KeyHas (column_types r.schema.keys) c.key
    key = some-key over (column_types r.schema.keys) c.key h.0

    by : (over : Kind) (body : Body) → BodyHas over (column_types r.schema.values) body →
        BodyHas over (column_types (columns r)) (with_key_cells (length r.schema.keys) (record c { body = body })).body
    by kind.Stream (Said row) h = whole-fits r c.key row key h
    by kind.Stream (Turned old new) h = absurd h
    by kind.Table (Said row) h = absurd h
    by kind.Table (Turned old new) h = (whole-option r c.key old key h.0, whole-option r c.key new key h.1)
    by kind.Windowed (Said row) h = absurd h
    by kind.Windowed (Turned old new) h = (whole-option r c.key old key h.0, whole-option r c.key new key h.1)

-- ---- rows by themselves

pub turned-fits : (over : Kind) → (over ≡ kind.Stream → ⊥) → (ts : List (Option SqlType)) (old new : Option Row) → IfSome old (RowHas ts) → IfSome new (RowHas ts) → IfSome (turned old new) (BodyHas over ts)
turned-fits over table ts None None h k = tt
turned-fits kind.Stream table ts None (Some new) h k = absurd (table refl)
turned-fits kind.Table table ts None (Some new) h k = (h, k)
turned-fits kind.Windowed table ts None (Some new) h k = (h, k)
turned-fits kind.Stream table ts (Some old) None h k = absurd (table refl)
turned-fits kind.Table table ts (Some old) None h k = (h, k)
turned-fits kind.Windowed table ts (Some old) None h k = (h, k)
turned-fits kind.Stream table ts (Some old) (Some new) h k = absurd (table refl)
turned-fits kind.Table table ts (Some old) (Some new) h k = (h, k)
turned-fits kind.Windowed table ts (Some old) (Some new) h k = (h, k)

pub table-apart : kind.Table ≡ kind.Stream → ⊥
table-apart is = cc

windowed-apart : kind.Windowed ≡ kind.Stream → ⊥
windowed-apart is = cc

rows-fit : (f : Row → Option Row) (ts us : List (Option SqlType)) → ((row : Row) → RowHas ts row → IfSome (f row) (RowHas us)) → (over : Kind) (body : Body) → BodyHas over ts body →
    IfSome (by_rows f body) (BodyHas over us)
rows-fit f ts us fit over body h = by over body h
  where
    each : (o : Option Row) → IfSome o (RowHas ts) → IfSome (option_and_then f o) (RowHas us)
    each None h = tt
    each (Some row) h = fit row h

    said : (o : Option Row) → IfSome o (RowHas us) → IfSome (option_map (λ r. Said r) o) (BodyHas kind.Stream us)
    said None h = tt
    said (Some row) h = h

    by : (over : Kind) (body : Body) → BodyHas over ts body → IfSome (by_rows f body) (BodyHas over us)
    by kind.Stream (Said row) h = said (f row) (fit row h)
    by kind.Stream (Turned old new) h = absurd h
    by kind.Table (Said row) h = absurd h
    by kind.Table (Turned old new) h = turned-fits kind.Table table-apart us (option_and_then f old) (option_and_then f new) (each old h.0) (each new h.1)
    by kind.Windowed (Said row) h = absurd h
    by kind.Windowed (Turned old new) h = turned-fits kind.Windowed windowed-apart us (option_and_then f old) (option_and_then f new) (each old h.0) (each new h.1)

-- a change with another body
pub body-holds : (over : Kind) (K : List Value → Type 0) (ts : List (Option SqlType)) (c : Change) → K c.key → (o : Option Body) → IfSome o (BodyHas over ts) →
    AllByRecursion (Holds over K ts) (with_body c o)
body-holds over K ts c key None h = tt
body-holds over K ts c key (Some body) h = ((key, h), tt)

passing-fits : (on : Typed) (time : ℕ) (ts : List (Option SqlType)) (row : Row) → RowHas ts row → IfSome (passing on time row) (RowHas ts)
passing-fits on time ts row h = by (is_true_value (value_of row time on))
  where
    by : (b : Bool) → IfSome (if b then Some row else None) (RowHas ts)
    by true = h
    by false = tt

pub filter-fits : (n : ℕ) (on : Typed) (over : Kind) (K : List Value → Type 0) (ts : List (Option SqlType)) →
    Gives (Holds over K ts) (Holds over K ts) (gives n (Filter on))
unfolding gives
filter-fits n on over K ts before past e now =
    body-holds over K ts e.change now.0 (by_rows (passing on e.change.time) e.change.body)
    (rows-fit (passing on e.change.time) ts ts (passing-fits on e.change.time ts) over e.change.body now.1)

pub having-fits : (n : ℕ) (on : Typed) (over : Kind) (K : List Value → Type 0) (ts : List (Option SqlType)) →
    Gives (Holds over K ts) (Holds over K ts) (gives n (Having on))
unfolding gives
having-fits n on over K ts = filter-fits n on over K ts

-- ---- the rows that entries bring

pub in-fits : (over : Kind) (ts : List (Option SqlType)) (body : Body) → BodyHas over ts body → IfSome (row_in body) (RowHas ts)
in-fits kind.Stream ts (Said row) h = h
in-fits kind.Stream ts (Turned old new) h = absurd h
in-fits kind.Table ts (Said row) h = absurd h
in-fits kind.Table ts (Turned old new) h = h.1
in-fits kind.Windowed ts (Said row) h = absurd h
in-fits kind.Windowed ts (Turned old new) h = h.1

-- the rows of some entries have these types
abbrev pub BringRows : Kind → List (Option SqlType) → List Entry → Type 0
BringRows over ts es = AllByRecursion (λ e. BodyHas over ts e.change.body) es

pub bring-rows : (over : Kind) (K : List Value → Type 0) (ts : List (Option SqlType)) (es : List Entry) → AllByRecursion (λ e. Holds over K ts e.change) es → BringRows over ts es
bring-rows over K ts es h = All-weaker (λ (e : Entry). Holds over K ts e.change) (λ e. BodyHas over ts e.change.body) (λ e h. h.1) es h

of_key-rows : (over : Kind) (ts : List (Option SqlType)) (key : List Value) (es : List Entry) → BringRows over ts es → BringRows over ts (of_key key es)
of_key-rows over ts key es h = All-filter (λ e. BodyHas over ts e.change.body) _ es h

more-rows : (over : Kind) (ts : List (Option SqlType)) (es : List Entry) (e : Entry) → BringRows over ts es → BodyHas over ts e.change.body → BringRows over ts (es ++ e ∷ [])
more-rows over ts es e h now = All-append (λ e. BodyHas over ts e.change.body) es (e ∷ []) h (now, tt)

pub after-fits : (over : Kind) (ts : List (Option SqlType)) (es : List Entry) → BringRows over ts es → IfSome (row_after es) (RowHas ts)
after-fits over ts es h = by (last_or None es) (last-holds (λ e. BodyHas over ts e.change.body) None es tt h)
  where
    by : (o : Option Entry) → IfSome o (λ e. BodyHas over ts e.change.body) → IfSome (option_and_then (λ e. row_in e.change.body) o) (RowHas ts)
    by None h = tt
    by (Some e) h = in-fits over ts e.change.body h

-- a declared table
pub table-fits : (n number : ℕ) (ks ts : List (Option SqlType)) → Gives (IsChangeOf kind.Table ks ts) (IsChangeOf kind.Table ks ts) (gives n (Table number))
unfolding gives
table-fits n number ks ts before past e now =
    body-holds kind.Table (WholeKey ks) ts e.change now.0 (turned (row_after (of_key e.change.key before)) (row_in e.change.body))
    (turned-fits kind.Table table-apart ts (row_after (of_key e.change.key before)) (row_in e.change.body)
    (after-fits kind.Table ts (of_key e.change.key before) (of_key-rows kind.Table ts e.change.key before (bring-rows kind.Table (WholeKey ks) ts before past)))
    (in-fits kind.Table ts e.change.body now.1))

-- ---- select lists

pub values-fit : (over : Kind) (types : List (Option SqlType)) (es : List Typed) (cs : List Column) → AreColumns over types es cs → (row : Row) (time : ℕ) → RowHas types row →
    RowHas (column_types cs) (values es time row)
values-fit over types [] [] sound row time h = tt
values-fit over types [] (c ∷ cs) sound row time h = absurd sound
values-fit over types (e ∷ es) [] sound row time h = absurd sound
values-fit over types (e ∷ es) (c ∷ cs) sound row time h =
    (subst (λ t. Has t (value_of row time e)) sound.1 (typed-has_type row time types h e sound.0.typed), values-fit over types es cs sound.2 row time h)

pub columns-types : (over : Kind) (types : List (Option SqlType)) (es : List Typed) (cs : List Column) → AreColumns over types es cs → map (λ e. e.ty) es ≡ column_types cs
columns-types over types [] [] sound = refl
columns-types over types [] (c ∷ cs) sound = absurd sound
columns-types over types (e ∷ es) [] sound = absurd sound
columns-types over types (e ∷ es) (c ∷ cs) sound = ap₂ (λ (t : Option SqlType) (ts : List (Option SqlType)). t ∷ ts) sound.1 (columns-types over types es cs sound.2)

key_of-fits : (ks : List (Option SqlType)) (cells : List Value) → RowHas ks cells → KeyHas ks (key_of cells)
key_of-fits ks cells h = by (is_key cells) refl
  where
    whole : (cells : List Value) → RowHas ks cells → is_key cells ≡ true → KeyHas ks cells
    whole [] h is = tt
    whole (v ∷ vs) h is = (h, is)

    by : (b : Bool) → is_key cells ≡ b → KeyHas ks (if b then cells else [])
    by true is = whole cells h is
    by false is = tt

-- of a stream the key comes from the row
pub select-said : (n : ℕ) (types : List (Option SqlType)) (ks vs : List Typed) (kcs vcs : List Column) → AreColumns kind.Stream types ks kcs → AreColumns kind.Stream types vs vcs →
    (K : List Value → Type 0) → Gives (Holds kind.Stream K types) (IsChangeOf kind.Stream (column_types kcs) (column_types vcs)) (gives n (Select ks vs))
unfolding gives
select-said n types ks vs kcs vcs kss vss K before past e now = by e.change.body now.1
  where
    by : (body : Body) → BodyHas kind.Stream types body → AllByRecursion (IsChangeOf kind.Stream (column_types kcs) (column_types vcs)) (selected ks vs (record e.change { body = body }))
    by (Said row) h =
        ((key_of-fits (column_types kcs) (values ks e.change.time row) (values-fit kind.Stream types ks kcs kss row e.change.time h), values-fit kind.Stream types vs vcs vss row e.change.time h), tt)
    by (Turned old new) h = absurd h

-- and a table keeps its own
pub select-turned : (n : ℕ) (over : Kind) → (over ≡ kind.Stream → ⊥) → (types : List (Option SqlType)) (ks vs : List Typed) (vcs : List Column) → AreColumns over types vs vcs →
    (K L : List Value → Type 0) → ((key : List Value) → K key → L key) →
    Gives (Holds over K types) (Holds over L (column_types vcs)) (gives n (Select ks vs))
unfolding gives
select-turned n over table types ks vs vcs vss K L keep before past e now =
    body-holds over L (column_types vcs) (record e.change { key = selected_key ks e.change }) (by over table e.change.body now.1) (by_rows (λ row. Some (values vs e.change.time row)) e.change.body)
    (rows-fit (λ row. Some (values vs e.change.time row)) types (column_types vcs) (λ row h. values-fit over types vs vcs vss row e.change.time h) over e.change.body now.1)
  where
    by : (over : Kind) → (over ≡ kind.Stream → ⊥) → (body : Body) → BodyHas over types body → L (selected_key ks (record e.change { body = body }))
    by kind.Stream table body h = absurd (table refl)
    by kind.Table table (Said row) h = absurd h
    by kind.Table table (Turned old new) h = keep e.change.key now.0
    by kind.Windowed table (Said row) h = absurd h
    by kind.Windowed table (Turned old new) h = keep e.change.key now.0

-- ---- a key that stays

cell-behind : (before : List (Option SqlType)) (v : Value) (rest : List Value) → cell (replicate (length before) Null ++ v ∷ rest) (length before) ≡ v
cell-behind [] v rest = refl
cell-behind (t ∷ ts) v rest = cell-behind ts v rest

-- a value of a column's type has the type of an expression that is this column
pub column-has : (before : List (Option SqlType)) (t : Option SqlType) (after : List (Option SqlType)) (e : Typed) → IsTyped (before ++ t ∷ after) e → e.node ≡ form.Column (length before) →
    (v : Value) → Has t v → Has e.ty v
column-has before t after e typed is v h =
    let row : List Value = replicate (length before) Null ++ v ∷ replicate (length after) Null in
    let fit : RowHas (before ++ t ∷ after) row = zip-append before (t ∷ after) (replicate (length before) Null) (v ∷ replicate (length after) Null) (nulls-fit before) (h, nulls-fit after) in
    subst (Has e.ty) (sym (value-column row 0 e (length before) is) ∙ cell-behind before v (replicate (length after) Null)) (typed-has_type row 0 (before ++ t ∷ after) fit e typed)

columns-have : (over : Kind) (before after : List (Option SqlType)) (cs : List Column) (es : List Typed) (outs : List Column) → AreColumnsFrom (length before) cs es →
    AreColumns over (before ++ (column_types cs ++ after)) es outs → (vs : List Value) → RowHas (column_types cs) vs → RowHas (column_types outs) vs
columns-have over before after [] [] [] from sound [] h = tt
columns-have over before after [] [] outs from sound (v ∷ vs) h = absurd h
columns-have over before after [] [] (o ∷ outs) from sound [] h = absurd sound
columns-have over before after [] (e ∷ es) outs from sound vs h = absurd from
columns-have over before after (c ∷ cs) [] outs from sound vs h = absurd from
columns-have over before after (c ∷ cs) (e ∷ es) [] from sound vs h = absurd sound
columns-have over before after (c ∷ cs) (e ∷ es) (o ∷ outs) from sound [] h = absurd h
columns-have over before after (c ∷ cs) (e ∷ es) (o ∷ outs) from sound (v ∷ vs) h = (
  subst (λ t. Has t v) sound.1 (column-has before (Some c.ty) (column_types cs ++ after) e sound.0.typed from.0 v h.0),
  columns-have over (before ++ Some c.ty ∷ []) after cs es outs (subst (λ i. AreColumnsFrom i cs es) (sym (length-append before (Some c.ty ∷ []))) from.1)
      (subst (λ ts. AreColumns over ts es outs) (sym (append_assoc before (Some c.ty ∷ []) (column_types cs ++ after))) sound.2) vs h.1,
)

pub own-key : (over : Kind) (r : Relation) (es : List Typed) (outs : List Column) → AreColumnsFrom 0 r.schema.keys es → AreColumns over (column_types (columns r)) es outs →
    (key : List Value) → WholeKey (column_types r.schema.keys) key → WholeKey (column_types outs) key
own-key over r es outs from sound key h = (
  columns-have over [] (column_types r.schema.values) r.schema.keys es outs from
      (subst (λ ts. AreColumns over ts es outs) (map-append (λ c. Some c.ty) r.schema.keys r.schema.values) sound) key h.0,
  h.1,
)

-- ---- groups

pub group-fits : (n : ℕ) (types : List (Option SqlType)) (es : List Typed) (cs : List Column) → AreColumns kind.Stream types es cs → (K : List Value → Type 0) →
    Gives (Holds kind.Stream K types) (Holds kind.Stream (WholeKey (column_types cs)) types) (gives n (Group es))
unfolding gives
group-fits n types es cs sound K before past e now = by e.change.body now.1
  where
    whole : (key : List Value) → KeyHas (column_types cs) key → (c : Change) → BodyHas kind.Stream types c.body → AllByRecursion (Holds kind.Stream (WholeKey (column_types cs)) types) (rekeyed key c)
    whole [] h c body = tt
    whole (k ∷ ks) h c body = ((h, body), tt)

    by : (body : Body) → BodyHas kind.Stream types body → AllByRecursion (Holds kind.Stream (WholeKey (column_types cs)) types) (gives n (Group es) before (record e { change = record e.change { body = body } }))
    by (Said row) h =
        whole (key_of (values es e.change.time row)) (key_of-fits (column_types cs) (values es e.change.time row) (values-fit kind.Stream types es cs sound row e.change.time h))
        (record e.change { body = Said row }) h
    by (Turned old new) h = absurd h

-- the groups that a table's change touches have whole keys
groups-fit : (types : List (Option SqlType)) (es : List Typed) (cs : List Column) → AreColumns kind.Table types es cs → (c : Change) → BodyHas kind.Table types c.body →
    AllByRecursion (λ d. WholeKey (column_types cs) d.key) (grouped es c)
groups-fit types es cs sound c h = by c.body h
  where
    one-fits : (row : Row) → RowHas types row → IfSome (member es c.time row) (λ m. WholeKey (column_types cs) m.group)
    one-fits row h = key (is_key (values es c.time row)) refl
      where
        key : (b : Bool) → is_key (values es c.time row) ≡ b → IfSome (if b then Some (record { group = values es c.time row; row = row }) else None) (λ (m : Member). WholeKey (column_types cs) m.group)
        key true is = (values-fit kind.Table types es cs sound row c.time h, is)
        key false is = tt

    member-fits : (o : Option Row) → IfSome o (RowHas types) → IfSome (option_and_then (member es c.time) o) (λ m. WholeKey (column_types cs) m.group)
    member-fits None h = tt
    member-fits (Some row) h = one-fits row h

    moved-fits : (d : Change) (old new : Option Member) → IfSome old (λ m. WholeKey (column_types cs) m.group) → IfSome new (λ m. WholeKey (column_types cs) m.group) →
        AllByRecursion (λ x. WholeKey (column_types cs) x.key) (moved d old new)
    moved-fits d None None h k = tt
    moved-fits d (Some l) None h k = (h, tt)
    moved-fits d None (Some r) h k = (k, tt)
    moved-fits d (Some l) (Some r) h k = same (is_same_key l.group r.group)
      where
        same : (b : Bool) → AllByRecursion (λ (x : Change). WholeKey (column_types cs) x.key) (if b then in_group r.group 0 d (Turned (Some l.row) (Some r.row)) ∷ []
            else in_group l.group 0 d (Turned (Some l.row) None) ∷ in_group r.group 1 d (Turned None (Some r.row)) ∷ [])
        same true = (k, tt)
        same false = (h, (k, tt))

    by : (body : Body) → BodyHas kind.Table types body → AllByRecursion (λ d. WholeKey (column_types cs) d.key) (grouped es (record c { body = body }))
    by (Said row) h = absurd h
    by (Turned old new) h =
        moved-fits (record c { body = Turned old new }) (option_and_then (member es c.time) old) (option_and_then (member es c.time) new) (member-fits old h.0) (member-fits new h.1)

-- ---- aggregates

sign-fits : (x t : Option SqlType) → typed (sign_type x) ≡ Some t → (v : Value) → Has x v → Has t v
sign-fits None t is v h = nothing-has t v h
sign-fits (Some sql.Int) t is v h = subst (λ u. Has u v) (same_Some (Some sql.Int) t is) h
sign-fits (Some sql.Big) t is v h = subst (λ u. Has u v) (same_Some (Some sql.Big) t is) h
sign-fits (Some sql.Text) t is v h = absurd (none-some t is)
sign-fits (Some sql.Bool) t is v h = absurd (none-some t is)

extreme-fits : (x : Option SqlType) (test : Ordering → Bool) (best : Value) (vs : List Value) → Has x best → AllByRecursion (Has x) vs → Has x (fold (better test) best vs)
extreme-fits x test best [] h hs = h
extreme-fits x test best (v ∷ vs) h hs = extreme-fits x test (better test best v) vs (by _) hs.1
  where
    by : (b : Bool) → Has x (if b then v else best)
    by true = hs.0
    by false = h

last-fits : (x : Option SqlType) (o : Option Value) (vs : List Value) → Has x (unwrap_or o Null) → AllByRecursion (Has x) vs → Has x (unwrap_or (last_or o vs) Null)
last-fits x o [] h hs = h
last-fits x o (v ∷ vs) h hs = last-fits x (Some v) vs hs.0 hs.1

first-fits : (x : Option SqlType) (vs : List Value) → AllByRecursion (Has x) vs → Has x (first_value vs)
first-fits x [] hs = null-has x
first-fits x (v ∷ vs) hs = by (is_null v) (first-fits x vs hs.1)
  where
    by : (b : Bool) → Has x (first_value vs) → Has x (if b then first_value vs else v)
    by true ih = ih
    by false ih = hs.0

-- the values of an argument
abbrev ArgumentsHave : Option (Option SqlType) → List Value → Type 0
ArgumentsHave None vs = Unit {0}
ArgumentsHave (Some x) vs = AllByRecursion (Has x) vs

aggregate-fits : (f : AggFun) (arg : Option (Option SqlType)) (t : Option SqlType) → agg_type f arg ≡ Some t → (vs : List Value) → ArgumentsHave arg vs → Has t (aggregate f t vs)
aggregate-fits CountAll arg t is vs h = number-has t _
aggregate-fits Count arg t is vs h = number-has t _
aggregate-fits Sum arg t is vs h = number-has t _
aggregate-fits Min None t is vs h = absurd (none-some t is)
aggregate-fits Min (Some x) t is vs h = sign-fits x t is (extreme is_lt (present vs)) (extreme-fits x is_lt Null (present vs) (null-has x) (All-filter (Has x) _ vs h))
aggregate-fits Max None t is vs h = absurd (none-some t is)
aggregate-fits Max (Some x) t is vs h = sign-fits x t is (extreme is_gt (present vs)) (extreme-fits x is_gt Null (present vs) (null-has x) (All-filter (Has x) _ vs h))
aggregate-fits Latest None t is vs h = absurd (none-some t is)
aggregate-fits Latest (Some x) t is vs h = subst (λ u. Has u (aggregate Latest t vs)) (same_Some x t is) (last-fits x None (present vs) (null-has x) (All-filter (Has x) _ vs h))
aggregate-fits Earliest None t is vs h = absurd (none-some t is)
aggregate-fits Earliest (Some x) t is vs h = subst (λ u. Has u (aggregate Earliest t vs)) (same_Some x t is) (first-fits x vs h)

-- the rows that entries bring
entered-fit : (over : Kind) (types : List (Option SqlType)) (es : List Entry) → BringRows over types es → AllByRecursion (λ (d : Dated). RowHas types d.row) (entered es)
entered-fit over types [] h = tt
entered-fit over types (e ∷ es) h =
    All-append (λ (d : Dated). RowHas types d.row) (dated e.change.time (row_in e.change.body)) (entered es) (by (row_in e.change.body) (in-fits over types e.change.body h.0)) (entered-fit over types es h.1)
  where
    by : (o : Option Row) → IfSome o (RowHas types) → AllByRecursion (λ (d : Dated). RowHas types d.row) (dated e.change.time o)
    by None h = tt
    by (Some row) h = (h, tt)

arguments-fit : (over : Kind) (types : List (Option SqlType)) (arg : Option Typed) → IsArgument over types arg → (rows : List Dated) → AllByRecursion (λ (d : Dated). RowHas types d.row) rows →
    ArgumentsHave (argument_type arg) (arguments arg rows)
arguments-fit over types None sound rows h = tt
arguments-fit over types (Some e) sound rows h =
    All-map (Has e.ty) (argument (Some e)) rows
    (All-weaker (λ (d : Dated). RowHas types d.row) (λ d. Has e.ty (argument (Some e) d)) (λ d fit. typed-has_type d.row d.time types fit e sound.typed) rows h)

type-is : (a : Agg) (t : Option SqlType) → agg_type a.fun (argument_type a.arg) ≡ Some t → type_of_agg a ≡ t
type-is a t is = by a.arg is
  where
    by : (arg : Option Typed) → agg_type a.fun (argument_type arg) ≡ Some t → unwrap_or (agg_type a.fun (option_map (λ e. e.ty) arg)) None ≡ t
    by None is = ap (λ o. unwrap_or o None) is
    by (Some e) is = ap (λ o. unwrap_or o None) is

-- the values of aggregates over rows
worths-fit : (over : Kind) (types : List (Option SqlType)) {aggs : List Agg} {ats : List (Option SqlType)} → Aggregates over types aggs ats → (rows : List Dated) →
    AllByRecursion (λ (d : Dated). RowHas types d.row) rows → RowHas ats (map (λ a. aggregate a.fun (type_of_agg a) (arguments a.arg rows)) aggs)
worths-fit over types none rows h = tt
worths-fit over types (more {a = a} {t = t} _ argument is rest) rows h = (
  subst (λ ty. Has t (aggregate a.fun ty (arguments a.arg rows))) (sym (type-is a t is))
      (aggregate-fits a.fun (argument_type a.arg) t is (arguments a.arg rows) (arguments-fit over types a.arg argument rows h)),
  worths-fit over types rest rows h,
)

unless-fits : (ts : List (Option SqlType)) (es : List Entry) (row : Row) → RowHas ts row → IfSome (unless_none es row) (RowHas ts)
unless-fits ts [] row h = tt
unless-fits ts (e ∷ es) row h = h

-- the cells of a group's window
abbrev CellsFit : Option Window → Option Span → Type 0
CellsFit w span = RowHas (window_types w) (window_cells span)

module _ (types ks : List (Option SqlType)) {aggs : List Agg} {ats : List (Option SqlType)} (sound : Aggregates kind.Stream types aggs ats) where
  outcome-fits : (w : Option Window) (span : Option Span) → CellsFit w span → (key : List Value) → RowHas ks key → (es : List Entry) → BringRows kind.Stream types es →
      IfSome (outcome kind.Stream aggs key span es) (RowHas (ks ++ ats ++ window_types w))
  outcome-fits w span cells key k es h =
      unless-fits (ks ++ ats ++ window_types w) es (key ++ map (worth kind.Stream es) aggs ++ window_cells span)
      (zip-append (ks ++ ats) (window_types w) (key ++ map (worth kind.Stream es) aggs) (window_cells span)
      (zip-append ks ats key (map (worth kind.Stream es) aggs) k (worths-fit kind.Stream types sound (entered es) (entered-fit kind.Stream types es h))) cells)

  -- a group's change turns rows, as a table's does
  group-change-fits : (w : Option Window) (span : Option Span) → CellsFit w span → (mine : List Entry) → BringRows kind.Stream types mine → (e : Entry) → Holds kind.Stream (WholeKey ks) types e.change →
      IsChangeOf kind.Table ks (ks ++ ats ++ window_types w) (group_change kind.Stream aggs span mine e)
  group-change-fits w span cells mine olds e now =
      (now.0, (outcome-fits w span cells e.change.key now.0.0 mine olds, outcome-fits w span cells e.change.key now.0.0 (mine ++ e ∷ []) (more-rows kind.Stream types mine e olds now.1)))

  window-change-fits : (w : Window) (before : List Timed) → AllByRecursion (λ t. BodyHas kind.Stream types t.entry.change.body) before → (t : Timed) → Holds kind.Stream (WholeKey ks) types t.entry.change →
      (p : ℕ × Span) → AllByRecursion (IsChangeOf kind.Windowed ks (ks ++ ats ++ window_types (Some w))) (window_change kind.Stream aggs w before t p)
  window-change-fits w before olds t now (i, span) = by (is_added w span t)
    where
      mine : List Entry
      mine = added w span t.entry.change.key before

      fits : IsChangeOf kind.Table ks (ks ++ ats ++ window_types (Some w)) (group_change kind.Stream aggs (Some span) mine t.entry)
      fits =
          group-change-fits (Some w) (Some span) (refl, (refl, tt)) mine
          (All-map (λ e. BodyHas kind.Stream types e.change.body) (λ (t : Timed). t.entry) (filter _ before) (All-filter (λ t. BodyHas kind.Stream types t.entry.change.body) _ before olds)) t.entry now

      by : (b : Bool) →
          AllByRecursion (IsChangeOf kind.Windowed ks (ks ++ ats ++ window_types (Some w)))
          (if b then at_path (t.entry.change.place.path ++ i ∷ []) (group_change kind.Stream aggs (Some span) mine t.entry) ∷ [] else [])
      by true = (fits, tt)
      by false = tt

  pub aggregate-filled : (n : ℕ) (w : Option Window) → Gives (Holds kind.Stream (WholeKey ks) types) (IsChangeOf (grouped_kind w) ks (ks ++ ats ++ window_types w)) (gives n (Aggregate kind.Stream aggs w))
  unfolding gives
  aggregate-filled n None before past e now =
      (group-change-fits None None tt (of_key e.change.key before) (of_key-rows kind.Stream types e.change.key before (bring-rows kind.Stream (WholeKey ks) types before past)) e now, tt)
  aggregate-filled n (Some w) before past e now =
      All-flat_map (IsChangeOf kind.Windowed ks (ks ++ ats ++ window_types (Some w))) (window_change kind.Stream aggs w (with_times n before) (timed n before e)) (λ p. Unit {0})
      (λ p _. window-change-fits w (with_times n before) (timed-hold (λ e. BodyHas kind.Stream types e.change.body) n [] before (bring-rows kind.Stream (WholeKey ks) types before past)) (timed n before e) now p)
      (enumerate_from 0 (windows_of w e.change.time)) (All-of (enumerate_from 0 (windows_of w e.change.time)) (λ p. tt))

-- a grouped result is no stream
pub grouped-apart : (w : Option Window) → grouped_kind w ≡ kind.Stream → ⊥
grouped-apart None is = table-apart is
grouped-apart (Some w) is = windowed-apart is

-- the latest entries are among all
standing-rows : (over : Kind) (ts : List (Option SqlType)) (es : List Entry) → BringRows over ts es → BringRows over ts (standing es)
standing-rows over ts [] h = tt
standing-rows over ts (e ∷ es) h = by (list_any (λ later. is_same_key e.change.key later.change.key) es) (standing-rows over ts es h.1)
  where
    by : (b : Bool) → BringRows over ts (standing es) → BringRows over ts (if b then standing es else e ∷ standing es)
    by true ih = ih
    by false ih = (h.0, ih)

pub table-aggregate-filled : (types : List (Option SqlType)) (es : List Typed) (cs : List Column) → AreColumns kind.Table types es cs →
    {aggs : List Agg} {ats : List (Option SqlType)} → Aggregates kind.Table types aggs ats → (K : List Value → Type 0) →
    Gives (Holds kind.Table K types) (IsChangeOf kind.Table (column_types cs) (column_types cs ++ ats ++ [])) (aggregate_of_table es aggs)
table-aggregate-filled types es cs keys {aggs = aggs} {ats = ats} sound K before past e now =
    All-map (IsChangeOf kind.Table (column_types cs) (column_types cs ++ ats ++ [])) (held_change es aggs before e) (grouped es e.change)
    (All-weaker (λ (c : Change). WholeKey (column_types cs) c.key) (λ c. IsChangeOf kind.Table (column_types cs) (column_types cs ++ ats ++ []) (held_change es aggs before e c))
    (λ c key. (key, (outcome-fits c.key key before olds, outcome-fits c.key key (before ++ e ∷ []) (more-rows kind.Table types before e olds now.1))))
    (grouped es e.change) (groups-fit types es cs keys e.change now.1))
  where
    olds : BringRows kind.Table types before
    olds = bring-rows kind.Table K types before past

    outcome-fits : (group : List Value) → WholeKey (column_types cs) group → (xs : List Entry) → BringRows kind.Table types xs →
        IfSome (held_outcome es aggs group xs) (RowHas (column_types cs ++ ats ++ []))
    outcome-fits group key xs h =
        let rows : List Entry = filter (λ e. is_in es group e.change.time (row_in e.change.body)) (standing xs) in
        unless-fits (column_types cs ++ ats ++ []) (touching es group xs) (group ++ map (held_worth es group xs) aggs)
        (subst (λ ts. RowHas ts (group ++ map (held_worth es group xs) aggs)) (sym (append-nil (column_types cs ++ ats)))
        (zip-append (column_types cs) ats group (map (held_worth es group xs) aggs) key.0
        (worths-fit kind.Table types sound (held es group xs)
        (entered-fit kind.Table types rows (All-filter (λ e. BodyHas kind.Table types e.change.body) _ (standing xs) (standing-rows kind.Table types xs h))))))
