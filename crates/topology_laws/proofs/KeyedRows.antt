-- Rows that begin with the cells of their key, and changes that are in the group of their key.
use Rattle.std.proofs.Common.{◌≡◌, ◌∙◌, ap, ap₂, refl, sym, subst, ℕ, zero, suc, ◌+◌, List, [], ◌∷◌, ◌++◌, length, length-append, append_assoc, replicate, Bool, true, false, true≢false, arith}
use Rattle.std.specs.Prelude.{◌&&◌, if◌then◌else◌, Option, Some, None, option_and_then, option_map, IfSome}
use Rattle.std.specs.List.{AllByRecursion}
use Rattle.std.proofs.lemmas.Bool.{and_parts}
use Rattle.std.proofs.lemmas.List.{length-map, length-replicate}
use Rattle.std.proofs.lemmas.Slice.Zip.{AllZip-long}
use Rattle.ksql_types.specs.Columns.{columns}
use Rattle.ksql_types.specs.Key.{IsKey, is_key}
use Rattle.ksql_types.specs.declared.relation.Kind.{Kind}
use Rattle.ksql_types.specs.declared.relation.Kind.TheVariants as kind
use Rattle.ksql_types.specs.declared.relation.Relation.{Relation}
use Rattle.ksql_types.specs.declared.value.SqlType.{SqlType}
use Rattle.ksql_types.specs.declared.value.Value.{Value}
use Rattle.ksql_types.specs.declared.value.Value.TheVariants.{Null}
use Rattle.ksql_place.specs.Said.{row_in}
use Rattle.ksql_place.specs.declared.change.Body.{Body}
use Rattle.ksql_place.specs.declared.change.Body.TheVariants.{Said, Turned}
use Rattle.ksql_place.specs.declared.change.Change.{Change}
use Rattle.ksql_expr.specs.Value.{is_true_value, value_of}
use Rattle.ksql_expr.specs.declared.typed.Typed.{Typed}
use Rattle.ksql_expr.specs.declared.typed.TypedNode.TheVariants as form
use Rattle.grouped_expressions.proofs.Equality.{equal}
use Rattle.ksql_program.specs.Sound.{column_types}
use Rattle.ksql_nodes.specs.declared.node.Node.TheVariants.{Filter}
use Rattle.ksql_nodes.specs.Entries.{Row}
use Rattle.ksql_nodes.specs.Nodes.{gives}
use Rattle.ksql_nodes.specs.Rows.{by_rows, key_of, passing, turned, values, with_body}
use Rattle.query_meaning.specs.Queries.{key_cells, with_key_cells}
use Rattle.meaning_laws.proofs.RowTypes.{IsChangeOf, KeyHas, RowHas, WholeKey, whole-filled}
use Rattle.meaning_laws.proofs.Sizes.{Gives}
use Rattle.meaning_laws.proofs.TypedValues.{Has}
use Rattle.topology.specs.Stages.{are_columns_from, is_column}
use Rattle.lane_laws.specs.Lanes.{IsInOwnGroup}
use Rattle.sending_laws.proofs.ColumnValues.{value-at}

-- ---- changes in their groups

module _ (keys : List Typed) (c : Change) where
  -- a change with another body
  pub body-grouped : (o : Option Body) → IfSome o (λ body. IsInOwnGroup keys (record c { body = body })) → AllByRecursion (IsInOwnGroup keys) (with_body c o)
  body-grouped None h = tt
  body-grouped (Some body) h = (h, tt)

  -- a row whose group is the change's key
  abbrev pub IsGrouped : Row → Type 0
  IsGrouped row = values keys c.time row ≡ c.key

  pub turned-grouped : is_key c.key ≡ true → (old new : Option Row) → IfSome old IsGrouped → IfSome new IsGrouped → IfSome (turned old new) (λ body. IsInOwnGroup keys (record c { body = body }))
  turned-grouped key None None h k = tt
  turned-grouped key None (Some y) h k = (key, h, k)
  turned-grouped key (Some x) None h k = (key, h, k)
  turned-grouped key (Some x) (Some y) h k = (key, h, k)

-- a condition leaves rows in their groups
pub filter-grouped : (n : ℕ) (on : Typed) (keys : List Typed) → Gives (IsInOwnGroup keys) (IsInOwnGroup keys) (gives n (Filter on))
unfolding gives
filter-grouped n on keys before past e now = body-grouped keys e.change (by_rows (passing on e.change.time) e.change.body) (by e.change.body now)
  where
    each : (o : Option Row) → IfSome o (IsGrouped keys e.change) → IfSome (option_and_then (passing on e.change.time) o) (IsGrouped keys e.change)
    each None h = tt
    each (Some row) h = passed (is_true_value (value_of row e.change.time on))
      where
        passed : (b : Bool) → IfSome (if b then Some row else None) (IsGrouped keys e.change)
        passed true = h
        passed false = tt

    by : (body : Body) → IsInOwnGroup keys (record e.change { body = body }) → IfSome (by_rows (passing on e.change.time) body) (λ b. IsInOwnGroup keys (record e.change { body = b }))
    by (Said row) h = passed (is_true_value (value_of row e.change.time on))
      where
        passed : (b : Bool) → IfSome (option_map (λ r. Said r) (if b then Some row else None)) (λ b. IsInOwnGroup keys (record e.change { body = b }))
        passed true = h
        passed false = tt
    by (Turned old new) h = turned-grouped keys e.change h.0 (option_and_then (passing on e.change.time) old) (option_and_then (passing on e.change.time) new) (each old h.1) (each new h.2)

-- ---- one relation

-- the values of consecutive columns are the cells at their places
columns-values : (before cells row : List Value) (time : ℕ) (keys : List Typed) → are_columns_from (length before) (length cells) keys ≡ true → values keys time (before ++ (cells ++ row)) ≡ cells
columns-values before [] row time [] own = refl
columns-values before [] row time (e ∷ es) own = absurd (true≢false (sym own))
columns-values before (v ∷ cells) row time [] own = absurd (true≢false (sym own))
columns-values before (v ∷ cells) row time (e ∷ es) own =
    let parts = and_parts (is_column (length before) e) (are_columns_from (length before + 1) (length cells) es) own in
    ap₂ (λ (x : Value) (xs : List Value). x ∷ xs) (value-at before v (cells ++ row) time e (equal e.node (form.Column (length before)) parts.0))
    (subst (λ whole. values es time whole ≡ cells) (append_assoc before (v ∷ []) (cells ++ row))
    (columns-values (before ++ v ∷ []) cells row time es (subst (λ i. are_columns_from i (length cells) es ≡ true) (sym (length-append before (v ∷ []))) parts.1)))

nulls-unkeyed : (k : ℕ) → key_of (replicate k Null) ≡ []
nulls-unkeyed zero = refl
nulls-unkeyed (suc k) = by _
  where
    by : (b : Bool) → (if b && false then Null ∷ replicate k Null else []) ≡ []
    by true = refl
    by false = refl

whole-cells : (k : ℕ) (key : List Value) → length key ≡ k → key_cells k key ≡ key
whole-cells k [] long = ap (λ m. replicate m Null) (sym long)
whole-cells k (v ∷ vs) long = refl

-- the key of a key is itself
pub key_of-key : (key : List Value) → IsKey key → key_of key ≡ key
key_of-key key is = ap (λ b. if b then key else []) is

module _ (r : Relation) (keys : List Typed) (own : are_columns_from 0 (length r.schema.keys) keys ≡ true) where
  cells-values : (cells row : List Value) (time : ℕ) → length cells ≡ length r.schema.keys → values keys time (cells ++ row) ≡ cells
  cells-values cells row time long = columns-values [] cells row time keys (subst (λ k. are_columns_from 0 k keys ≡ true) (sym long) own)

  key-values : (key row : List Value) (time : ℕ) → RowHas (column_types r.schema.keys) key → values keys time (key_cells (length r.schema.keys) key ++ row) ≡ key
  key-values key row time fit =
      let long : length key ≡ length r.schema.keys = AllZip-long Has (column_types r.schema.keys) key fit ∙ length-map r.schema.keys (λ c. Some c.ty) in
      subst (λ cells. values keys time (cells ++ row) ≡ key) (sym (whole-cells (length r.schema.keys) key long)) (cells-values key row time long)

  said-key : (key row : List Value) (time : ℕ) → KeyHas (column_types r.schema.keys) key → key_of (values keys time (key_cells (length r.schema.keys) key ++ row)) ≡ key
  said-key [] row time fit =
      let nulls : List Value = replicate (length r.schema.keys) Null in
      ap key_of (cells-values nulls row time (length-replicate (length r.schema.keys) Null)) ∙ nulls-unkeyed (length r.schema.keys)
  said-key (v ∷ vs) row time fit = ap key_of (key-values (v ∷ vs) row time fit.0) ∙ key_of-key (v ∷ vs) fit.1

  turned-key : (key : List Value) (time : ℕ) → WholeKey (column_types r.schema.keys) key → (o : Option Row) →
      IfSome (option_map (λ row. key_cells (length r.schema.keys) key ++ row) o) (λ row. values keys time row ≡ key)
  turned-key key time fit None = tt
  turned-key key time fit (Some row) = key-values key row time fit.0

  -- a change of a relation is in the group of its key columns
  pub whole-grouped : (over : Kind) (c : Change) → IsChangeOf over (column_types r.schema.keys) (column_types r.schema.values) c → IsInOwnGroup keys (with_key_cells (length r.schema.keys) c)
  whole-grouped over c h = by over c.body h
    where
      by : (over : Kind) (body : Body) → IsChangeOf over (column_types r.schema.keys) (column_types r.schema.values) (record c { body = body }) →
          IsInOwnGroup keys (with_key_cells (length r.schema.keys) (record c { body = body }))
      by kind.Stream (Said row) h = said-key c.key row c.time h.0
      by kind.Stream (Turned old new) h = absurd h.1
      by kind.Table (Said row) h = absurd h.1
      by kind.Table (Turned old new) h = (h.0.1, turned-key c.key c.time h.0 old, turned-key c.key c.time h.0 new)
      by kind.Windowed (Said row) h = absurd h.1
      by kind.Windowed (Turned old new) h = (h.0.1, turned-key c.key c.time h.0 old, turned-key c.key c.time h.0 new)

-- ---- tables with one key column

-- a key of one value
abbrev pub IsOneKey : List Value → Type 0
IsOneKey (k ∷ []) = IsKey (k ∷ [])
IsOneKey _ = ⊥

pub one-key : (key : List Value) → IsOneKey key → IsKey key
one-key [] h = absurd h
one-key (k ∷ []) h = h
one-key (k ∷ j ∷ ks) h = absurd h

-- a row whose first cell is the key
abbrev pub BeginsWith : List Value → Row → Type 0
BeginsWith (k ∷ []) (v ∷ vs) = v ≡ k
BeginsWith _ _ = ⊥

pub begins-itself : (key : List Value) → IsOneKey key → BeginsWith key key
begins-itself [] h = absurd h
begins-itself (k ∷ []) h = refl
begins-itself (k ∷ j ∷ ks) h = absurd h

pub begins-more : (key row rest : List Value) → BeginsWith key row → BeginsWith key (row ++ rest)
begins-more [] row rest h = absurd h
begins-more (k ∷ []) [] rest h = absurd h
begins-more (k ∷ []) (v ∷ vs) rest h = h
begins-more (k ∷ j ∷ ks) row rest h = absurd h

-- the column where such a row begins is worth the key
pub begins-at : (before key row : List Value) (time : ℕ) (e : Typed) → BeginsWith key row → e.node ≡ form.Column (length before) → values (e ∷ []) time (before ++ row) ≡ key
begins-at before [] row time e h is = absurd h
begins-at before (k ∷ []) [] time e h is = absurd h
begins-at before (k ∷ []) (v ∷ vs) time e h is = ap (λ (x : Value). x ∷ []) (value-at before v vs time e is ∙ h)
begins-at before (k ∷ j ∷ ks) row time e h is = absurd h

-- a row of these types that begins with a key
abbrev pub IsKeyedRow : List (Option SqlType) → List Value → Row → Type 0
IsKeyedRow ts key row = RowHas ts row × BeginsWith key row

-- a change of a table with one key column
abbrev pub IsKeyedChange : List (Option SqlType) → Change → Type 0
IsKeyedChange ts c = IsOneKey c.key × IfSome (row_in c.body) (IsKeyedRow ts c.key)

cells-begin : (k : ℕ) (key row : List Value) → IsOneKey key → BeginsWith key (key_cells k key ++ row)
cells-begin k [] row h = absurd h
cells-begin k (v ∷ []) row h = refl
cells-begin k (v ∷ w ∷ vs) row h = absurd h

one-long : (key : List Value) → length key ≡ 1 → IsKey key → IsOneKey key
one-long [] long h = absurd (omega (arith, long))
one-long (k ∷ []) long h = h
one-long (k ∷ j ∷ ks) long h = absurd (omega (arith, long))

pub whole-keyed : (r : Relation) → length r.schema.keys ≡ 1 → (c : Change) → IsChangeOf kind.Table (column_types r.schema.keys) (column_types r.schema.values) c →
    IsKeyedChange (column_types (columns r)) (with_key_cells (length r.schema.keys) c)
whole-keyed r one c h = (key, by c.body h)
  where
    key : IsOneKey c.key
    key = one-long c.key (AllZip-long Has (column_types r.schema.keys) c.key h.0.0 ∙ length-map r.schema.keys (λ c. Some c.ty) ∙ one) h.0.1

    by : (body : Body) → IsChangeOf kind.Table (column_types r.schema.keys) (column_types r.schema.values) (record c { body = body }) →
        IfSome (row_in (with_key_cells (length r.schema.keys) (record c { body = body })).body) (IsKeyedRow (column_types (columns r)) c.key)
    by (Said row) h = absurd h.1
    by (Turned old None) h = tt
    by (Turned old (Some row)) h = ((whole-filled kind.Table r (record c { body = Turned old (Some row) }) h).1.1, cells-begin (length r.schema.keys) c.key row key)
