-- What joins make of rows and keys with values of given types.
use Rattle.std.proofs.Common.{◌≡◌, ◌∙◌, ap, ap₂, refl, sym, subst, ℕ, ◌+◌, List, [], ◌∷◌, ◌++◌, length, length-append, Bool, true, false, inl, inr, true≢false, arith}
use Rattle.std.proofs.lemmas.List.{append-nil, length-map}
use Rattle.std.specs.Prelude.{◌==◌, ◌⊎◌, max, flat_map, take, if◌then◌else◌, Option, Some, None, option_map, option_and_then, IfSome}
use Rattle.std.specs.List.{AllByRecursion}
use Rattle.ksql_types.specs.Columns.{columns}
use Rattle.ksql_types.specs.declared.relation.Column.{Column}
use Rattle.ksql_types.specs.declared.relation.Kind.TheVariants as kind
use Rattle.ksql_types.specs.declared.relation.Relation.{Relation}
use Rattle.ksql_types.specs.declared.value.SqlType.{SqlType}
use Rattle.ksql_types.specs.declared.value.Value.{Value}
use Rattle.ksql_place.specs.Said.{row_in, row_out}
use Rattle.ksql_place.specs.declared.change.Body.TheVariants.{Said}
use Rattle.ksql_place.specs.declared.change.Change.{Change}
use Rattle.ksql_expr.specs.Typing.{IsTyped}
use Rattle.ksql_expr.specs.declared.typed.Typed.{Typed}
use Rattle.ksql_expr.specs.declared.typed.TypedNode.TheVariants as form
use Rattle.ksql_program.specs.Sound.{AreColumns, IsTablesKey, column_types, row_key, rowkey_types}
use Rattle.ksql_program.specs.declared.query.JoinKind.{JoinKind}
use Rattle.ksql_program.specs.declared.query.JoinKind.TheVariants.{Inner, Left, Full}
use Rattle.ksql_nodes.specs.declared.node.Node.TheVariants.{JoinStreamTable, JoinTables}
use Rattle.ksql_nodes.specs.declared.node.Side.{Side}
use Rattle.ksql_nodes.specs.Entries.{Entry, Row, of_key, of_side, row_after, time_after}
use Rattle.ksql_nodes.specs.Joins.{join_key, join_row, join_tables, joined, or_nulls, rekeyed, side_step}
use Rattle.ksql_nodes.specs.Nodes.{gives}
use Rattle.ksql_nodes.specs.Rows.{at_path, turned}
use Rattle.meaning_laws.proofs.Lists.{All-both, All-filter, All-passes, All-weaker}
use Rattle.meaning_laws.proofs.RowTypes.{BodyHas, Holds, RowHas, WholeKey, after-fits, body-holds, bring-rows, column-has, in-fits, nulls-fit, table-apart, turned-fits, zip-append}
use Rattle.meaning_laws.proofs.Sizes.{All-flat_map, GivesFor}

-- ---- the entries of two sides

-- the facts about the changes of each side
abbrev pub IsOfSides : (A B : Change → Type 0) → Entry → Type 0
IsOfSides A B e = ((e.side ≡ 0) × A e.change) ⊎ ((e.side ≡ 1) × B e.change)

module _ (A B : Change → Type 0) (es : List Entry) (all : AllByRecursion (IsOfSides A B) es) where
  sided : (side : ℕ) → AllByRecursion (λ e. IsOfSides A B e × ((e.side == side) ≡ true)) (of_side side es)
  sided side =
      All-both (IsOfSides A B) (λ e. (e.side == side) ≡ true) (of_side side es) (All-filter (IsOfSides A B) (λ e. e.side == side) es all) (All-passes (λ e. e.side == side) es)

  -- the changes of each side among them
  lefts : AllByRecursion (λ e. A e.change) (of_side 0 es)
  lefts = All-weaker (λ e. IsOfSides A B e × ((e.side == 0) ≡ true)) (λ e. A e.change) (λ e h. by e h.0 h.1) (of_side 0 es) (sided 0)
    where
      by : (e : Entry) → IsOfSides A B e → (e.side == 0) ≡ true → A e.change
      by e (inl h) same = h.1
      by e (inr h) same = absurd (true≢false (sym same ∙ ap (λ s. s == 0) h.0))

  rights : AllByRecursion (λ e. B e.change) (of_side 1 es)
  rights = All-weaker (λ e. IsOfSides A B e × ((e.side == 1) ≡ true)) (λ e. B e.change) (λ e h. by e h.0 h.1) (of_side 1 es) (sided 1)
    where
      by : (e : Entry) → IsOfSides A B e → (e.side == 1) ≡ true → B e.change
      by e (inl h) same = absurd (true≢false (sym same ∙ ap (λ s. s == 1) h.0))
      by e (inr h) same = h.1

-- ---- joined rows

or_nulls-fits : (side : Side) (ts : List (Option SqlType)) → side.columns ≡ length ts → (o : Option Row) → IfSome o (RowHas ts) → RowHas ts (or_nulls side o)
or_nulls-fits side ts wide None h = subst (λ n. RowHas ts (or_nulls (record side { columns = n }) None)) (sym wide) (nulls-fit ts)
or_nulls-fits side ts wide (Some row) h = h

module _ (left : Relation) (l r : Side) (lts rts : List (Option SqlType)) (wide_left : l.columns ≡ length lts) (wide_right : r.columns ≡ length rts) where
  -- the columns of a joined row
  abbrev pub both_types : JoinKind → List (Option SqlType)
  both_types k = lts ++ rts ++ rowkey_types k left

  without_key : (row : Row) → RowHas (lts ++ rts) row → RowHas (lts ++ rts ++ []) row
  without_key row h = subst (λ ts. RowHas ts row) (sym (append-nil (lts ++ rts))) h

  joined-fits : (k : JoinKind) (key : List Value) → (k ≡ Full → RowHas (row_key left) key) → (lo ro : Option Row) → IfSome lo (RowHas lts) → IfSome ro (RowHas rts) →
      IfSome (joined k l r key lo ro) (RowHas (both_types k))
  joined-fits Inner key ends None ro h k = tt
  joined-fits Inner key ends (Some x) None h k = tt
  joined-fits Inner key ends (Some x) (Some y) h k = without_key (x ++ y) (zip-append lts rts x y h k)
  joined-fits Left key ends None ro h k = tt
  joined-fits Left key ends (Some x) ro h k = without_key (x ++ or_nulls r ro) (zip-append lts rts x (or_nulls r ro) h (or_nulls-fits r rts wide_right ro k))
  joined-fits Full key ends (Some x) ro h k =
      zip-append (lts ++ rts) (row_key left) (x ++ or_nulls r ro) key (zip-append lts rts x (or_nulls r ro) h (or_nulls-fits r rts wide_right ro k)) (ends refl)
  joined-fits Full key ends None None h k = tt
  joined-fits Full key ends None (Some y) h k =
      zip-append (lts ++ rts) (row_key left) (or_nulls l None ++ y) key (zip-append lts rts (or_nulls l None) y (or_nulls-fits l lts wide_left None tt) k) (ends refl)

  -- ---- a stream and a table

  -- the key of a joined change may be anything: later steps take one from the row
  module _ (k : JoinKind) (partial : k ≡ Full → ⊥) (on : Typed) (K L : List Value → Type 0) where
    abbrev IsInStream : Entry → Type 0
    IsInStream = IsOfSides (Holds kind.Stream K lts) (Holds kind.Table L rts)

    abbrev IsJoinedSaid : Change → Type 0
    IsJoinedSaid = Holds kind.Stream (λ key. Unit {0}) (both_types k)

    row-joined : (before : List Entry) → AllByRecursion IsInStream before → (c : Change) → BodyHas kind.Stream lts c.body → AllByRecursion IsJoinedSaid (join_row k l r before c)
    row-joined before past c h =
        body-holds kind.Stream (λ key. Unit {0}) (both_types k) c tt _
        (by (joined k l r [] (row_in c.body) (row_after (of_side 1 (of_key c.key before))))
        (joined-fits k [] (λ is. absurd (partial is)) (row_in c.body) (row_after (of_side 1 (of_key c.key before))) (in-fits kind.Stream lts c.body h)
        (after-fits kind.Table rts (of_side 1 (of_key c.key before))
        (bring-rows kind.Table L rts (of_side 1 (of_key c.key before))
        (rights (Holds kind.Stream K lts) (Holds kind.Table L rts) (of_key c.key before) (All-filter IsInStream _ before past))))))
      where
        by : (o : Option Row) → IfSome o (RowHas (both_types k)) → IfSome (option_map (λ row. Said row) o) (BodyHas kind.Stream (both_types k))
        by None h = tt
        by (Some row) h = h

    rekeyed-rows : (key : List Value) (c : Change) → BodyHas kind.Stream lts c.body → AllByRecursion (λ d. BodyHas kind.Stream lts d.body) (rekeyed key c)
    rekeyed-rows [] c h = tt
    rekeyed-rows (x ∷ xs) c h = (h, tt)

    pub stream-joined : (n : ℕ) → GivesFor IsInStream IsJoinedSaid (gives n (JoinStreamTable k on l r))
    unfolding gives
    stream-joined n before past e now = by (e.side == 0) refl now
      where
        cs : List Change
        cs = flat_map (join_row k l r before) (rekeyed (join_key on e.change) e.change)

        by : (b : Bool) → (e.side == 0) ≡ b → IsInStream e → AllByRecursion IsJoinedSaid (if b then cs else [])
        by true is (inl h) =
            All-flat_map IsJoinedSaid (join_row k l r before) (λ d. BodyHas kind.Stream lts d.body) (row-joined before past) (rekeyed (join_key on e.change) e.change)
            (rekeyed-rows (join_key on e.change) e.change h.1.1)
        by true is (inr h) = absurd (true≢false (sym is ∙ ap (λ s. s == 0) h.0))
        by false is h = tt

  -- ---- two tables

  module _ (k : JoinKind) where
    abbrev IsInTables : Entry → Type 0
    IsInTables = IsOfSides (Holds kind.Table (WholeKey (row_key left)) lts) (Holds kind.Table (WholeKey (row_key left)) rts)

    abbrev IsJoinedTurned : Change → Type 0
    IsJoinedTurned = Holds kind.Table (WholeKey (row_key left)) (both_types k)

    -- each of the rows of a side gives a joined row
    turned-joined : (own : List (Option SqlType)) (f : Option Row → Option Row) → ((o : Option Row) → IfSome o (RowHas own) → IfSome (f o) (RowHas (both_types k))) →
        (old new : Option Row) → IfSome old (RowHas own) → IfSome new (RowHas own) →
        IfSome (option_and_then (λ body. turned (f (row_out body)) (f (row_in body))) (turned old new)) (BodyHas kind.Table (both_types k))
    turned-joined own f fit None None h g = tt
    turned-joined own f fit None (Some y) h g = turned-fits kind.Table table-apart (both_types k) (f None) (f (Some y)) (fit None h) (fit (Some y) g)
    turned-joined own f fit (Some x) None h g = turned-fits kind.Table table-apart (both_types k) (f (Some x)) (f None) (fit (Some x) h) (fit None g)
    turned-joined own f fit (Some x) (Some y) h g = turned-fits kind.Table table-apart (both_types k) (f (Some x)) (f (Some y)) (fit (Some x) h) (fit (Some y) g)

    pub tables-joined : (n : ℕ) → GivesFor IsInTables IsJoinedTurned (gives n (JoinTables k l r))
    unfolding gives
    tables-joined n before past e now = by now
      where
        A : Change → Type 0
        A = Holds kind.Table (WholeKey (row_key left)) lts

        B : Change → Type 0
        B = Holds kind.Table (WholeKey (row_key left)) rts

        key : List Value
        key = e.change.key

        left_row : IfSome (row_after (of_side 0 (of_key key before))) (RowHas lts)
        left_row =
            after-fits kind.Table lts (of_side 0 (of_key key before))
            (bring-rows kind.Table (WholeKey (row_key left)) lts (of_side 0 (of_key key before)) (lefts A B (of_key key before) (All-filter IsInTables _ before past)))

        right_row : IfSome (row_after (of_side 1 (of_key key before))) (RowHas rts)
        right_row =
            after-fits kind.Table rts (of_side 1 (of_key key before))
            (bring-rows kind.Table (WholeKey (row_key left)) rts (of_side 1 (of_key key before)) (rights A B (of_key key before) (All-filter IsInTables _ before past)))

        given : ℕ → Type 0
        given side = AllByRecursion IsJoinedTurned (join_tables k l r before (record { side = side; change = e.change }))

        from_left : A e.change → given 0
        from_left h =
            body-holds kind.Table (WholeKey (row_key left)) (both_types k)
            (record (at_path (side_step 0 l r ∷ e.change.place.path) e.change) { time = max e.change.time (time_after (of_side 1 (of_key key before))) }) h.0 _
            (turned-joined lts (λ own. joined k l r key own (row_after (of_side 1 (of_key key before))))
            (λ o fit. joined-fits k key (λ _. h.0.0) o (row_after (of_side 1 (of_key key before))) fit right_row)
            (row_after (of_side 0 (of_key key before))) (row_in e.change.body) left_row (in-fits kind.Table lts e.change.body h.1))

        from_right : B e.change → given 1
        from_right h =
            body-holds kind.Table (WholeKey (row_key left)) (both_types k)
            (record (at_path (side_step 1 l r ∷ e.change.place.path) e.change) { time = max e.change.time (time_after (of_side 0 (of_key key before))) }) h.0 _
            (turned-joined rts (λ own. joined k l r key (row_after (of_side 0 (of_key key before))) own)
            (λ o fit. joined-fits k key (λ _. h.0.0) (row_after (of_side 0 (of_key key before))) o left_row fit)
            (row_after (of_side 1 (of_key key before))) (row_in e.change.body) right_row (in-fits kind.Table rts e.change.body h.1))

        by : IsInTables e → given e.side
        by (inl h) = subst given (sym h.0) (from_left h.1)
        by (inr h) = subst given (sym h.0) (from_right h.1)

-- ---- the keys of two tables

one-column : (cs : List Column) → length cs ≡ 1 → (c : Column) × (cs ≡ c ∷ [])
one-column [] one = absurd (omega (arith, one))
one-column (c ∷ []) one = (c, refl)
one-column (c ∷ d ∷ cs) one = absurd (omega (arith, one))

-- of a key of one column its first column is all
pub key-first : (r : Relation) → length r.schema.keys ≡ 1 → column_types r.schema.keys ≡ row_key r
key-first r one = let (c, is) = one-column r.schema.keys one in ap column_types is ∙ sym (ap (λ cs. take 1 (column_types cs)) is)

-- a column that is a key has the key's type
key-from : (types before : List (Option SqlType)) (t : Option SqlType) (after : List (Option SqlType)) → types ≡ before ++ t ∷ after → (e : Typed) → IsTyped types e →
    (i : ℕ) → e.node ≡ form.Column i → i ≡ length before → (key : List Value) → RowHas (t ∷ []) key → RowHas (e.ty ∷ []) key
key-from types before t after is e typed i node at [] h = absurd h
key-from types before t after is e typed i node at (v ∷ []) h =
    (column-has before t after e (subst (λ ts. IsTyped ts e) is typed) (node ∙ ap (λ j. form.Column j) at) v h.0, tt)
key-from types before t after is e typed i node at (v ∷ w ∷ vs) h = absurd h.1

module _ (l r : Relation) (one_left : length l.schema.keys ≡ 1) (one_right : length r.schema.keys ≡ 1) (like_key : row_key l ≡ row_key r) where
  abbrev lts : List (Option SqlType)
  lts = column_types (columns l)

  abbrev rts : List (Option SqlType)
  rts = column_types (columns r)

  left-first : (rest : List (Option SqlType)) (e : Typed) → IsTyped (lts ++ rts ++ rest) e → e.node ≡ form.Column 0 → (key : List Value) → RowHas (row_key l) key → RowHas (e.ty ∷ []) key
  left-first rest e typed node key h =
      let (c, is) = one-column l.schema.keys one_left in
      key-from (lts ++ rts ++ rest) [] (Some c.ty) (column_types l.schema.values ++ rts ++ rest) (ap (λ cs. column_types (cs ++ l.schema.values) ++ rts ++ rest) is) e typed 0 node refl key
      (subst (λ ts. RowHas ts key) (ap (λ cs. take 1 (column_types cs)) is) h)

  -- the key of a plain query over two tables
  tables-key : (k : JoinKind) (e : Typed) → IsTablesKey k l r e → IsTyped (lts ++ rts ++ rowkey_types k l) e → (key : List Value) → RowHas (row_key l) key → RowHas (e.ty ∷ []) key
  tables-key Inner e (inl node) typed key h = left-first [] e typed node key h
  tables-key Inner e (inr node) typed key h =
      let (c, is) = one-column r.schema.keys one_right in
      key-from (lts ++ rts ++ []) lts (Some c.ty) (column_types r.schema.values) (append-nil (lts ++ rts) ∙ ap (λ cs. lts ++ column_types (cs ++ r.schema.values)) is) e typed
      (length (columns l)) node (sym (length-map (columns l) (λ c. Some c.ty))) key
      (subst (λ ts. RowHas ts key) (like_key ∙ ap (λ cs. take 1 (column_types cs)) is) h)
  tables-key Left e node typed key h = left-first [] e typed node key h
  tables-key Full e node typed key h =
      let (c, is) = one-column l.schema.keys one_left in
      key-from (lts ++ rts ++ row_key l) (lts ++ rts) (Some c.ty) [] (ap (λ cs. lts ++ rts ++ take 1 (column_types cs)) is) e typed
      (length (columns l) + length (columns r)) node
      (sym (length-append lts rts ∙ ap₂ (λ m n. m + n) (length-map (columns l) (λ c. Some c.ty)) (length-map (columns r) (λ c. Some c.ty)))) key
      (subst (λ ts. RowHas ts key) (ap (λ cs. take 1 (column_types cs)) is) h)

  pub tables-keep : (k : JoinKind) (e : Typed) → IsTablesKey k l r e → (cs : List Column) → AreColumns kind.Table (lts ++ rts ++ rowkey_types k l) (e ∷ []) cs →
      (key : List Value) → WholeKey (row_key l) key → WholeKey (column_types cs) key
  tables-keep k e node [] sound key h = absurd sound
  tables-keep k e node (c ∷ []) sound key h = (subst (λ t. RowHas (t ∷ []) key) sound.1 (tables-key k e node sound.0.typed key h.0), h.1)
  tables-keep k e node (c ∷ d ∷ cs) sound key h = absurd sound.2
