-- What a join makes is in the group of the key under which it joins.
use Rattle.std.proofs.Common.{◌≡◌, ◌∙◌, ap, ap₂, refl, sym, subst, ℕ, ◌+◌, List, [], ◌∷◌, ◌++◌, length, length-append, Bool, true, false, inl, inr, true≢false}
use Rattle.std.specs.Prelude.{◌==◌, ◌⊎◌, flat_map, max, if◌then◌else◌, Option, Some, None, option_and_then, option_map, IfSome}
use Rattle.std.specs.List.{last_or, AllByRecursion}
use Rattle.std.proofs.lemmas.Bool.{or_cases}
use Rattle.std.proofs.lemmas.List.{length-replicate}
use Rattle.std.proofs.lemmas.Slice.Zip.{AllZip-long}
use Rattle.ksql_types.specs.Key.{is_key}
use Rattle.ksql_types.specs.declared.relation.Kind.TheVariants as kind
use Rattle.ksql_types.specs.declared.value.SqlType.{SqlType}
use Rattle.ksql_types.specs.declared.value.Value.{Value}
use Rattle.ksql_types.specs.declared.value.Value.TheVariants.{Null}
use Rattle.ksql_place.specs.Said.{row_in, row_out}
use Rattle.ksql_place.specs.declared.change.Body.{Body}
use Rattle.ksql_place.specs.declared.change.Body.TheVariants.{Said, Turned}
use Rattle.ksql_place.specs.declared.change.Change.{Change}
use Rattle.ksql_expr.specs.Typing.{IsTyped}
use Rattle.ksql_expr.specs.Value.{value_of}
use Rattle.ksql_expr.specs.declared.typed.Typed.{Typed}
use Rattle.ksql_expr.specs.declared.typed.TypedNode.TheVariants as form
use Rattle.grouped_expressions.specs.Same.{same_tree}
use Rattle.grouped_expressions.proofs.Equality.{equal, equal-trees}
use Rattle.ksql_program.specs.declared.query.JoinKind.{JoinKind}
use Rattle.ksql_program.specs.declared.query.JoinKind.TheVariants.{Inner, Left, Full}
use Rattle.ksql_nodes.specs.declared.node.Node.TheVariants.{JoinStreamTable, JoinTables}
use Rattle.ksql_nodes.specs.declared.node.Side.{Side}
use Rattle.ksql_nodes.specs.Entries.{Entry, Row, is_same_key, of_key, of_side, row_after, time_after}
use Rattle.ksql_nodes.specs.Joins.{join_key, join_row, join_tables, joined, or_nulls, rekeyed, side_step}
use Rattle.ksql_nodes.specs.Nodes.{gives}
use Rattle.ksql_nodes.specs.Rows.{at_path, key_of, turned, values}
use Rattle.ksql_nodes.proofs.Keys.{key-decides}
use Rattle.ksql_nodes.proofs.Lists.{All-append}
use Rattle.meaning_laws.proofs.JoinedRows.{IsOfSides}
use Rattle.meaning_laws.proofs.Lists.{All-both, All-filter, All-passes, All-weaker}
use Rattle.meaning_laws.proofs.RowTypes.{BodyHas, RowHas}
use Rattle.meaning_laws.proofs.Sizes.{GivesFor, last-holds}
use Rattle.meaning_laws.proofs.TypedValues.{Has}
use Rattle.topology.specs.Stages.{is_column, is_stream_key, is_tables_key}
use Rattle.lane_laws.specs.Lanes.{IsInOwnGroup}
use Rattle.sending_laws.proofs.ColumnValues.{value-front}
use Rattle.topology_laws.proofs.KeyedRows.{IsKeyedChange, IsKeyedRow, IsOneKey, begins-at, begins-itself, begins-more, body-grouped, key_of-key, one-key, turned-grouped}

-- ---- the row of a key

after-holds : (P : Row → Type 0) (es : List Entry) → AllByRecursion (λ e. IfSome (row_in e.change.body) P) es → IfSome (row_after es) P
after-holds P es h = by (last_or None es) (last-holds (λ e. IfSome (row_in e.change.body) P) None es tt h)
  where
    by : (o : Option Entry) → IfSome o (λ e. IfSome (row_in e.change.body) P) → IfSome (option_and_then (λ e. row_in e.change.body) o) P
    by None h = tt
    by (Some e) h = h

-- what holds of the rows that a side's changes bring, with their keys, holds of the row that is found for a key
abbrev Brings : ℕ → (List Value → Row → Type 0) → Entry → Type 0
Brings side P e = (e.side == side) ≡ true → IfSome (row_in e.change.body) (P e.change.key)

found : (side : ℕ) (P : List Value → Row → Type 0) (key : List Value) (before : List Entry) → AllByRecursion (Brings side P) before → IfSome (row_after (of_side side (of_key key before))) (P key)
found side P key before h =
    let same : List Entry = of_key key before in
    let both : AllByRecursion (λ e. Brings side P e × (is_same_key e.change.key key ≡ true)) same =
    All-both (Brings side P) (λ e. is_same_key e.change.key key ≡ true) same (All-filter (Brings side P) (λ e. is_same_key e.change.key key) before h) (All-passes (λ e. is_same_key e.change.key key) before) in
    after-holds (P key) (of_side side same)
    (All-weaker (λ e. (Brings side P e × (is_same_key e.change.key key ≡ true)) × ((e.side == side) ≡ true)) (λ e. IfSome (row_in e.change.body) (P key))
    (λ e x. subst (λ k. IfSome (row_in e.change.body) (P k)) ((key-decides e.change.key key).0 x.0.1) (x.0.0 x.1)) (of_side side same)
    (All-both (λ e. Brings side P e × (is_same_key e.change.key key ≡ true)) (λ e. (e.side == side) ≡ true) (of_side side same)
    (All-filter (λ e. Brings side P e × (is_same_key e.change.key key ≡ true)) (λ e. e.side == side) same both) (All-passes (λ e. e.side == side) same)))

module _ (A B : Change → Type 0) (before : List Entry) (past : AllByRecursion (IsOfSides A B) before) (P : List Value → Row → Type 0) (key : List Value) where
  left-found : ((c : Change) → A c → IfSome (row_in c.body) (P c.key)) → IfSome (row_after (of_side 0 (of_key key before))) (P key)
  left-found brings = found 0 P key before (All-weaker (IsOfSides A B) (Brings 0 P) by before past)
    where
      by : (e : Entry) → IsOfSides A B e → Brings 0 P e
      by e (inl h) same = brings e.change h.1
      by e (inr h) same = absurd (true≢false (sym same ∙ ap (λ s. s == 0) h.0))

  right-found : ((c : Change) → B c → IfSome (row_in c.body) (P c.key)) → IfSome (row_after (of_side 1 (of_key key before))) (P key)
  right-found brings = found 1 P key before (All-weaker (IsOfSides A B) (Brings 1 P) by before past)
    where
      by : (e : Entry) → IsOfSides A B e → Brings 1 P e
      by e (inl h) same = absurd (true≢false (sym same ∙ ap (λ s. s == 1) h.0))
      by e (inr h) same = brings e.change h.1

-- a row of a side has as many cells as the side has columns
wide-row : (side : Side) (ts : List (Option SqlType)) → side.columns ≡ length ts → (row : Row) → RowHas ts row → side.columns ≡ length row
wide-row side ts wide row h = wide ∙ sym (AllZip-long Has ts row h)

wide-nulls : (side : Side) (ts : List (Option SqlType)) → side.columns ≡ length ts → (key : List Value) (o : Option Row) → IfSome o (IsKeyedRow ts key) → side.columns ≡ length (or_nulls side o)
wide-nulls side ts wide key None h = sym (length-replicate side.columns Null)
wide-nulls side ts wide key (Some row) h = wide-row side ts wide row h.0

-- a column expression is another one if their numbers are the same
column-at : (e : Typed) (i j : ℕ) → is_column i e ≡ true → i ≡ j → e.node ≡ form.Column j
column-at e i j is same = equal e.node (form.Column i) is ∙ ap (λ n. form.Column n) same

module _ (l r : Side) (lts rts : List (Option SqlType)) (wide_left : l.columns ≡ length lts) (wide_right : r.columns ≡ length rts) where
  -- ---- a stream and a table

  module _ (on key : Typed) (typed : IsTyped lts on) where
    -- the join key has the same value on the joined row as on the left one
    front-key : same_tree key on ≡ true → (row rest : Row) (time : ℕ) → RowHas lts row → values (key ∷ []) time (row ++ rest) ≡ value_of row time on ∷ []
    front-key same row rest time fit =
        ap (λ (v : Value). v ∷ []) (ap (value_of (row ++ rest) time) (equal-trees key on same) ∙ value-front Has lts row rest time fit on typed)

    stream-row : (k : JoinKind) → (k ≡ Full → ⊥) → is_stream_key k l on key ≡ true → (row : Row) → RowHas lts row → (time : ℕ) (o : Option Row) →
        IfSome o (IsKeyedRow rts (value_of row time on ∷ [])) → IfSome (joined k l r [] (Some row) o) (λ whole. values (key ∷ []) time whole ≡ value_of row time on ∷ [])
    stream-row Inner partial own row fit time None h = tt
    stream-row Inner partial own row fit time (Some y) h = by (or_cases (same_tree key on) (is_column l.columns key) own)
      where
        by : (same_tree key on ≡ true) ⊎ (is_column l.columns key ≡ true) → values (key ∷ []) time (row ++ y) ≡ value_of row time on ∷ []
        by (inl same) = front-key same row y time fit
        by (inr column) = begins-at row (value_of row time on ∷ []) y time key h.1 (column-at key l.columns (length row) column (wide-row l lts wide_left row fit))
    stream-row Left partial own row fit time o h = front-key own row (or_nulls r o) time fit
    stream-row Full partial own row fit time o h = absurd (partial refl)

    -- a stream's changes have rows of its columns
    abbrev IsInStream : Entry → Type 0
    IsInStream = IsOfSides (λ c. BodyHas kind.Stream lts c.body) (IsKeyedChange rts)

    pub stream-grouped : (k : JoinKind) → (k ≡ Full → ⊥) → is_stream_key k l on key ≡ true → (n : ℕ) → GivesFor IsInStream (IsInOwnGroup (key ∷ [])) (gives n (JoinStreamTable k on l r))
    unfolding gives
    stream-grouped k partial own n before past e now = by (e.side == 0) refl now
      where
        said : (body : Body) → BodyHas kind.Stream lts body →
            AllByRecursion (IsInOwnGroup (key ∷ [])) (flat_map (join_row k l r before) (rekeyed (join_key on (record e.change { body = body })) (record e.change { body = body })))
        said (Said row) fit = keyed (is_key (v ∷ [])) refl
          where
            v : Value
            v = value_of row e.change.time on

            c : Change
            c = record e.change { key = v ∷ []; body = Said row }

            o : Option Row
            o = row_after (of_side 1 (of_key (v ∷ []) before))

            keyed : (b : Bool) → is_key (v ∷ []) ≡ b → AllByRecursion (IsInOwnGroup (key ∷ [])) (flat_map (join_row k l r before) (rekeyed (if b then v ∷ [] else []) (record e.change { body = Said row })))
            keyed true is =
                All-append (IsInOwnGroup (key ∷ [])) (join_row k l r before c) []
                (body-grouped (key ∷ []) c (option_map (λ x. Said x) (joined k l r [] (Some row) o))
                (in_group (joined k l r [] (Some row) o)
                (stream-row k partial own row fit e.change.time o (right-found (λ c. BodyHas kind.Stream lts c.body) (IsKeyedChange rts) before past (IsKeyedRow rts) (v ∷ []) (λ d h. h.1))))) tt
              where
                in_group : (o : Option Row) → IfSome o (λ whole. values (key ∷ []) e.change.time whole ≡ v ∷ []) → IfSome (option_map (λ x. Said x) o) (λ body. IsInOwnGroup (key ∷ []) (record c { body = body }))
                in_group None h = tt
                in_group (Some whole) h = ap key_of h ∙ key_of-key (v ∷ []) is
            keyed false is = tt
        said (Turned old new) fit = absurd fit

        by : (b : Bool) → (e.side == 0) ≡ b → IsInStream e →
            AllByRecursion (IsInOwnGroup (key ∷ [])) (if b then flat_map (join_row k l r before) (rekeyed (join_key on e.change) e.change) else [])
        by true is (inl h) = said e.change.body h.1
        by true is (inr h) = absurd (true≢false (sym is ∙ ap (λ s. s == 0) h.0))
        by false is h = tt

  -- ---- two tables

  module _ (key : Typed) (group : List Value) (one : IsOneKey group) (time : ℕ) where
    -- ROWKEY comes after both sides
    ending : (x y : Row) → is_column (l.columns + r.columns) key ≡ true → l.columns ≡ length x → r.columns ≡ length y → values (key ∷ []) time (x ++ y ++ group) ≡ group
    ending x y own wide_x wide_y =
        begins-at (x ++ y) group group time key (begins-itself group one) (column-at key (l.columns + r.columns) (length (x ++ y)) own (ap₂ (λ m n. m + n) wide_x wide_y ∙ sym (length-append x y)))

    tables-row : (k : JoinKind) → is_tables_key k l r key ≡ true → (lo ro : Option Row) → IfSome lo (IsKeyedRow lts group) → IfSome ro (IsKeyedRow rts group) →
        IfSome (joined k l r group lo ro) (λ whole. values (key ∷ []) time whole ≡ group)
    tables-row Inner own None ro h g = tt
    tables-row Inner own (Some x) None h g = tt
    tables-row Inner own (Some x) (Some y) h g = by (or_cases (is_column 0 key) (is_column l.columns key) own)
      where
        by : (is_column 0 key ≡ true) ⊎ (is_column l.columns key ≡ true) → values (key ∷ []) time (x ++ y) ≡ group
        by (inl column) = begins-at [] group (x ++ y) time key (begins-more group x y h.1) (column-at key 0 0 column refl)
        by (inr column) = begins-at x group y time key g.1 (column-at key l.columns (length x) column (wide-row l lts wide_left x h.0))
    tables-row Left own None ro h g = tt
    tables-row Left own (Some x) ro h g = begins-at [] group (x ++ or_nulls r ro) time key (begins-more group x (or_nulls r ro) h.1) (column-at key 0 0 own refl)
    tables-row Full own None None h g = tt
    tables-row Full own None (Some y) h g = ending (or_nulls l None) y own (wide-nulls l lts wide_left group None tt) (wide-row r rts wide_right y g.0)
    tables-row Full own (Some x) ro h g = ending x (or_nulls r ro) own (wide-row l lts wide_left x h.0) (wide-nulls r rts wide_right group ro g)

  module _ (k : JoinKind) (key : Typed) (own : is_tables_key k l r key ≡ true) where
    -- each of the rows of a side gives a joined row of the group
    turned-rows : (c : Change) → is_key c.key ≡ true → (P : Row → Type 0) (f : Option Row → Option Row) →
        ((o : Option Row) → IfSome o P → IfSome (f o) (λ row. values (key ∷ []) c.time row ≡ c.key)) → (old new : Option Row) → IfSome old P → IfSome new P →
        IfSome (option_and_then (λ body. turned (f (row_out body)) (f (row_in body))) (turned old new)) (λ body. IsInOwnGroup (key ∷ []) (record c { body = body }))
    turned-rows c is P f fit None None h g = tt
    turned-rows c is P f fit None (Some y) h g = turned-grouped (key ∷ []) c is (f None) (f (Some y)) (fit None h) (fit (Some y) g)
    turned-rows c is P f fit (Some x) None h g = turned-grouped (key ∷ []) c is (f (Some x)) (f None) (fit (Some x) h) (fit None g)
    turned-rows c is P f fit (Some x) (Some y) h g = turned-grouped (key ∷ []) c is (f (Some x)) (f (Some y)) (fit (Some x) h) (fit (Some y) g)

    pub tables-grouped : (n : ℕ) → GivesFor (IsOfSides (IsKeyedChange lts) (IsKeyedChange rts)) (IsInOwnGroup (key ∷ [])) (gives n (JoinTables k l r))
    unfolding gives
    tables-grouped n before past e now = by now
      where
        A : Change → Type 0
        A = IsKeyedChange lts

        B : Change → Type 0
        B = IsKeyedChange rts

        group : List Value
        group = e.change.key

        left_row : IfSome (row_after (of_side 0 (of_key group before))) (IsKeyedRow lts group)
        left_row = left-found A B before past (IsKeyedRow lts) group (λ d h. h.1)

        right_row : IfSome (row_after (of_side 1 (of_key group before))) (IsKeyedRow rts group)
        right_row = right-found A B before past (IsKeyedRow rts) group (λ d h. h.1)

        -- the change that is made beside the other side's rows
        made : ℕ → ℕ → Change
        made side other = record (at_path (side_step side l r ∷ e.change.place.path) e.change) { time = max e.change.time (time_after (of_side other (of_key group before))) }

        given : ℕ → Type 0
        given side = AllByRecursion (IsInOwnGroup (key ∷ [])) (join_tables k l r before (record { side = side; change = e.change }))

        from_left : A e.change → given 0
        from_left h =
            body-grouped (key ∷ []) (made 0 1) _
            (turned-rows (made 0 1) (one-key group h.0) (IsKeyedRow lts group) (λ own. joined k l r group own (row_after (of_side 1 (of_key group before))))
            (λ o fit. tables-row key group h.0 (made 0 1).time k own o (row_after (of_side 1 (of_key group before))) fit right_row)
            (row_after (of_side 0 (of_key group before))) (row_in e.change.body) left_row h.1)

        from_right : B e.change → given 1
        from_right h =
            body-grouped (key ∷ []) (made 1 0) _
            (turned-rows (made 1 0) (one-key group h.0) (IsKeyedRow rts group) (λ own. joined k l r group (row_after (of_side 0 (of_key group before))) own)
            (λ o fit. tables-row key group h.0 (made 1 0).time k own (row_after (of_side 0 (of_key group before))) o left_row fit)
            (row_after (of_side 1 (of_key group before))) (row_in e.change.body) right_row h.1)

        by : IsOfSides A B e → given e.side
        by (inl h) = subst given (sym h.0) (from_left h.1)
        by (inr h) = subst given (sym h.0) (from_right h.1)
