-- Keys and rows of what the stages of a query send.
use Rattle.std.proofs.Common.{◌≡◌, ◌∙◌, ap, ap₂, refl, sym, subst, subst₂, ℕ, zero, ◌+◌, List, [], ◌∷◌, ◌++◌, map, length, take, append_assoc, Bool, true, false, true≢false, inl, inr}
use Rattle.std.specs.Prelude.{◌==◌, ◌&&◌, ◌⊎◌, not, filter, if◌then◌else◌, Option, Some, None, option_map, unwrap_or, slice_get, IfSome}
use Rattle.std.specs.List.{AllByRecursion}
use Rattle.std.proofs.lemmas.List.{map-append}
use Rattle.std.proofs.lemmas.Option.{slice_get-map}
use Rattle.ksql_types.specs.Columns.{columns}
use Rattle.ksql_types.specs.declared.relation.Column.{Column}
use Rattle.ksql_types.specs.declared.relation.Kind.{Kind}
use Rattle.ksql_types.specs.declared.relation.Kind.TheVariants as kind
use Rattle.ksql_types.specs.declared.relation.Relation.{Relation}
use Rattle.ksql_types.specs.declared.value.SqlType.{SqlType}
use Rattle.ksql_types.specs.declared.value.Value.{Value}
use Rattle.ksql_place.specs.declared.change.Change.{Change}
use Rattle.ksql_expr.specs.declared.typed.Typed.{Typed}
use Rattle.ksql_program.specs.Program.{relation_at, relations}
use Rattle.ksql_program.specs.Sound.{column_types, HasItsKey, IsSoundQuery, joined, JoinsStream, JoinsTable, Makes, one, query, Reads, row_key, rowkey_types}
use Rattle.ksql_program.specs.declared.program.Item.{Item}
use Rattle.ksql_program.specs.declared.query.From.{From}
use Rattle.ksql_program.specs.declared.query.From.TheVariants.{One, Join}
use Rattle.ksql_program.specs.declared.query.JoinKind.{JoinKind}
use Rattle.ksql_program.specs.declared.query.JoinKind.TheVariants.{Inner, Left, Full}
use Rattle.ksql_program.specs.declared.query.Query.{Query}
use Rattle.ksql_program.specs.declared.query.Shape.{Shape}
use Rattle.ksql_program.specs.declared.query.Shape.TheVariants as shape
use Rattle.ksql_nodes.specs.Entries.{Entry, from_side, results, through}
use Rattle.ksql_nodes.specs.Nodes.{gives}
use Rattle.ksql_nodes.specs.declared.node.Node.{Node}
use Rattle.ksql_nodes.specs.declared.node.Node.TheVariants as node
use Rattle.ksql_nodes.proofs.Lists.{All-append}
use Rattle.query_meaning.specs.Queries.{after_aggregate, entry_cmp, filter_of, join_of, join_over, key_columns, kind_at, lanes_of, leftmost, side_at}
use Rattle.meaning_laws.proofs.EachRelation.{AreAmong}
use Rattle.meaning_laws.proofs.JoinedRows.{IsOfSides, key-first, stream-joined, tables-joined}
use Rattle.meaning_laws.proofs.Lists.{All-ascending, All-map, All-weaker}
use Rattle.meaning_laws.proofs.RelationColumns.{joins-table, stream-partial, wide-at}
use Rattle.meaning_laws.proofs.RelationTables.{reads-kind, reads-unwindowed}
use Rattle.meaning_laws.proofs.RowTypes.{BodyHas, Holds, IsChangeOf, KeyOf, WholeKey, table-fits}
use Rattle.meaning_laws.proofs.Sizes.{GivesFor, results-give}
use Rattle.topology.specs.Contents.{Contents, task_entries, with_cells}
use Rattle.topology.specs.Stages.{aggregate_nodes, are_own_key, input_nodes, inputs_of, is_column, is_rekeyed, rekey_from, rekey_stages, shape_stages, stages_of, table_of}
use Rattle.topology.specs.Topologies.{cuts_of, input_of, place_of, topic_of}
use Rattle.topology.specs.declared.stage.CutName.{CutName}
use Rattle.topology.specs.declared.stage.CutName.TheVariants as cut
use Rattle.topology.specs.declared.stage.Link.{Link}
use Rattle.topology.specs.declared.stage.Link.TheVariants as link
use Rattle.topology.specs.declared.stage.Stage.{Stage}
use Rattle.sending_laws.specs.Sent.{all_cuts, columns_at, cut_columns, cut_keys, keys_at, read_columns, rightmost, rowkey_columns}
use Rattle.sending_laws.proofs.Numbering.{get-front}
use Rattle.sending_laws.proofs.SentSizes.{table_over}
use Rattle.sending_laws.proofs.SentTypes.{Leads, cells-filled, filter-leads, leads-both, leads-none, leads-one, rekey-fits}
use Rattle.sending_laws.proofs.CutNames.{IsIn, back-in, front-in, if-in}
use Rattle.sending_laws.proofs.SentShapes.{KeyIn, aggregate-leads, group-leads, joins-stream, key-in, plain-key, plain-leads}

-- ---- what topics hold

-- what a topic is: that of a relation, or a repartition topic of a query
abbrev pub Use : Type 0
Use = Relation ⊎ (Query × CutName)

abbrev pub of_relation : Relation → Use
of_relation r = inl r

abbrev pub of_cut : Query × CutName → Use
of_cut c = inr c

module _ (items : List Item) where
  -- what each topic is, by its number
  abbrev pub uses : List Use
  uses = map of_relation (relations items) ++ map of_cut (all_cuts items items)

  -- what its changes hold
  abbrev pub InUse : Use → Change → Type 0
  InUse (inl r) c = IsChangeOf r.kind (column_types r.schema.keys) (column_types r.schema.values) c
  InUse (inr (q, name)) c = Holds (kind_at items (leftmost q.from)) (WholeKey (column_types (cut_keys items q name))) (column_types (cut_columns items q name)) c

  abbrev pub AreInUse : Contents → Type 0
  AreInUse has = (topic part : ℕ) (u : Use) → slice_get uses topic ≡ Some u → AllByRecursion (InUse u) (has topic part)

  pub relation-use : (number : ℕ) (r : Relation) → relation_at items number ≡ Some r → slice_get uses number ≡ Some (inl r)
  relation-use number r at =
      get-front (map of_relation (relations items)) (map of_cut (all_cuts items items)) number (inl r) (slice_get-map of_relation (relations items) number ∙ ap (option_map of_relation) at)

  -- ---- the relations that a query reads

  kind-at : (number : ℕ) (r : Relation) → relation_at items number ≡ Some r → kind_at items number ≡ r.kind
  kind-at number r at = ap (λ o. unwrap_or (option_map (λ r. r.kind) o) kind.Stream) at

  columns-at : (number : ℕ) (r : Relation) → relation_at items number ≡ Some r → columns_at items number ≡ columns r
  columns-at number r at = ap (λ o. unwrap_or (option_map columns o) []) at

  keys-at : (number : ℕ) (r : Relation) → relation_at items number ≡ Some r → keys_at items number ≡ r.schema.keys
  keys-at number r at = ap (λ o. unwrap_or (option_map (λ r. r.schema.keys) o) []) at

  rowkey-types : (k : JoinKind) (l : Relation) → column_types (rowkey_columns k l.schema.keys) ≡ rowkey_types k l
  rowkey-types Inner l = refl
  rowkey-types Left l = refl
  rowkey-types Full l = by l.schema.keys
    where
      by : (cs : List Column) → column_types (take 1 cs) ≡ take 1 (column_types cs)
      by [] = refl
      by (c ∷ cs) = refl

  module _ (before : List Item) (among : AreAmong before items) where
    reads-types : {from : From} {types : List (Option SqlType)} {l : Relation} → Reads before from types l → column_types (read_columns items from) ≡ types
    reads-types (one {number = number} {r = r} at _) = ap column_types (columns-at number r (among number r at))
    reads-types (joined {k = k} {left = left} {right = right} {on = on} {l = l} {r = r} at_left at_right _ _ _ _) =
        let lefts : columns_at items left ≡ columns l = columns-at left l (among left l at_left) in
        let rights : columns_at items right ≡ columns r = columns-at right r (among right r at_right) in
        let keys : keys_at items left ≡ l.schema.keys = keys-at left l (among left l at_left) in
        let ends : List Column = rowkey_columns k l.schema.keys in
        let here : read_columns items (Join k left right on) ≡ columns l ++ columns r ++ ends = ap₂ (λ xs ys. xs ++ ys) (ap₂ (λ xs ys. xs ++ ys) lefts rights) (ap (rowkey_columns k) keys) in
        let whole : column_types (columns l ++ columns r ++ ends) ≡ column_types (columns l ++ columns r) ++ column_types ends = map-append (λ (c : Column). Some c.ty) (columns l ++ columns r) ends in
        let both : column_types (columns l ++ columns r) ≡ column_types (columns l) ++ column_types (columns r) = map-append (λ (c : Column). Some c.ty) (columns l) (columns r) in
        ap column_types here ∙ whole ∙ ap₂ (λ xs ys. xs ++ ys) both (rowkey-types k l)

  -- a change of the left side of a join under the key of the right
  abbrev IsRekeyed : From → Change → Type 0
  IsRekeyed from = Holds (kind_at items (leftmost from)) (WholeKey (column_types (keys_at items (rightmost from)))) (column_types (columns_at items (leftmost from)))

  -- whether a stream is rekeyed, by the kind of what is joined
  abbrev rekeyed_over : ℕ → Typed → Kind → Bool
  rekeyed_over left on kind.Stream = not ((key_columns items left == 1) && is_column 0 on)
  rekeyed_over left on _ = false

  -- ---- what a task reads

  module _ (first : ℕ) (cuts : List CutName) (has : Contents) (all : AreInUse has) (part : ℕ) where
    abbrev read_at : Link → List Change
    read_at l = map (with_cells (input_of items first cuts l).keys) (has (input_of items first cuts l).topic part)

    relation-read : (number : ℕ) (r : Relation) → relation_at items number ≡ Some r → (over : Kind) → r.kind ≡ over →
        AllByRecursion (IsChangeOf over (column_types r.schema.keys) (column_types (columns r))) (read_at (link.Relation number))
    relation-read number r at over is =
        let A : Change → Type 0 = IsChangeOf r.kind (column_types r.schema.keys) (column_types r.schema.values) in
        let B : Change → Type 0 = IsChangeOf over (column_types r.schema.keys) (column_types (columns r)) in
        subst (λ k. AllByRecursion B (map (with_cells k) (has number part))) (sym (ap (λ o. unwrap_or (option_map (λ r. length r.schema.keys) o) 0) at))
        (All-map B (with_cells (length r.schema.keys)) (has number part)
        (All-weaker A (λ c. B (with_cells (length r.schema.keys) c))
        (λ c h. subst (λ k. IsChangeOf k (column_types r.schema.keys) (column_types (columns r)) (with_cells (length r.schema.keys) c)) is (cells-filled r.kind r c h))
        (has number part) (all number part (inl r) (relation-use number r at))))

    cut-read : (q : Query) (name : CutName) (relation : ℕ) → slice_get uses (first + place_of name cuts) ≡ Some (inr (q, name)) →
        AllByRecursion (InUse (inr (q, name))) (read_at (link.Cut name relation))
    cut-read q name relation at = All-map (InUse (inr (q, name))) (with_cells zero) (has (first + place_of name cuts) part) (all (first + place_of name cuts) part (inr (q, name)) at)

    sided-read : (A B : Change → Type 0) (left right : Link) → AllByRecursion A (read_at left) → AllByRecursion B (read_at right) →
        AllByRecursion (IsOfSides A B) (task_entries (map (input_of items first cuts) (left ∷ right ∷ [])) has part)
    sided-read A B left right lefts rights =
        All-ascending (IsOfSides A B) (entry_cmp (input_of items first cuts left).relation (input_of items first cuts right).relation)
        (from_side 0 (read_at left) ++ from_side 1 (read_at right))
        (All-append (IsOfSides A B) (from_side 0 (read_at left)) (from_side 1 (read_at right))
        (All-map (IsOfSides A B) (λ c. record { side = 0; change = c }) (read_at left)
        (All-weaker A (λ c. IsOfSides A B (record { side = 0; change = c })) (λ c h. inl (refl, h)) (read_at left) lefts))
        (All-map (IsOfSides A B) (λ c. record { side = 1; change = c }) (read_at right)
        (All-weaker B (λ c. IsOfSides A B (record { side = 1; change = c })) (λ c h. inr (refl, h)) (read_at right) rights)))

    -- a join, WHERE, and the nodes after it
    join-reads : (over : Kind) (K : List Value → Type 0) (types : List (Option SqlType)) (x : Node) (P : Entry → Type 0) → GivesFor P (Holds over K types) (gives 1 x) →
        (filter : Option Typed) (rest : List Node) (B : Change → Type 0) → Leads (Holds over K types) B rest → (es : List Entry) → AllByRecursion P es →
        AllByRecursion B (through (map (gives 1) (x ∷ (filter_of filter ++ rest))) es)
    join-reads over K types x P give filter rest B lead es h =
        leads-both (Holds over K types) (Holds over K types) B (filter_of filter) rest (filter-leads over K types filter) lead
        (results (gives 1 x) [] es) (results-give P (Holds over K types) (gives 1 x) give [] es tt h)

    table-leads : (number : ℕ) (l : Relation) (types : List (Option SqlType)) (over : Kind) → Leads (Holds over (KeyIn over l) types) (Holds over (KeyIn over l) types) (table_over number over)
    table-leads number l types kind.Stream = leads-none (Holds kind.Stream (KeyIn kind.Stream l) types)
    table-leads number l types kind.Table =
        leads-one (Holds kind.Table (KeyIn kind.Table l) types) (Holds kind.Table (KeyIn kind.Table l) types) (node.Table number) (table-fits 1 number (column_types l.schema.keys) types)
    table-leads number l types kind.Windowed = leads-none (Holds kind.Windowed (KeyIn kind.Windowed l) types)

    module _ (before : List Item) (among : AreAmong before items) (filter : Option Typed) (rest : List Node) (B : Change → Type 0) where
      abbrev Gives_of : From → Type 0
      Gives_of from =
          AllByRecursion B (through (map (gives 1) ((table_of items from ++ (join_of items from ++ filter_of filter)) ++ rest)) (task_entries (map (input_of items first cuts) (inputs_of items from)) has part))

      -- what the nodes up to WHERE give, and those after it
      input-reads : (from : From) {types : List (Option SqlType)} {l : Relation} → Reads before from types l →
          (is_rekeyed items from ≡ true → AllByRecursion (IsRekeyed from) (read_at (link.Cut cut.Left (leftmost from)))) → (over : Kind) → l.kind ≡ over →
          Leads (Holds over (KeyIn over l) types) B rest → Gives_of from
      input-reads (One number) (one {r = l} at _) rekeyed over is lead =
          let A : Change → Type 0 = Holds over (KeyIn over l) (column_types (columns l)) in
          let here : relation_at items number ≡ Some l = among number l at in
          subst (λ o. AllByRecursion B (through (map (gives 1) ((table_over number o ++ filter_of filter) ++ rest)) (from_side 0 (read_at (link.Relation number))))) (sym (kind-at number l here ∙ is))
          (leads-both A A B (table_over number over ++ filter_of filter) rest
          (leads-both A A A (table_over number over) (filter_of filter) (table-leads number l (column_types (columns l)) over) (filter-leads over (KeyIn over l) (column_types (columns l)) filter)) lead
          (read_at (link.Relation number))
          (All-weaker (IsChangeOf over (column_types l.schema.keys) (column_types (columns l))) A (key-in over l (column_types (columns l))) (read_at (link.Relation number)) (relation-read number l here over is)))
      input-reads (Join k left right on) (joined {l = l} {r = r} at_left at_right apart table same j) rekeyed over is lead =
          subst (λ o. AllByRecursion B (through (map (gives 1) ((join_over items k left right on o ++ filter_of filter) ++ rest)) entries)) (sym (same_kind ∙ is)) (by over is lead)
        where
          here : relation_at items left ≡ Some l
          here = among left l at_left

          there : relation_at items right ≡ Some r
          there = among right r at_right

          same_kind : kind_at items left ≡ l.kind
          same_kind = kind-at left l here

          lts : List (Option SqlType)
          lts = column_types (columns l)

          rts : List (Option SqlType)
          rts = column_types (columns r)

          left_link : Bool → Link
          left_link b = if b then link.Cut cut.Left left else link.Relation left

          entries : List Entry
          entries = task_entries (map (input_of items first cuts) (left_link (is_rekeyed items (Join k left right on)) ∷ link.Relation right ∷ [])) has part

          by : (over : Kind) → l.kind ≡ over → Leads (Holds over (KeyIn over l) (lts ++ rts ++ rowkey_types k l)) B rest →
              AllByRecursion B (through (map (gives 1) ((join_over items k left right on over ++ filter_of filter) ++ rest)) entries)
          by kind.Stream is lead =
              join-reads kind.Stream (λ key. Unit {0}) (lts ++ rts ++ rowkey_types k l) (node.JoinStreamTable k on (side_at items left) (side_at items right))
              (IsOfSides S T)
              (stream-joined l (side_at items left) (side_at items right) lts rts (wide-at items before among left l at_left) (wide-at items before among right r at_right) k (stream-partial k on l r j is) on (λ key. Unit {0}) (WholeKey (column_types r.schema.keys)) 1)
              filter rest B lead entries
              (sided-read S T (left_link (is_rekeyed items (Join k left right on))) (link.Relation right) (of_left (is_rekeyed items (Join k left right on)) refl) (relation-read right r there kind.Table table))
            where
              S : Change → Type 0
              S = Holds kind.Stream (λ key. Unit {0}) lts

              T : Change → Type 0
              T = Holds kind.Table (WholeKey (column_types r.schema.keys)) rts

              of_left : (b : Bool) → is_rekeyed items (Join k left right on) ≡ b → AllByRecursion S (read_at (left_link b))
              of_left true test =
                  All-weaker (IsRekeyed (Join k left right on)) S
                  (λ c h. (tt, subst₂ (λ o cs. BodyHas o (column_types cs) c.body) (same_kind ∙ is) (columns-at left l here) h.1))
                  (read_at (link.Cut cut.Left left)) (rekeyed test)
              of_left false test =
                  All-weaker (IsChangeOf kind.Stream (column_types l.schema.keys) lts) S (λ c h. (tt, h.1)) (read_at (link.Relation left)) (relation-read left l here kind.Stream is)
          by kind.Table is lead =
              join-reads kind.Table (WholeKey (row_key l)) (lts ++ rts ++ rowkey_types k l) (node.JoinTables k (side_at items left) (side_at items right)) (IsOfSides S T)
              (tables-joined l (side_at items left) (side_at items right) lts rts (wide-at items before among left l at_left) (wide-at items before among right r at_right) k 1)
              filter rest B (subst (λ ks. Leads (Holds kind.Table (WholeKey ks) (lts ++ rts ++ rowkey_types k l)) B rest) (key-first l tables.one_key_left) lead) entries
              (sided-read S T (left_link (is_rekeyed items (Join k left right on))) (link.Relation right)
              (subst (λ b. AllByRecursion S (read_at (left_link b))) (sym (ap (rekeyed_over left on) (same_kind ∙ is)))
              (subst (λ ks. AllByRecursion (Holds kind.Table (WholeKey ks) lts) (read_at (link.Relation left))) (key-first l tables.one_key_left) (relation-read left l here kind.Table is)))
              (subst (λ ks. AllByRecursion (Holds kind.Table (WholeKey ks) rts) (read_at (link.Relation right))) (key-first r tables.one_key_right ∙ sym tables.like_key) (relation-read right r there kind.Table table)))
            where
              tables : JoinsTable on l r
              tables = joins-table k on l r j is

              S : Change → Type 0
              S = Holds kind.Table (WholeKey (row_key l)) lts

              T : Change → Type 0
              T = Holds kind.Table (WholeKey (row_key l)) rts
          by kind.Windowed is lead = absurd (reads-unwindowed before (joined at_left at_right apart table same j) is)

  -- ---- the stages of a query

  -- the tasks of a stage give changes with property B
  abbrev Runs : ℕ → List CutName → Stage → (Change → Type 0) → Type 0
  Runs first cuts s B = (has : Contents) → AreInUse has → (part : ℕ) → AllByRecursion B (through (map (gives 1) s.nodes) (task_entries (map (input_of items first cuts) s.inputs) has part))

  -- what a stage's tasks send belongs in the topic that they write
  abbrev pub IsGood : ℕ → List CutName → Stage → Type 0
  IsGood first cuts s = (u : Use) × (slice_get uses (topic_of first cuts s.output) ≡ Some u) × Runs first cuts s (InUse u)

  -- a repartition topic of a query is found at its number
  abbrev pub HasCut : ℕ → List CutName → Query → CutName → Type 0
  HasCut first cuts q name = slice_get uses (first + place_of name cuts) ≡ Some (inr (q, name))

  -- so is that of a shape's groups, if they aren't by the own key
  abbrev HasGroupCut : ℕ → List CutName → Query → Shape → Type 0
  HasGroupCut first cuts q (shape.Plain ks vs) = Unit {0}
  HasGroupCut first cuts q (shape.Group ks w gs having vs) = are_own_key items q.from ks ≡ false → HasCut first cuts q cut.Group

  module _ (before : List Item) (among : AreAmong before items) (first : ℕ) (cuts : List CutName) where
    -- the left side of a join is rekeyed
    rekey-runs : (k : JoinKind) (left right : ℕ) (on : Typed) {types : List (Option SqlType)} {l : Relation} → Reads before (Join k left right on) types l → is_rekeyed items (Join k left right on) ≡ true →
        (over : Kind) → l.kind ≡ over → (n : ℕ) → Runs first cuts (record { inputs = link.Relation left ∷ []; nodes = node.Rekey on ∷ []; partitions = n; output = link.Cut cut.Left left }) (IsRekeyed (Join k left right on))
    rekey-runs k left right on (joined {l = l} {r = r} at_left at_right apart table same j) test kind.Stream is n has all part =
        subst₂ (λ o ts. AllByRecursion (Holds o (WholeKey ts) (column_types (columns_at items left))) (through (gives 1 (node.Rekey on) ∷ []) (from_side 0 read)))
        (sym (kind-at left l here ∙ is)) (sym (ap column_types (keys-at right r (among right r at_right))))
        (subst (λ cs. AllByRecursion (Holds kind.Stream (WholeKey (column_types r.schema.keys)) (column_types cs)) (through (gives 1 (node.Rekey on) ∷ []) (from_side 0 read))) (sym (columns-at left l here))
        (leads-one A B (node.Rekey on) (rekey-fits (column_types r.schema.keys) (column_types (columns l)) on stream.over_left.typed (like on.ty stream.like_key) (KeyOf kind.Stream (column_types l.schema.keys)))
        read (relation-read first cuts has all part left l here kind.Stream is)))
      where
        here : relation_at items left ≡ Some l
        here = among left l at_left

        read : List Change
        read = read_at first cuts has all part (link.Relation left)

        stream : JoinsStream on l r
        stream = joins-stream k on l r j is

        A : Change → Type 0
        A = IsChangeOf kind.Stream (column_types l.schema.keys) (column_types (columns l))

        B : Change → Type 0
        B = Holds kind.Stream (WholeKey (column_types r.schema.keys)) (column_types (columns l))

        like : (o : Option SqlType) → IfSome o (λ t. row_key r ≡ Some t ∷ []) → IfSome o (λ t. column_types r.schema.keys ≡ Some t ∷ [])
        like None h = tt
        like (Some t) h = key-first r stream.one_key ∙ h
    rekey-runs k left right on (joined {l = l} at_left _ _ _ _ _) test kind.Table is n has all part = absurd (true≢false (sym test ∙ ap (rekeyed_over left on) (kind-at left l (among left l at_left) ∙ is)))
    rekey-runs k left right on (joined {l = l} at_left _ _ _ _ _) test kind.Windowed is n has all part = absurd (true≢false (sym test ∙ ap (rekeyed_over left on) (kind-at left l (among left l at_left) ∙ is)))

    rekey-good : (q : Query) (from : From) {types : List (Option SqlType)} {l : Relation} → Reads before from types l →
        (is_rekeyed items from ≡ true → (u : Use) × (slice_get uses (first + place_of cut.Left cuts) ≡ Some u) × ((c : Change) → IsRekeyed from c → InUse u c)) → AllByRecursion (IsGood first cuts) (rekey_from items q from)
    rekey-good q (One number) reads good = tt
    rekey-good q (Join k left right on) {l = l} reads good = by (is_rekeyed items (Join k left right on)) refl
      where
        stage : Stage
        stage = record { inputs = link.Relation left ∷ []; nodes = node.Rekey on ∷ []; partitions = lanes_of items q; output = link.Cut cut.Left left }

        by : (b : Bool) → is_rekeyed items (Join k left right on) ≡ b → AllByRecursion (IsGood first cuts) (if b then stage ∷ [] else [])
        by true test =
            let (u, at, fits) = good test in (
              (
                u,
                at,
                λ has all part.
                    All-weaker (IsRekeyed (Join k left right on)) (InUse u) fits (through (map (gives 1) stage.nodes) (task_entries (map (input_of items first cuts) stage.inputs) has part))
                    (rekey-runs k left right on reads test l.kind refl (lanes_of items q) has all part),
              ),
              tt,
            )
        by false test = tt

    module _ (q : Query) (left_cut : is_rekeyed items q.from ≡ true → HasCut first cuts q cut.Left) (here : relation_at items q.out.number ≡ Some q.out)
        {types : List (Option SqlType)} {l : Relation} (reads : Reads before q.from types l) where
      un : (over : Kind) → l.kind ≡ over → over ≡ kind.Windowed → ⊥
      un over is windowed = reads-unwindowed before reads (is ∙ windowed)

      -- a stage that reads what the query reads
      read-runs : (rest : List Node) (n : ℕ) (output : Link) (B : Change → Type 0) → Leads (Holds l.kind (KeyIn l.kind l) types) B rest →
          Runs first cuts (record { inputs = inputs_of items q.from; nodes = input_nodes items q ++ rest; partitions = n; output = output }) B
      read-runs rest n output B lead has all part =
          input-reads first cuts has all part before among q.filter rest B q.from reads (λ test. cut-read first cuts has all part q cut.Left (leftmost q.from) (left_cut test)) l.kind refl lead

      same-kind : kind_at items (leftmost q.from) ≡ l.kind
      same-kind = reads-kind before items among reads

      shape-good : (s : Shape) → Makes l types s q.out → HasItsKey before q.from s → HasGroupCut first cuts q s → AllByRecursion (IsGood first cuts) (shape_stages items q s)
      shape-good (shape.Plain ks vs) makes keyed group_cut = (
        (
          inl q.out,
          relation-use q.out.number q.out here,
          read-runs (node.Select ks vs ∷ []) (lanes_of items q) (link.Relation q.out.number) (InUse (inl q.out))
              (plain-leads l types l.kind refl (un l.kind refl) makes (λ table. plain-key before reads table ks keyed)),
        ),
        tt,
      )
      shape-good (shape.Group ks w gs having vs) makes keyed group_cut = by (are_own_key items q.from ks) refl
        where
          rest : List Node
          rest = aggregate_nodes items q (shape.Group ks w gs having vs)

          grouping : List Node
          grouping = input_nodes items q ++ node.Group ks ∷ []

          G : Change → Type 0
          G = Holds l.kind (WholeKey (column_types q.out.schema.keys)) types

          -- what is in the repartition topic
          same : InUse (inr (q, cut.Group)) ≡ G
          same i = Holds (same-kind i) (WholeKey (column_types q.out.schema.keys)) (reads-types before among reads i)

          groups : Leads (Holds l.kind (KeyIn l.kind l) types) G (node.Group ks ∷ [])
          groups = group-leads l types l.kind refl (un l.kind refl) makes

          aggregates : Leads G (InUse (inl q.out)) rest
          aggregates =
              subst (λ o. Leads G (InUse (inl q.out)) (node.Aggregate o gs w ∷ after_aggregate having vs)) (sym same-kind) (aggregate-leads l types l.kind refl (un l.kind refl) makes)

          whole : Stage
          whole = record { inputs = inputs_of items q.from; nodes = grouping ++ rest; partitions = lanes_of items q; output = link.Relation q.out.number }

          grouped_stage : Stage
          grouped_stage = record { inputs = inputs_of items q.from; nodes = grouping; partitions = lanes_of items q; output = link.Cut cut.Group (leftmost q.from) }

          rest_stage : Stage
          rest_stage = record { inputs = link.Cut cut.Group (leftmost q.from) ∷ []; nodes = rest; partitions = lanes_of items q; output = link.Relation q.out.number }

          by : (b : Bool) → are_own_key items q.from ks ≡ b → AllByRecursion (IsGood first cuts) (if b then whole ∷ [] else grouped_stage ∷ rest_stage ∷ [])
          by true test = (
            (
              inl q.out,
              relation-use q.out.number q.out here,
              λ has all part.
                  subst (λ nodes. AllByRecursion (InUse (inl q.out)) (through (map (gives 1) nodes) (task_entries (map (input_of items first cuts) (inputs_of items q.from)) has part)))
                  (sym (append_assoc (input_nodes items q) (node.Group ks ∷ []) rest))
                  (read-runs (node.Group ks ∷ rest) (lanes_of items q) (link.Relation q.out.number) (InUse (inl q.out))
                  (leads-both (Holds l.kind (KeyIn l.kind l) types) G (InUse (inl q.out)) (node.Group ks ∷ []) rest groups aggregates) has all part),
            ),
            tt,
          )
          by false test = (
            (
              inr (q, cut.Group),
              group_cut test,
              read-runs (node.Group ks ∷ []) (lanes_of items q) (link.Cut cut.Group (leftmost q.from)) (InUse (inr (q, cut.Group))) (subst (λ B. Leads (Holds l.kind (KeyIn l.kind l) types) B (node.Group ks ∷ [])) (sym same) groups),
            ),
            (
              (
                inl q.out,
                relation-use q.out.number q.out here,
                λ has all part.
                    aggregates (read_at first cuts has all part (link.Cut cut.Group (leftmost q.from)))
                    (subst (λ B. AllByRecursion B (read_at first cuts has all part (link.Cut cut.Group (leftmost q.from)))) same (cut-read first cuts has all part q cut.Group (leftmost q.from) (group_cut test))),
              ),
              tt,
            ),
          )

  -- each of the stages, where its repartition topics have their numbers from the first on
  left-in : (q : Query) (from : From) → is_rekeyed items from ≡ true → IsIn cut.Left (cuts_of (rekey_from items q from))
  left-in q (One number) test = absurd (true≢false (sym test))
  left-in q (Join k left right on) test = if-in cut.Left (is_rekeyed items (Join k left right on)) true test _ _ (inl refl)

  group-in : (q : Query) (first : ℕ) (cuts : List CutName) (s : Shape) → (IsIn cut.Group (cuts_of (shape_stages items q s)) → HasCut first cuts q cut.Group) → HasGroupCut first cuts q s
  group-in q first cuts (shape.Plain ks vs) at = tt
  group-in q first cuts (shape.Group ks w gs having vs) at = λ test. at (if-in cut.Group (are_own_key items q.from ks) false test _ _ (inl refl))

  pub query-good : (before : List Item) → AreAmong before items → (q : Query) → IsSoundQuery before q → relation_at items q.out.number ≡ Some q.out → (first : ℕ) →
      ((name : CutName) → IsIn name (cuts_of (stages_of items q)) → HasCut first (cuts_of (stages_of items q)) q name) → AllByRecursion (IsGood first (cuts_of (stages_of items q))) (stages_of items q)
  unfolding stages_of
  query-good before among q (query reads condition makes keyed _) here first at =
      let rekeys : List Stage = rekey_stages items q in
      let shapes : List Stage = shape_stages items q q.shape in
      let cuts : List CutName = cuts_of (rekeys ++ shapes) in
      let left_cut : is_rekeyed items q.from ≡ true → HasCut first cuts q cut.Left = λ test. at cut.Left (front-in cut.Left rekeys shapes (left-in q q.from test)) in
      All-append (IsGood first cuts) rekeys shapes
      (rekey-good before among first cuts q q.from reads (λ test. (inr (q, cut.Left), left_cut test, λ c h. h)))
      (shape-good before among first cuts q left_cut here reads q.shape makes keyed (group-in q first cuts q.shape (λ is. at cut.Group (back-in cut.Group rekeys shapes is))))
