-- The keys and rows of each relation's changes hold values of its columns.
use Rattle.std.proofs.Common.{◌≡◌, ◌∙◌, ap, refl, sym, subst, subst₂, ℕ, List, [], ◌∷◌, ◌++◌, map, length, true, inl, inr}
use Rattle.std.specs.Prelude.{All, filter, Option, Some, None, option_map, unwrap_or, IfSome}
use Rattle.std.specs.List.{AllByRecursion}
use Rattle.std.specs.Cmp.{unsigned_Decides}
use Rattle.std.proofs.lemmas.List.{length-map}
use Rattle.std.proofs.lemmas.List.Elements.{All-from_recursion, recursion_from_All}
use Rattle.std.proofs.lemmas.Option.{same_Some}
use Rattle.ksql_types.specs.Columns.{columns}
use Rattle.ksql_types.specs.declared.relation.Column.{Column}
use Rattle.ksql_types.specs.declared.relation.Kind.{Kind}
use Rattle.ksql_types.specs.declared.relation.Kind.TheVariants as kind
use Rattle.ksql_types.specs.declared.relation.Relation.{Relation}
use Rattle.ksql_types.specs.declared.value.SqlType.{SqlType}
use Rattle.ksql_types.specs.declared.value.Value.{Value}
use Rattle.ksql_place.specs.Said.{is_of_topic, said, said_by, saying}
use Rattle.ksql_place.specs.declared.change.Body.{Body}
use Rattle.ksql_place.specs.declared.change.Change.{Change}
use Rattle.ksql_place.specs.declared.change.Decoded.{Decoded}
use Rattle.ksql_place.specs.declared.change.Decoded.TheVariants.{Good, Tombstone, Skipped}
use Rattle.ksql_place.specs.declared.change.SourceRecord.{SourceRecord}
use Rattle.ksql_expr.specs.declared.typed.Typed.{Typed}
use Rattle.ksql_program.specs.Program.{relation_at, relation_of}
use Rattle.ksql_program.specs.Sound.{Aggregates, AreColumns, AreColumnsFrom, column_types, grouped, grouped_kind, HasItsKey, IsJoined, IsKeyed, IsSound, IsSoundItem, IsSoundQuery, IsTablesKey, joined, JoinsTable, Makes, of_stream, of_tables, own, partitioned, plain, query, Reads, row_key, rowkey_types, one, window_types}
use Rattle.ksql_program.specs.declared.program.Item.{Item}
use Rattle.ksql_program.specs.declared.program.Item.TheVariants.{Declared, Started}
use Rattle.ksql_program.specs.declared.query.From.{From}
use Rattle.ksql_program.specs.declared.query.From.TheVariants.{One, Join}
use Rattle.ksql_program.specs.declared.query.JoinKind.{JoinKind}
use Rattle.ksql_program.specs.declared.query.JoinKind.TheVariants.{Inner, Left, Full}
use Rattle.ksql_program.specs.declared.query.Query.{Query}
use Rattle.ksql_program.specs.declared.query.Shape.{Shape}
use Rattle.ksql_program.specs.declared.query.Shape.TheVariants.{Plain, Group}
use Rattle.ksql_nodes.specs.declared.node.Node.{Node}
use Rattle.ksql_nodes.specs.declared.node.Node.TheVariants as node
use Rattle.ksql_nodes.specs.Entries.{Entry, Step, from_side, results, through}
use Rattle.ksql_nodes.specs.Nodes.{gives}
use Rattle.ksql_nodes.specs.TableAggregates.{aggregate_of_table}
use Rattle.ksql_nodes.proofs.Lists.{All-append}
use Rattle.query_meaning.specs.Meaning.{declared_changes, item_changes, meaning, steps_of_declared}
use Rattle.query_meaning.specs.Queries.{after_aggregate, changes_at, entry_cmp, filter_of, join_of, join_over, kind_at, lanes_of, leftmost, query_changes, read_entries, shape_steps, side_at, steps_of, whole_changes, with_key_cells}
use Rattle.meaning_laws.specs.Bounds.{HasColumnsOf, HaveColumns, IsDecodedOf, IsKeyOf, IsRecordOf}
use Rattle.meaning_laws.proofs.Lists.{All-ascending, All-both, All-filter, All-map, All-passes, All-weaker}
use Rattle.meaning_laws.proofs.RowTypes.{BodyHas, Holds, IsChangeOf, KeyOf, WholeKey, aggregate-filled, columns-types, filled-columns, filter-fits, group-fits, grouped-apart, having-fits, key-types, own-key, row-types, select-said, select-turned, table-aggregate-filled, table-apart, table-fits, whole-filled}
use Rattle.meaning_laws.proofs.JoinedRows.{IsOfSides, key-first, stream-joined, tables-joined, tables-keep}
use Rattle.meaning_laws.proofs.EachRelation.{AreAmong, Each, each-at, meant-each}
use Rattle.meaning_laws.proofs.Saying.{placed_at}
use Rattle.meaning_laws.proofs.Sizes.{All-flat_map, Gives, GivesFor, entries-give, results-give}
use Rattle.meaning_laws.proofs.Turning.{changed-from-side}
use Rattle.meaning_laws.proofs.RelationTables.{reads-kind, reads-unwindowed}

-- ---- steps in a row

step-give : (A B : Change → Type 0) (step : Step) → Gives A B step → (changes : List Change) → AllByRecursion A changes → AllByRecursion B (results step [] (from_side 0 changes))
step-give A B step give changes h = results-give (λ e. A e.change) B step give [] (from_side 0 changes) tt (entries-give A 0 changes h)

last-give : (A B : Change → Type 0) (step : Step) → Gives A B step → (changes : List Change) → AllByRecursion A changes → AllByRecursion B (through (step ∷ []) (from_side 0 changes))
last-give A B step give changes h =
    subst (AllByRecursion B) (sym (changed-from-side (results step [] (from_side 0 changes)))) (step-give A B step give changes h)

-- ---- the list of a relation

-- the changes of a relation hold values of its columns
abbrev pub AreChangesOf : Relation → List Change → Type 0
AreChangesOf r changes = AllByRecursion (IsChangeOf r.kind (column_types r.schema.keys) (column_types r.schema.values)) changes

-- ---- the steps of a query

module _ (n : ℕ) (over : Kind) (K : List Value → Type 0) (types : List (Option SqlType)) where
  filter-through : (on : Option Typed) (rest : List Step) (B : Change → Type 0) →
      ((changes : List Change) → AllByRecursion (Holds over K types) changes → AllByRecursion B (through rest (from_side 0 changes))) →
      (changes : List Change) → AllByRecursion (Holds over K types) changes → AllByRecursion B (through (map (gives n) (filter_of on) ++ rest) (from_side 0 changes))
  filter-through None rest B give changes h = give changes h
  filter-through (Some e) rest B give changes h =
      give (results (gives n (node.Filter e)) [] (from_side 0 changes)) (step-give (Holds over K types) (Holds over K types) (gives n (node.Filter e)) (filter-fits n e over K types) changes h)

-- HAVING and the items, after an aggregate, whose result is no stream
module _ (n : ℕ) (over : Kind) (apart : over ≡ kind.Stream → ⊥) (gk types : List (Option SqlType)) (having : Option Typed) (values : List Typed) (cs : List Column) (sound : AreColumns over types values cs) where
  after-filled : (changes : List Change) → AllByRecursion (IsChangeOf over gk types) changes →
      AllByRecursion (IsChangeOf over gk (column_types cs)) (through (map (gives n) (after_aggregate having values)) (from_side 0 changes))
  after-filled = by having
    where
      select : Gives (IsChangeOf over gk types) (IsChangeOf over gk (column_types cs)) (gives n (node.Select [] values))
      select = select-turned n over apart types [] values cs sound (KeyOf over gk) (KeyOf over gk) (λ key h. h)

      by : (having : Option Typed) → (changes : List Change) → AllByRecursion (IsChangeOf over gk types) changes →
          AllByRecursion (IsChangeOf over gk (column_types cs)) (through (map (gives n) (after_aggregate having values)) (from_side 0 changes))
      by None changes h = last-give (IsChangeOf over gk types) (IsChangeOf over gk (column_types cs)) (gives n (node.Select [] values)) select changes h
      by (Some e) changes h =
          last-give (IsChangeOf over gk types) (IsChangeOf over gk (column_types cs)) (gives n (node.Select [] values)) select (results (gives n (node.Having e)) [] (from_side 0 changes))
          (step-give (IsChangeOf over gk types) (IsChangeOf over gk types) (gives n (node.Having e)) (having-fits n e over (KeyOf over gk) types) changes h)

-- a key with property K is a whole key of a plain query over a table
abbrev KeepsKey : (List Value → Type 0) → List (Option SqlType) → Shape → Type 0
KeepsKey K types (Plain ks vs) = (cs : List Column) → AreColumns kind.Table types ks cs → (key : List Value) → K key → WholeKey (column_types cs) key
KeepsKey K types (Group ks window aggs having values) = Unit {0}

-- the columns after a grouping, by the types of its key columns
after-columns : (over result : Kind) (types : List (Option SqlType)) (ks : List Typed) (kcs : List Column) (ats ws : List (Option SqlType)) (vs : List Typed) (vcs : List Column) → AreColumns over types ks kcs →
    AreColumns result (map (λ k. k.ty) ks ++ ats ++ ws) vs vcs → AreColumns result (column_types kcs ++ ats ++ ws) vs vcs
after-columns over result types ks kcs ats ws vs vcs keys sound = subst (λ ts. AreColumns result (ts ++ ats ++ ws) vs vcs) (columns-types over types ks kcs keys) sound

-- what a shape makes of rows with given types
module _ (n : ℕ) (l : Relation) (types : List (Option SqlType)) (K : List Value → Type 0) where
  shape-filled : (over : Kind) → l.kind ≡ over → (over ≡ kind.Windowed → ⊥) → {shape : Shape} {out : Relation} → Makes l types shape out → (over ≡ kind.Table → KeepsKey K types shape) →
      (changes : List Change) → AllByRecursion (Holds over K types) changes → AreChangesOf out (through (shape_steps n over shape) (from_side 0 changes))
  shape-filled kind.Stream is un (plain {ks = ks} {vs = vs} {out = out} kss vss same) keeps changes h =
      subst (λ k. AllByRecursion (IsChangeOf k (column_types out.schema.keys) (column_types out.schema.values)) (through (gives n (node.Select ks vs) ∷ []) (from_side 0 changes))) (sym (same ∙ is))
      (last-give (Holds kind.Stream K types) (IsChangeOf kind.Stream (column_types out.schema.keys) (column_types out.schema.values)) (gives n (node.Select ks vs))
      (select-said n types ks vs out.schema.keys out.schema.values
      (subst (λ k. AreColumns k types ks out.schema.keys) is kss) (subst (λ k. AreColumns k types vs out.schema.values) is vss) K)
      changes h)
  shape-filled kind.Table is un (plain {ks = ks} {vs = vs} {out = out} kss vss same) keeps changes h =
      subst (λ k. AllByRecursion (IsChangeOf k (column_types out.schema.keys) (column_types out.schema.values)) (through (gives n (node.Select ks vs) ∷ []) (from_side 0 changes))) (sym (same ∙ is))
      (last-give (Holds kind.Table K types) (IsChangeOf kind.Table (column_types out.schema.keys) (column_types out.schema.values)) (gives n (node.Select ks vs))
      (select-turned n kind.Table table-apart types ks vs out.schema.values (subst (λ k. AreColumns k types vs out.schema.values) is vss)
      K (WholeKey (column_types out.schema.keys)) (keeps refl out.schema.keys (subst (λ k. AreColumns k types ks out.schema.keys) is kss)))
      changes h)
  shape-filled kind.Stream is un (grouped {ks = ks} {vs = vs} {w = w} {gs = gs} {h = having} {out = out} ats _ _ kss _ aggs _ _ vss same) keeps changes h =
      let gk : List (Option SqlType) = column_types out.schema.keys in
      let groups : List Change = results (gives n (node.Group ks)) [] (from_side 0 changes) in
      subst (λ k. AllByRecursion (IsChangeOf k gk (column_types out.schema.values)) (through (shape_steps n kind.Stream (Group ks w gs having vs)) (from_side 0 changes))) (sym same)
      (after-filled n (grouped_kind w) (grouped-apart w) gk (gk ++ ats ++ window_types w) having vs out.schema.values
      (after-columns l.kind (grouped_kind w) types ks out.schema.keys ats (window_types w) vs out.schema.values kss vss) (results (gives n (node.Aggregate kind.Stream gs w)) [] (from_side 0 groups))
      (step-give (Holds kind.Stream (WholeKey gk) types) (IsChangeOf (grouped_kind w) gk (gk ++ ats ++ window_types w)) (gives n (node.Aggregate kind.Stream gs w))
      (aggregate-filled types gk (subst (λ k. Aggregates k types gs ats) is aggs) n w) groups
      (step-give (Holds kind.Stream K types) (Holds kind.Stream (WholeKey gk) types) (gives n (node.Group ks))
      (group-fits n types ks out.schema.keys (subst (λ k. AreColumns k types ks out.schema.keys) is kss) K) changes h)))
  shape-filled kind.Table is un (grouped {ks = ks} {vs = vs} {w = None} {gs = gs} {h = having} {out = out} ats _ _ kss _ aggs _ _ vss same) keeps changes h =
      let gk : List (Option SqlType) = column_types out.schema.keys in
      subst (λ k. AllByRecursion (IsChangeOf k gk (column_types out.schema.values)) (through (shape_steps n kind.Table (Group ks None gs having vs)) (from_side 0 changes))) (sym same)
      (after-filled n kind.Table table-apart gk (gk ++ ats ++ []) having vs out.schema.values
      (after-columns l.kind kind.Table types ks out.schema.keys ats [] vs out.schema.values kss vss) (results (aggregate_of_table ks gs) [] (from_side 0 changes))
      (step-give (Holds kind.Table K types) (IsChangeOf kind.Table gk (gk ++ ats ++ [])) (aggregate_of_table ks gs)
      (table-aggregate-filled types ks out.schema.keys (subst (λ k. AreColumns k types ks out.schema.keys) is kss) (subst (λ k. Aggregates k types gs ats) is aggs) K) changes h))
  shape-filled kind.Table is un (grouped {w = Some w} _ _ _ _ _ _ windowed _ _ _) keeps changes h = absurd (table-apart (sym is ∙ windowed.1))
  shape-filled kind.Windowed is un makes keeps changes h = absurd (un refl)

-- ---- what a query reads

-- the key of a plain query over a table is the table's
own-keeps : (before : List Item) (number : ℕ) (r : Relation) → relation_at before number ≡ Some r → r.kind ≡ kind.Table → (shape : Shape) → HasItsKey before (One number) shape →
    KeepsKey (WholeKey (column_types r.schema.keys)) (column_types (columns r)) shape
own-keeps before number r at table (Plain ks vs) keyed = λ cs sound key h. own-key kind.Table r ks cs (by ks keyed) sound key h
  where
    by : (es : List Typed) → IsKeyed before (One number) es → AreColumnsFrom 0 r.schema.keys es
    by es (own {r = s} at' from) = subst (λ x. AreColumnsFrom 0 x.schema.keys es) (same_Some s r (sym at' ∙ at)) from
    by es (partitioned {r = s} at' stream) = absurd (table-apart (sym table ∙ ap (λ x. x.kind) (same_Some r s (sym at ∙ at')) ∙ stream))
own-keeps before number r at table (Group ks window aggs having values) keyed = tt

-- in a join of tables it is one of their keys
tables-keeps : (before : List Item) (k : JoinKind) (left right : ℕ) (on : Typed) (l r : Relation) → relation_at before left ≡ Some l → relation_at before right ≡ Some r → l.kind ≡ kind.Table →
    JoinsTable on l r → (shape : Shape) → HasItsKey before (Join k left right on) shape →
    KeepsKey (WholeKey (row_key l)) (column_types (columns l) ++ column_types (columns r) ++ rowkey_types k l) shape
tables-keeps before k left right on l r at_left at_right table tables (Plain ks vs) keyed = by ks keyed
  where
    by : (es : List Typed) → IsKeyed before (Join k left right on) es → KeepsKey (WholeKey (row_key l)) (column_types (columns l) ++ column_types (columns r) ++ rowkey_types k l) (Plain es vs)
    by es (of_stream {l = s} at stream) = absurd (table-apart (sym table ∙ ap (λ x. x.kind) (same_Some l s (sym at_left ∙ at)) ∙ stream))
    by es (of_tables {e = e} {l = s} {r = t} at_s at_t _ key) =
        tables-keep l r tables.one_key_left tables.one_key_right tables.like_key k e
        (subst₂ (λ x y. IsTablesKey k x y e) (same_Some s l (sym at_s ∙ at_left)) (same_Some t r (sym at_t ∙ at_right)) key)
tables-keeps before k left right on l r at_left at_right table tables (Group ks window aggs having values) keyed = tt

-- a FULL join is a join of tables
pub stream-partial : (k : JoinKind) (on : Typed) (l r : Relation) → IsJoined k on l r → l.kind ≡ kind.Stream → k ≡ Full → ⊥
stream-partial Inner on l r j stream is = cc
stream-partial Left on l r j stream is = cc
stream-partial Full on l r j stream is = table-apart (sym j.left_table ∙ stream)

pub joins-table : (k : JoinKind) (on : Typed) (l r : Relation) → IsJoined k on l r → l.kind ≡ kind.Table → JoinsTable on l r
joins-table Inner on l r j is = let same : l ≡ record l { kind = kind.Table } = λ i. record l { kind = is i } in subst (λ x. JoinsTable on x r) (sym same) (subst (λ x. IsJoined Inner on x r) same j)
joins-table Left on l r j is = let same : l ≡ record l { kind = kind.Table } = λ i. record l { kind = is i } in subst (λ x. JoinsTable on x r) (sym same) (subst (λ x. IsJoined Left on x r) same j)
joins-table Full on l r j is = j

-- the number of a side's columns
pub wide-at : (items before : List Item) → AreAmong before items → (number : ℕ) (r : Relation) → relation_at before number ≡ Some r → (side_at items number).columns ≡ length (column_types (columns r))
wide-at items before among number r at = ap (λ o. unwrap_or (option_map (λ r. length (columns r)) o) 0) (among number r at) ∙ sym (length-map (columns r) (λ c. Some c.ty))

-- the entries of both sides
pub entries-sided : (items : List Item) (lists : List (List Change)) (k : JoinKind) (left right : ℕ) (key : Typed) (A B : Change → Type 0) → AllByRecursion A (whole_changes items lists left) → AllByRecursion B (whole_changes items lists right) →
    AllByRecursion (IsOfSides A B) (read_entries items lists (Join k left right key))
unfolding read_entries
entries-sided items lists k left right key A B lefts rights =
    All-ascending (IsOfSides A B) (entry_cmp left right) (from_side 0 (whole_changes items lists left) ++ from_side 1 (whole_changes items lists right))
    (All-append (IsOfSides A B) (from_side 0 (whole_changes items lists left)) (from_side 1 (whole_changes items lists right))
    (All-map (IsOfSides A B) (λ c. record { side = 0; change = c }) (whole_changes items lists left)
    (All-weaker A (λ c. IsOfSides A B (record { side = 0; change = c })) (λ c h. inl (refl, h)) (whole_changes items lists left) lefts))
    (All-map (IsOfSides A B) (λ c. record { side = 1; change = c }) (whole_changes items lists right)
    (All-weaker B (λ c. IsOfSides A B (record { side = 1; change = c })) (λ c h. inr (refl, h)) (whole_changes items lists right) rights)))

module _ (items before : List Item) (among : AreAmong before items) (lists : List (List Change)) (each : Each AreChangesOf before lists) (n : ℕ) where
  -- the whole rows of a relation
  whole-at : (number : ℕ) (r : Relation) → relation_at before number ≡ Some r → (over : Kind) → r.kind ≡ over →
      AllByRecursion (IsChangeOf over (column_types r.schema.keys) (column_types (columns r))) (whole_changes items lists number)
  whole-at number r at over is =
      let A = IsChangeOf r.kind (column_types r.schema.keys) (column_types r.schema.values) in
      let B = IsChangeOf r.kind (column_types r.schema.keys) (column_types (columns r)) in
      subst₂ (λ o k. AllByRecursion (IsChangeOf o (column_types r.schema.keys) (column_types (columns r))) (map (with_key_cells k) (changes_at lists number))) is
      (sym (ap (λ o. unwrap_or (option_map (λ r. length r.schema.keys) o) 0) (among number r at)))
      (All-map B (with_key_cells (length r.schema.keys)) (changes_at lists number)
      (All-weaker A (λ c. B (with_key_cells (length r.schema.keys) c)) (λ c h. whole-filled r.kind r c h) (changes_at lists number) (each-at AreChangesOf before lists each number r at)))

  module _ (on : Option Typed) {shape : Shape} {out : Relation} where
    -- a join, WHERE and a shape
    join-filled : (over : Kind) (K : List Value → Type 0) (l : Relation) (types : List (Option SqlType)) → l.kind ≡ over → (over ≡ kind.Windowed → ⊥) → Makes l types shape out →
        (over ≡ kind.Table → KeepsKey K types shape) → (x : Node) (P : Entry → Type 0) → GivesFor P (Holds over K types) (gives n x) → (es : List Entry) → AllByRecursion P es →
        AreChangesOf out (through (gives n x ∷ (map (gives n) (filter_of on) ++ shape_steps n over shape)) es)
    join-filled over K l types is un makes keeps x P give es h =
        filter-through n over K types on (shape_steps n over shape) (IsChangeOf out.kind (column_types out.schema.keys) (column_types out.schema.values))
        (shape-filled n l types K over is un makes keeps) (results (gives n x) [] es) (results-give P (Holds over K types) (gives n x) give [] es tt h)

    joined-filled : (k : JoinKind) (left right : ℕ) (key : Typed) (l r : Relation) → relation_at before left ≡ Some l → relation_at before right ≡ Some r → r.kind ≡ kind.Table → IsJoined k key l r →
        Makes l (column_types (columns l) ++ column_types (columns r) ++ rowkey_types k l) shape out → HasItsKey before (Join k left right key) shape →
        (over : Kind) → l.kind ≡ over → (over ≡ kind.Windowed → ⊥) →
        AreChangesOf out (through (map (gives n) (join_over items k left right key over ++ filter_of on) ++ shape_steps n over shape) (read_entries items lists (Join k left right key)))
    joined-filled k left right key l r at_left at_right table j makes keyed kind.Stream is un =
        let lts : List (Option SqlType) = column_types (columns l) in
        let rts : List (Option SqlType) = column_types (columns r) in
        let K : List Value → Type 0 = KeyOf kind.Stream (column_types l.schema.keys) in
        let L : List Value → Type 0 = KeyOf kind.Table (column_types r.schema.keys) in
        join-filled kind.Stream (λ key. Unit {0}) l (lts ++ rts ++ rowkey_types k l) is un makes (λ t. absurd (table-apart (sym t))) (node.JoinStreamTable k key (side_at items left) (side_at items right))
        (IsOfSides (Holds kind.Stream K lts) (Holds kind.Table L rts))
        (stream-joined l (side_at items left) (side_at items right) lts rts (wide-at items before among left l at_left) (wide-at items before among right r at_right) k (stream-partial k key l r j is) key K L n)
        (read_entries items lists (Join k left right key))
        (entries-sided items lists k left right key (Holds kind.Stream K lts) (Holds kind.Table L rts) (whole-at left l at_left kind.Stream is) (whole-at right r at_right kind.Table table))
    joined-filled k left right key l r at_left at_right table j makes keyed kind.Table is un =
        let lts : List (Option SqlType) = column_types (columns l) in
        let rts : List (Option SqlType) = column_types (columns r) in
        let K : List Value → Type 0 = WholeKey (row_key l) in
        let tables : JoinsTable key l r = joins-table k key l r j is in
        join-filled kind.Table K l (lts ++ rts ++ rowkey_types k l) is un makes (λ _. tables-keeps before k left right key l r at_left at_right is tables shape keyed)
        (node.JoinTables k (side_at items left) (side_at items right)) (IsOfSides (Holds kind.Table K lts) (Holds kind.Table K rts))
        (tables-joined l (side_at items left) (side_at items right) lts rts (wide-at items before among left l at_left) (wide-at items before among right r at_right) k n)
        (read_entries items lists (Join k left right key))
        (entries-sided items lists k left right key (Holds kind.Table K lts) (Holds kind.Table K rts)
        (subst (λ ks. AllByRecursion (Holds kind.Table (WholeKey ks) lts) (whole_changes items lists left)) (key-first l tables.one_key_left) (whole-at left l at_left kind.Table is))
        (subst (λ ks. AllByRecursion (Holds kind.Table (WholeKey ks) rts) (whole_changes items lists right)) (key-first r tables.one_key_right ∙ sym tables.like_key) (whole-at right r at_right kind.Table table)))
    joined-filled k left right key l r at_left at_right table j makes keyed kind.Windowed is un = absurd (un refl)

    read-filled : (from : From) {types : List (Option SqlType)} {l : Relation} → Reads before from types l → Makes l types shape out → HasItsKey before from shape → (over : Kind) → l.kind ≡ over →
        AreChangesOf out (through (map (gives n) (join_of items from ++ filter_of on) ++ shape_steps n over shape) (read_entries items lists from))
    unfolding read_entries
    read-filled (One number) (one {r = l} at unwindowed) makes keyed over is =
        filter-through n over (KeyOf over (column_types l.schema.keys)) (column_types (columns l)) on (shape_steps n over shape) (IsChangeOf out.kind (column_types out.schema.keys) (column_types out.schema.values))
        (shape-filled n l (column_types (columns l)) (KeyOf over (column_types l.schema.keys)) over is (λ windowed. unwindowed (is ∙ windowed)) makes
        (λ table. subst (λ k. KeepsKey (KeyOf k (column_types l.schema.keys)) (column_types (columns l)) shape) (sym table) (own-keeps before number l at (is ∙ table) shape keyed)))
        (whole_changes items lists number) (whole-at number l at over is)
    read-filled (Join k left right key) (joined {l = l} {r = r} at_left at_right apart table same j) makes keyed over is =
        subst (λ o. AreChangesOf out (through (map (gives n) (join_over items k left right key o ++ filter_of on) ++ shape_steps n over shape) (read_entries items lists (Join k left right key))))
        (sym (ap (λ o. unwrap_or (option_map (λ r. r.kind) o) kind.Stream) (among left l at_left) ∙ is))
        (joined-filled k left right key l r at_left at_right table j makes keyed over is (λ windowed. reads-unwindowed before (joined at_left at_right apart table same j) (is ∙ windowed)))

  query-filled : (q : Query) → n ≡ lanes_of items q → IsSoundQuery before q → AreChangesOf q.out (query_changes items lists q)
  unfolding query_changes steps_of
  query-filled q is (query reads condition makes keyed _) =
      subst (λ m. AreChangesOf q.out (through (map (gives m) (join_of items q.from ++ filter_of q.filter) ++ shape_steps m (kind_at items (leftmost q.from)) q.shape) (read_entries items lists q.from))) is
      (read-filled q.filter q.from reads makes keyed (kind_at items (leftmost q.from)) (sym (reads-kind before items among reads)))

-- ---- declared relations

said-fits : (k : Kind) (kcs cs : List Column) (key : List Value) (value : Decoded) → IsKeyOf kcs key → IsDecodedOf cs value →
    IfSome (said_by k key value) (λ body. KeyOf k (column_types kcs) key × BodyHas k (column_types cs) body)
said-fits kind.Stream kcs cs key (Good row) h g = (key-types kcs key h, row-types cs row g)
said-fits kind.Stream kcs cs key Tombstone h g = tt
said-fits kind.Stream kcs cs key Skipped h g = tt
said-fits kind.Table kcs cs [] value h g = tt
said-fits kind.Table kcs cs (v ∷ vs) (Good row) h g = (key-types kcs (v ∷ vs) h, (tt, row-types cs row g))
said-fits kind.Table kcs cs (v ∷ vs) Tombstone h g = (key-types kcs (v ∷ vs) h, (tt, tt))
said-fits kind.Table kcs cs (v ∷ vs) Skipped h g = tt
said-fits kind.Windowed kcs cs key value h g = tt

module _ (items : List Item) (order : List SourceRecord) (records : AllByRecursion (IsRecordOf items) order) where
  saying-filled : (r : Relation) → relation_at items r.number ≡ Some r → (k : Kind) (source : SourceRecord) → IsRecordOf items source → is_of_topic r source ≡ true →
      AllByRecursion (IsChangeOf k (column_types r.schema.keys) (column_types r.schema.values)) (saying k source)
  saying-filled r at k source fit of_topic = by (said_by k source.key source.value) (said-fits k r.schema.keys r.schema.values source.key source.value (fit.key r here) (fit.row r here))
    where
      here : relation_at items source.stamp.topic ≡ Some r
      here = ap (relation_at items) ((unsigned_Decides source.stamp.topic r.number).0 of_topic) ∙ at

      by : (o : Option Body) → IfSome o (λ body. KeyOf k (column_types r.schema.keys) source.key × BodyHas k (column_types r.schema.values) body) →
          AllByRecursion (IsChangeOf k (column_types r.schema.keys) (column_types r.schema.values)) (placed_at source o)
      by None h = tt
      by (Some body) h = (h, tt)

  declared-through : (k : Kind) (number : ℕ) (ks ts : List (Option SqlType)) (changes : List Change) → AllByRecursion (IsChangeOf k ks ts) changes →
      AllByRecursion (IsChangeOf k ks ts) (through (steps_of_declared k number) (from_side 0 changes))
  declared-through kind.Stream number ks ts changes h = subst (AllByRecursion (IsChangeOf kind.Stream ks ts)) (sym (changed-from-side changes)) h
  declared-through kind.Table number ks ts changes h = last-give (IsChangeOf kind.Table ks ts) (IsChangeOf kind.Table ks ts) (gives 1 (node.Table number)) (table-fits 1 number ks ts) changes h
  declared-through kind.Windowed number ks ts changes h = subst (AllByRecursion (IsChangeOf kind.Windowed ks ts)) (sym (changed-from-side changes)) h

  -- what the records of a relation say
  pub said-filled : (r : Relation) → relation_at items r.number ≡ Some r → AreChangesOf r (said r order)
  unfolding said
  said-filled r at =
      All-flat_map (IsChangeOf r.kind (column_types r.schema.keys) (column_types r.schema.values)) (saying r.kind) (λ source. IsRecordOf items source × (is_of_topic r source ≡ true))
      (λ source h. saying-filled r at r.kind source h.0 h.1) (filter (is_of_topic r) order)
      (All-both (IsRecordOf items) (λ source. is_of_topic r source ≡ true) (filter (is_of_topic r) order) (All-filter (IsRecordOf items) (is_of_topic r) order records) (All-passes (is_of_topic r) order))

  declared-filled : (r : Relation) → relation_at items r.number ≡ Some r → AreChangesOf r (declared_changes r order)
  unfolding declared_changes
  declared-filled r at =
      declared-through r.kind r.number (column_types r.schema.keys) (column_types r.schema.values) (said r order) (said-filled r at)

  item-filled : (before : List Item) (lists : List (List Change)) → AreAmong before items → Each AreChangesOf before lists → (i : Item) →
      relation_at items (length before) ≡ Some (relation_of i) → IsSoundItem before i → AreChangesOf (relation_of i) (item_changes items order lists i)
  item-filled before lists among each (Declared r) at sound = declared-filled r (ap (relation_at items) sound.0.numbered ∙ at)
  item-filled before lists among each (Started q) at sound = query-filled items before among lists each (lanes_of items q) q refl sound.1

-- the changes of each relation have keys and rows of its columns
pub meant-changes : (items : List Item) (order : List SourceRecord) → IsSound items → All (IsRecordOf items) order → Each AreChangesOf items (meaning items order)
meant-changes items order sound records =
    meant-each AreChangesOf items order (item-filled items order (recursion_from_All (IsRecordOf items) order records)) [] [] tt items sound.sound refl

pub meant-filled : (items : List Item) (order : List SourceRecord) → IsSound items → All (IsRecordOf items) order → HaveColumns items (meaning items order)
meant-filled items order sound records number r at =
    All-from_recursion (HasColumnsOf r) (changes_at (meaning items order) number)
    (All-weaker (IsChangeOf r.kind (column_types r.schema.keys) (column_types r.schema.values)) (HasColumnsOf r) (filled-columns r) (changes_at (meaning items order) number)
    (each-at AreChangesOf items (meaning items order) (meant-changes items order sound records) number r at))
