-- Where the own key of what a query reads is the key that a node needs.
use Rattle.std.proofs.Common.{◌≡◌, ◌∙◌, ap, refl, sym, subst, ℕ, ◌≤◌, List, [], ◌∷◌, map, length, true, false, true≢false, arith}
use Rattle.std.specs.Prelude.{◌==◌, ◌&&◌, not, Option, Some, option_map, unwrap_or}
use Rattle.std.specs.List.{AllByRecursion}
use Rattle.std.proofs.lemmas.Bool.{and_parts, eqb-true, not-false}
use Rattle.std.proofs.lemmas.List.{length-map}
use Rattle.ksql_types.specs.Columns.{columns}
use Rattle.ksql_types.specs.declared.relation.Kind.{Kind}
use Rattle.ksql_types.specs.declared.relation.Kind.TheVariants as kind
use Rattle.ksql_types.specs.declared.relation.Relation.{Relation}
use Rattle.ksql_types.specs.declared.value.SqlType.{SqlType}
use Rattle.ksql_types.specs.declared.value.Value.{Value}
use Rattle.ksql_place.specs.declared.change.Body.{Body}
use Rattle.ksql_place.specs.declared.change.Body.TheVariants.{Said, Turned}
use Rattle.ksql_place.specs.declared.change.Change.{Change}
use Rattle.ksql_expr.specs.declared.typed.Typed.{Typed}
use Rattle.ksql_program.specs.Program.{relation_at}
use Rattle.ksql_program.specs.Sound.{column_types, IsJoined, joined, JoinsStream, JoinsTable, one, Reads}
use Rattle.ksql_program.specs.declared.program.Item.{Item}
use Rattle.ksql_program.specs.declared.query.From.{From}
use Rattle.ksql_program.specs.declared.query.From.TheVariants.{One, Join}
use Rattle.ksql_program.specs.declared.query.JoinKind.{JoinKind}
use Rattle.ksql_program.specs.declared.query.JoinKind.TheVariants.{Inner, Left, Full}
use Rattle.ksql_nodes.specs.declared.node.Node.TheVariants.{Filter, JoinStreamTable, JoinTables}
use Rattle.ksql_nodes.specs.Entries.{Entry, Step, from_side, results, through}
use Rattle.ksql_nodes.specs.Joins.{join_key}
use Rattle.ksql_nodes.specs.Nodes.{gives}
use Rattle.query_meaning.specs.Queries.{changes_at, join_of, join_over, key_columns, kind_at, read_entries, side_at, whole_changes, with_key_cells}
use Rattle.meaning_laws.proofs.EachRelation.{AreAmong, Each, each-at}
use Rattle.meaning_laws.proofs.JoinedRows.{IsOfSides}
use Rattle.meaning_laws.proofs.Lists.{All-map, All-weaker}
use Rattle.meaning_laws.proofs.RelationColumns.{AreChangesOf, entries-sided, joins-table, stream-partial, wide-at}
use Rattle.meaning_laws.proofs.RelationTables.{reads-kind, reads-unwindowed}
use Rattle.meaning_laws.proofs.RowTypes.{BodyHas, IsChangeOf, KeyOf, WholeKey, table-apart, whole-filled}
use Rattle.meaning_laws.proofs.Sizes.{GivesFor, entries-give, results-give}
use Rattle.meaning_laws.proofs.Turning.{changed-from-side}
use Rattle.topology.specs.Stages.{are_columns_from, are_own_key, is_column, is_joined_key, is_rekeyed}
use Rattle.lane_laws.specs.Lanes.{IsInOwnGroup, IsJoinedByKey, IsKeyed}
use Rattle.topology_laws.proofs.KeyedJoins.{stream-grouped, tables-grouped}
use Rattle.topology_laws.proofs.KeyedRows.{IsKeyedChange, filter-grouped, whole-grouped, whole-keyed}

-- a condition leaves rows in their groups
pub filter-own : (n : ℕ) (on : Typed) (keys : List Typed) (es : List Entry) → AllByRecursion (λ e. IsInOwnGroup keys e.change) es →
    AllByRecursion (λ (e : Entry). IsInOwnGroup keys e.change) (from_side 0 (results (gives n (Filter on)) [] es))
filter-own n on keys es own =
    entries-give (IsInOwnGroup keys) 0 (results (gives n (Filter on)) [] es) (results-give (λ e. IsInOwnGroup keys e.change) (IsInOwnGroup keys) (gives n (Filter on)) (filter-grouped n on keys) [] es tt own)

-- ---- which join there is

joins-stream : (k : JoinKind) (on : Typed) (l r : Relation) → IsJoined k on l r → l.kind ≡ kind.Stream → JoinsStream on l r
joins-stream Inner on l r j is =
    let same : l ≡ record l { kind = kind.Stream } = λ i. record l { kind = is i } in
    subst (λ x. JoinsStream on x r) (sym same) (subst (λ x. IsJoined Inner on x r) same j)
joins-stream Left on l r j is =
    let same : l ≡ record l { kind = kind.Stream } = λ i. record l { kind = is i } in
    subst (λ x. JoinsStream on x r) (sym same) (subst (λ x. IsJoined Left on x r) same j)
joins-stream Full on l r j is = absurd (table-apart (sym j.left_table ∙ is))

-- ---- keys

keyed-key : (ks : List (Option SqlType)) → 1 ≤ length ks → (key : List Value) → WholeKey ks key → IsKeyed key
keyed-key [] some key h = absurd (omega (arith, some))
keyed-key (t ∷ ts) some [] h = absurd h.0
keyed-key (t ∷ ts) some (v ∷ vs) h = tt

-- a change that is in the group of its join key is joined by its key
joined-by : (on : Typed) (c : Change) → IsInOwnGroup (on ∷ []) c → IsKeyed (join_key on c) → join_key on c ≡ c.key
joined-by on c own keyed = by c.body own keyed
  where
    by : (body : Body) → IsInOwnGroup (on ∷ []) (record c { body = body }) → IsKeyed (join_key on (record c { body = body })) → join_key on (record c { body = body }) ≡ c.key
    by (Said row) own keyed = own
    by (Turned old new) own keyed = absurd keyed

-- a key of one column, by an expression that is this column
columns-by : (count : ℕ) (on : Typed) → not ((count == 1) && is_column 0 on) ≡ false → are_columns_from 0 count (on ∷ []) ≡ true
columns-by count on h =
    let parts = and_parts (count == 1) (is_column 0 on) (not-false ((count == 1) && is_column 0 on) h) in
    subst (λ k. are_columns_from 0 k (on ∷ []) ≡ true) (sym (eqb-true count 1 parts.0)) (ap (λ b. b && true) parts.1)

module _ (items before : List Item) (among : AreAmong before items) (lists : List (List Change)) (each : Each AreChangesOf before lists) where
  -- the changes of a table have keys
  pub table-keyed : (number : ℕ) (r : Relation) → relation_at before number ≡ Some r → r.kind ≡ kind.Table → 1 ≤ length r.schema.keys →
      AllByRecursion (λ c. IsKeyed c.key) (changes_at lists number)
  table-keyed number r at is some =
      let ks : List (Option SqlType) = column_types r.schema.keys in
      All-weaker (IsChangeOf r.kind ks (column_types r.schema.values)) (λ c. IsKeyed c.key)
      (λ c h. keyed-key ks (subst (λ n. 1 ≤ n) (sym (length-map r.schema.keys (λ c. Some c.ty))) some) c.key (subst (λ k. KeyOf k ks c.key) is h.0)) (changes_at lists number)
      (each-at AreChangesOf before lists each number r at)

  -- ---- the whole changes of a relation

  keys-at : (number : ℕ) (r : Relation) → relation_at before number ≡ Some r → key_columns items number ≡ length r.schema.keys
  keys-at number r at = ap (λ o. unwrap_or (option_map (λ r. length r.schema.keys) o) 0) (among number r at)

  whole-each : (P : Change → Type 0) (number : ℕ) (r : Relation) → relation_at before number ≡ Some r →
      ((c : Change) → IsChangeOf r.kind (column_types r.schema.keys) (column_types r.schema.values) c → P (with_key_cells (length r.schema.keys) c)) → AllByRecursion P (whole_changes items lists number)
  whole-each P number r at give =
      subst (λ k. AllByRecursion P (map (with_key_cells k) (changes_at lists number))) (sym (keys-at number r at))
      (All-map P (with_key_cells (length r.schema.keys)) (changes_at lists number)
      (All-weaker (IsChangeOf r.kind (column_types r.schema.keys) (column_types r.schema.values)) (λ c. P (with_key_cells (length r.schema.keys) c)) give (changes_at lists number)
      (each-at AreChangesOf before lists each number r at)))

  whole-own : (number : ℕ) (r : Relation) → relation_at before number ≡ Some r → (keys : List Typed) → are_columns_from 0 (key_columns items number) keys ≡ true →
      AllByRecursion (IsInOwnGroup keys) (whole_changes items lists number)
  whole-own number r at keys own =
      whole-each (IsInOwnGroup keys) number r at (λ c h. whole-grouped r keys (subst (λ k. are_columns_from 0 k keys ≡ true) (keys-at number r at) own) r.kind c h)

  stream-whole : (number : ℕ) (r : Relation) → relation_at before number ≡ Some r → r.kind ≡ kind.Stream →
      AllByRecursion (λ c. BodyHas kind.Stream (column_types (columns r)) c.body) (whole_changes items lists number)
  stream-whole number r at is =
      whole-each (λ c. BodyHas kind.Stream (column_types (columns r)) c.body) number r at
      (λ c h. subst (λ k. BodyHas k (column_types (columns r)) (with_key_cells (length r.schema.keys) c).body) is (whole-filled r.kind r c h).1)

  table-whole : (number : ℕ) (r : Relation) → relation_at before number ≡ Some r → r.kind ≡ kind.Table → length r.schema.keys ≡ 1 →
      AllByRecursion (IsKeyedChange (column_types (columns r))) (whole_changes items lists number)
  table-whole number r at is single =
      whole-each (IsKeyedChange (column_types (columns r))) number r at
      (λ c h. whole-keyed r single c (subst (λ k. IsChangeOf k (column_types r.schema.keys) (column_types r.schema.values) c) is h))

  -- ---- joins

  node-own : (keys : List Typed) (P : Entry → Type 0) (step : Step) → GivesFor P (IsInOwnGroup keys) step → (es : List Entry) → AllByRecursion P es → AllByRecursion (IsInOwnGroup keys) (through (step ∷ []) es)
  node-own keys P step give es h =
      subst (AllByRecursion (IsInOwnGroup keys)) (sym (changed-from-side (results step [] es))) (results-give P (IsInOwnGroup keys) step give [] es tt h)

  join-own : (n : ℕ) (k : JoinKind) (left right : ℕ) (on : Typed) (l r : Relation) → relation_at before left ≡ Some l → relation_at before right ≡ Some r → r.kind ≡ kind.Table → IsJoined k on l r →
      (over : Kind) → l.kind ≡ over → (over ≡ kind.Windowed → ⊥) → (key : Typed) → is_joined_key over k (side_at items left) (side_at items right) on key ≡ true →
      AllByRecursion (IsInOwnGroup (key ∷ [])) (through (map (gives n) (join_over items k left right on over)) (read_entries items lists (Join k left right on)))
  join-own n k left right on l r at_left at_right table j kind.Stream is un key own =
      let stream : JoinsStream on l r = joins-stream k on l r j is in
      let lts : List (Option SqlType) = column_types (columns l) in
      let rts : List (Option SqlType) = column_types (columns r) in
      node-own (key ∷ []) (IsOfSides (λ c. BodyHas kind.Stream lts c.body) (IsKeyedChange rts)) (gives n (JoinStreamTable k on (side_at items left) (side_at items right)))
      (stream-grouped (side_at items left) (side_at items right) lts rts (wide-at items before among left l at_left) (wide-at items before among right r at_right) on key stream.over_left.typed k (stream-partial k on l r j is) own n)
      (read_entries items lists (Join k left right on))
      (entries-sided items lists k left right on (λ c. BodyHas kind.Stream lts c.body) (IsKeyedChange rts) (stream-whole left l at_left is) (table-whole right r at_right table stream.one_key))
  join-own n k left right on l r at_left at_right table j kind.Table is un key own =
      let tables : JoinsTable on l r = joins-table k on l r j is in
      let lts : List (Option SqlType) = column_types (columns l) in
      let rts : List (Option SqlType) = column_types (columns r) in
      node-own (key ∷ []) (IsOfSides (IsKeyedChange lts) (IsKeyedChange rts)) (gives n (JoinTables k (side_at items left) (side_at items right)))
      (tables-grouped (side_at items left) (side_at items right) lts rts (wide-at items before among left l at_left) (wide-at items before among right r at_right) k key own n)
      (read_entries items lists (Join k left right on))
      (entries-sided items lists k left right on (IsKeyedChange lts) (IsKeyedChange rts) (table-whole left l at_left is tables.one_key_left) (table-whole right r at_right table tables.one_key_right))
  join-own n k left right on l r at_left at_right table j kind.Windowed is un key own = absurd (un refl)

  -- what a query reads is in the groups of its own key
  pub own-read : (n : ℕ) (from : From) (types : List (Option SqlType)) (l : Relation) → Reads before from types l → (keys : List Typed) → are_own_key items from keys ≡ true →
      AllByRecursion (λ c. IsInOwnGroup keys c) (through (map (gives n) (join_of items from)) (read_entries items lists from))
  unfolding read_entries
  own-read n (One number) types l (one at _) keys own =
      subst (AllByRecursion (IsInOwnGroup keys)) (sym (changed-from-side (whole_changes items lists number))) (whole-own number l at keys own)
  own-read n (Join k left right on) types l reads [] own = absurd (true≢false (sym own))
  own-read n (Join k left right on) types l reads (key ∷ more ∷ keys) own = absurd (true≢false (sym own))
  own-read n (Join k left right on) types l (joined {r = r} at_left at_right apart table same j) (key ∷ []) own =
      let reads : Reads before (Join k left right on) types l = joined at_left at_right apart table same j in
      join-own n k left right on l r at_left at_right table j (kind_at items left) (sym (reads-kind before items among reads))
      (λ windowed. reads-unwindowed before reads (sym (reads-kind before items among reads) ∙ windowed)) key own

  -- a stream that isn't rekeyed for its join has the join key
  pub left-by-key : (k : JoinKind) (left right : ℕ) (on : Typed) (types : List (Option SqlType)) (l : Relation) → Reads before (Join k left right on) types l → l.kind ≡ kind.Stream →
      is_rekeyed items (Join k left right on) ≡ false → AllByRecursion (IsJoinedByKey on) (from_side 0 (whole_changes items lists left))
  left-by-key k left right on types l (joined at_left at_right apart table same j) is plain =
      let reads : Reads before (Join k left right on) types l = joined at_left at_right apart table same j in
      let kind_is : kind_at items left ≡ kind.Stream = reads-kind before items among reads ∙ is in
      All-weaker (λ (e : Entry). IsInOwnGroup (on ∷ []) e.change) (IsJoinedByKey on) (λ e h side. joined-by on e.change h) (from_side 0 (whole_changes items lists left))
      (entries-give (IsInOwnGroup (on ∷ [])) 0 (whole_changes items lists left) (whole-own left l at_left (on ∷ []) (columns-by (key_columns items left) on (rw kind_is at plain))))
