-- The content of the topics of relations, with whole rows.
use Rattle.std.proofs.Common.{◌≡◌, ◌∙◌, ap, ap₂, refl, sym, subst, ℕ, zero, suc, ◌<◌, List, [], ◌∷◌, ◌++◌, length, map, arith}
use Rattle.std.specs.Prelude.{filter, Option, Some, None, option_map, unwrap_or}
use Rattle.std.specs.List.{AllByRecursion}
use Rattle.ksql_types.specs.declared.relation.Column.{Column}
use Rattle.ksql_types.specs.declared.relation.Kind.{Kind}
use Rattle.ksql_types.specs.declared.relation.Kind.TheVariants as kind
use Rattle.ksql_types.specs.declared.relation.Relation.{Relation}
use Rattle.ksql_types.specs.declared.value.SqlType.{SqlType}
use Rattle.ksql_types.specs.declared.value.Value.{Value}
use Rattle.ksql_place.specs.declared.change.Body.{Body}
use Rattle.ksql_place.specs.declared.change.Body.TheVariants.{Said, Turned}
use Rattle.ksql_place.specs.declared.change.Change.{Change}
use Rattle.ksql_program.specs.Program.{relation_at}
use Rattle.ksql_program.specs.Sound.{column_types}
use Rattle.ksql_program.specs.declared.program.Item.{Item}
use Rattle.ksql_nodes.specs.declared.node.Node.TheVariants as node
use Rattle.ksql_nodes.specs.Entries.{Row, from_side, results}
use Rattle.ksql_nodes.specs.Nodes.{gives}
use Rattle.query_meaning.specs.Queries.{changes_at, key_cells, key_columns, partitions_at, whole_changes, with_key_cells}
use Rattle.meaning_laws.proofs.Lists.{All-map, All-weaker, Pairwise-map}
use Rattle.meaning_laws.proofs.Forks.{IsBefore, Rise}
use Rattle.meaning_laws.proofs.EachRelation.{AreAmong, Each, each-at}
use Rattle.meaning_laws.proofs.RelationColumns.{AreChangesOf}
use Rattle.meaning_laws.proofs.RowTypes.{IsChangeOf, KeyHas, KeyOf}
use Rattle.ksql_place.specs.Routing.{is_to}
use Rattle.topology.specs.Contents.{with_cells}
use Rattle.lane_laws.specs.Lanes.{HasKey, IsKeyed, tabled}
use Rattle.lane_laws.proofs.Inputs.{cells-part, tabled-cells}
use Rattle.sending_laws.proofs.ItemLists.{partitions-at}
use Rattle.topology_laws.proofs.Raw.{IsRaw}

-- ---- cells of keys

-- a change without a key is whole if there are no key columns
bare-whole : (c : Change) → c.key ≡ [] → with_key_cells 0 c ≡ c
bare-whole c none = λ i. record c { body = by c.body i }
  where
    in_row : (o : Option Row) → option_map (λ row. key_cells 0 c.key ++ row) o ≡ o
    in_row None = refl
    in_row (Some row) = ap (λ (key : List Value). Some (key_cells 0 key ++ row)) none

    by : (b : Body) → (with_key_cells 0 (record c { body = b })).body ≡ b
    by (Said row) = ap (λ (key : List Value). Said (key_cells 0 key ++ row)) none
    by (Turned old new) = ap₂ (λ o n. Turned o n) (in_row old) (in_row new)

-- so what a task puts in front of rows is what the meaning puts there
pub cells-whole : (columns : ℕ) (cs : List Change) → (columns ≡ 0 → AllByRecursion (λ c. c.key ≡ []) cs) → map (with_cells columns) cs ≡ map (with_key_cells columns) cs
cells-whole columns [] bare = refl
cells-whole zero (c ∷ cs) bare = ap₂ (λ (x : Change) xs. x ∷ xs) (sym (bare-whole c (bare refl).0)) (cells-whole zero cs (λ is. (bare is).1))
cells-whole (suc columns) (c ∷ cs) bare = ap (λ (xs : List Change). with_key_cells (suc columns) c ∷ xs) (cells-whole (suc columns) cs (λ is. (bare is).1))

-- the rows of a repartition topic are whole
pub cells-none : (cs : List Change) → map (with_cells 0) cs ≡ cs
cells-none [] = refl
cells-none (c ∷ cs) = ap (λ (xs : List Change). c ∷ xs) (cells-none cs)

cells-rise : (columns : ℕ) (cs : List Change) → Rise cs → Rise (map (with_cells columns) cs)
cells-rise zero cs rise = Pairwise-map (λ c d. IsBefore c.place d.place) (with_cells 0) cs rise
cells-rise (suc columns) cs rise = Pairwise-map (λ c d. IsBefore c.place d.place) (with_cells (suc columns)) cs rise

cells-keyed : (columns : ℕ) (cs : List Change) → AllByRecursion (λ c. IsKeyed c.key) cs → AllByRecursion (λ c. IsKeyed c.key) (map (with_cells columns) cs)
cells-keyed zero cs keyed = All-map (λ c. IsKeyed c.key) (with_cells 0) cs keyed
cells-keyed (suc columns) cs keyed = All-map (λ c. IsKeyed c.key) (with_cells (suc columns)) cs keyed

no-columns : (key : List Value) → KeyHas [] key → key ≡ []
no-columns [] has = refl
no-columns (v ∷ vs) has = absurd has.0

no-key : (over : Kind) (key : List Value) → KeyOf over [] key → key ≡ []
no-key kind.Stream key has = no-columns key has
no-key kind.Table [] has = refl
no-key kind.Table (v ∷ vs) has = absurd has.0
no-key kind.Windowed [] has = refl
no-key kind.Windowed (v ∷ vs) has = absurd has.0

-- no change of a relation without key columns has a key
bare-changes : (over : Kind) (types : List (Option SqlType)) (cs : List Change) → AllByRecursion (IsChangeOf over [] types) cs → AllByRecursion (λ c. c.key ≡ []) cs
bare-changes over types cs h = All-weaker (IsChangeOf over [] types) (λ c. c.key ≡ []) (λ c of. no-key over c.key of.0) cs h

no-types : (columns : List Column) → length columns ≡ 0 → column_types columns ≡ []
no-types [] is = refl
no-types (c ∷ cs) is = absurd (omega (arith, is))

-- the node Table has no stream time
one-time : (n number : ℕ) (cs : List Change) → results (gives n (node.Table number)) [] (from_side 0 cs) ≡ tabled number cs
unfolding gives
one-time n number cs = refl

-- ---- relations

module _ (items before : List Item) (among : AreAmong before items) (number : ℕ) (r : Relation) (at : relation_at before number ≡ Some r) where
  columns-at : key_columns items number ≡ length r.schema.keys
  columns-at = ap (λ (o : Option Relation). unwrap_or (option_map (λ x. length x.schema.keys) o) 0) (among number r at)

  pub some-partition : 0 < r.partitions → 0 < partitions_at items number
  some-partition some = subst (λ n. 0 < n) (sym (partitions-at items before among number r at)) some

-- the content of a relation's topic, with whole rows
abbrev pub whole_raw : List Item → (ℕ → List Change) → ℕ → List Change
whole_raw items raws number = map (with_cells (key_columns items number)) (raws number)

module _ (items : List Item) (raws : ℕ → List Change) (number : ℕ) where
  pub whole-part : (n part : ℕ) (stands : List Change) → stands ≡ filter (is_to n part) (raws number) →
      map (with_cells (key_columns items number)) stands ≡ filter (is_to n part) (whole_raw items raws number)
  whole-part n part stands is = ap (map (with_cells (key_columns items number))) is ∙ cells-part n part (key_columns items number) (raws number)

  pub whole-raw-rise : Rise (raws number) → Rise (whole_raw items raws number)
  whole-raw-rise rise = cells-rise (key_columns items number) (raws number) rise

module _ (items before : List Item) (among : AreAmong before items) (lists : List (List Change)) (each : Each AreChangesOf before lists)
    (raws : ℕ → List Change) (number : ℕ) (r : Relation) (at : relation_at before number ≡ Some r) (raw : IsRaw r (raws number) (changes_at lists number)) where
  no-keys : key_columns items number ≡ 0 → AllByRecursion (λ (c : Change). c.key ≡ []) (changes_at lists number)
  no-keys none =
      bare-changes r.kind (column_types r.schema.values) (changes_at lists number)
      (subst (λ types. AllByRecursion (IsChangeOf r.kind types (column_types r.schema.values)) (changes_at lists number))
      (no-types r.schema.keys (sym (columns-at items before among number r at) ∙ none)) (each-at AreChangesOf before lists each number r at))

  -- a stream has its changes there
  pub whole-stream : r.kind ≡ kind.Stream → whole_raw items raws number ≡ whole_changes items lists number
  whole-stream is = ap (map (with_cells (key_columns items number))) (sym (raw.stream is)) ∙ cells-whole (key_columns items number) (changes_at lists number) no-keys

  pub whole-keyed : r.kind ≡ kind.Table → (side : ℕ) → AllByRecursion HasKey (from_side side (whole_raw items raws number))
  whole-keyed is side =
      All-map HasKey (λ c. record { side = side; change = c }) (whole_raw items raws number)
      (cells-keyed (key_columns items number) (raws number) (raw.keyed is))

  -- and of a table the node Table makes its changes
  pub whole-table : r.kind ≡ kind.Table → r.number ≡ number → (n : ℕ) → results (gives n (node.Table number)) [] (from_side 0 (whole_raw items raws number)) ≡ whole_changes items lists number
  whole-table is numbered n = by (key_columns items number) refl
    where
      changes : tabled number (raws number) ≡ changes_at lists number
      changes = ap (λ x. tabled x (raws number)) (sym numbered) ∙ sym (raw.table is)

      by : (columns : ℕ) → key_columns items number ≡ columns →
          results (gives n (node.Table number)) [] (from_side 0 (map (with_cells columns) (raws number))) ≡ map (with_key_cells columns) (changes_at lists number)
      by zero none =
          ap (λ cs. results (gives n (node.Table number)) [] (from_side 0 cs)) (cells-none (raws number))
          ∙ one-time n number (raws number) ∙ changes
          ∙ sym (cells-none (changes_at lists number)) ∙ cells-whole 0 (changes_at lists number) (λ _. no-keys none)
      by (suc columns) none =
          ap (λ cs. results (gives n (node.Table number)) [] (from_side 0 cs)) (cells-whole (suc columns) (raws number) (λ is. absurd (omega (arith, is))))
          ∙ tabled-cells n number (suc columns) (raws number) ∙ ap (map (with_key_cells (suc columns))) changes
