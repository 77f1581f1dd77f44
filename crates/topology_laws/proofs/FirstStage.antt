-- What the first stage of a query reads, and that its tasks turn it into what the query reads.
use Rattle.std.proofs.Common.{◌≡◌, ◌∙◌, ap, ap₂, refl, sym, subst, ℕ, ◌<◌, List, [], ◌∷◌, ◌++◌, map, Bool, true, false}
use Rattle.std.specs.Prelude.{filter, if◌then◌else◌, Option, Some, option_map, unwrap_or}
use Rattle.std.specs.List.{AllByRecursion}
use Rattle.ksql_types.specs.declared.relation.Kind.{Kind}
use Rattle.ksql_types.specs.declared.relation.Kind.TheVariants as kind
use Rattle.ksql_types.specs.declared.relation.Relation.{Relation}
use Rattle.ksql_types.specs.declared.value.SqlType.{SqlType}
use Rattle.ksql_place.specs.declared.change.Change.{Change}
use Rattle.ksql_expr.specs.declared.typed.Typed.{Typed}
use Rattle.ksql_program.specs.Program.{relation_at}
use Rattle.ksql_program.specs.Sound.{Reads, one, joined}
use Rattle.ksql_program.specs.declared.program.Item.{Item}
use Rattle.ksql_program.specs.declared.query.From.{From}
use Rattle.ksql_program.specs.declared.query.From.TheVariants.{One, Join}
use Rattle.ksql_program.specs.declared.query.JoinKind.{JoinKind}
use Rattle.ksql_nodes.specs.declared.node.Node.{Node}
use Rattle.ksql_nodes.specs.declared.node.Node.TheVariants as node
use Rattle.ksql_nodes.specs.Entries.{Entry, from_side, results, through}
use Rattle.ksql_nodes.specs.Nodes.{gives}
use Rattle.query_meaning.specs.Queries.{changes_at, join_of, join_over, kind_at, read_entries, side_at, whole_changes}
use Rattle.meaning_laws.proofs.EachRelation.{AreAmong, Each, each-at}
use Rattle.meaning_laws.proofs.Forks.{Rise}
use Rattle.meaning_laws.proofs.RelationColumns.{AreChangesOf}
use Rattle.meaning_laws.proofs.RelationTables.{reads-unwindowed}
use Rattle.meaning_laws.proofs.RelationPlaces.{whole-rise}
use Rattle.meaning_laws.proofs.Rising.{RiseAt, base, gives-rising, results-rise, triggers}
use Rattle.meaning_laws.proofs.Sides.{both-rise, lefts-rise}
use Rattle.meaning_laws.proofs.Turning.{changed-from-side}
use Rattle.ksql_place.specs.Routing.{is_to}
use Rattle.topology.specs.Contents.{Contents, task_entries, with_cells}
use Rattle.topology.specs.Stages.{is_rekeyed, table_of}
use Rattle.topology.specs.declared.topology.SubInput.{SubInput}
use Rattle.lane_laws.specs.Lanes.{AreLaned, HasKey, IsJoinedByKey, in_part, merged}
use Rattle.lane_laws.proofs.Inputs.{merged-keyed, merged-part, side-part}
use Rattle.lane_laws.proofs.NodeLanes.{laned-stream-join, laned-table, laned-table-join}
use Rattle.lane_laws.proofs.RawTables.{stream-join-raw, table-join-raw}
use Rattle.lane_laws.proofs.Rekeying.{merged-by-key, rekeyed-by-key, rekeyed-join}
use Rattle.topology_laws.proofs.Raw.{IsRaw}
use Rattle.topology_laws.proofs.InARow.{entries_after, entries-changes, one-node}
use Rattle.topology_laws.proofs.OwnKeys.{left-by-key}
use Rattle.topology_laws.proofs.WholeRaw.{whole_raw, whole-keyed, whole-raw-rise, whole-stream, whole-table}

-- ---- parts

-- the content of one partition of a topic is its part of a list
abbrev pub Stands : Contents → SubInput → ℕ → ℕ → List Change → Type 0
Stands has input n part whole = map (with_cells input.keys) (has input.topic part) ≡ filter (is_to n part) whole

pub one-part : (has : Contents) (input : SubInput) (n part : ℕ) (whole : List Change) → Stands has input n part whole →
    task_entries (input ∷ []) has part ≡ filter (in_part n part) (from_side 0 whole)
one-part has input n part whole stands = ap (from_side 0) stands ∙ side-part n part 0 whole

-- a task of a join reads the same part of both sides
pub two-parts : (has : Contents) (a b : SubInput) (n part : ℕ) (lefts rights : List Change) → Stands has a n part lefts → Stands has b n part rights →
    task_entries (a ∷ b ∷ []) has part ≡ filter (in_part n part) (merged a.relation b.relation lefts rights)
two-parts has a b n part lefts rights left right = ap₂ (merged a.relation b.relation) left right ∙ merged-part n part a.relation b.relation lefts rights

-- ---- whole lists

-- the left side of a join, which may be rekeyed
abbrev pub left_side : ℕ → Bool → Typed → List Change → List Change
left_side n again on lefts = if again then results (gives n (node.Rekey on)) [] (from_side 0 lefts) else lefts

-- what the tasks of the first stage read, of all partitions
abbrev pub raw_entries : List Item → (ℕ → List Change) → ℕ → From → List Entry
raw_entries items raws n (One number) = from_side 0 (whole_raw items raws number)
raw_entries items raws n (Join k left right on) =
    merged left right (left_side n (is_rekeyed items (Join k left right on)) on (whole_raw items raws left)) (whole_raw items raws right)

-- the nodes that turn it into what the query reads
abbrev pub first_nodes : List Item → From → List Node
first_nodes items from = table_of items from ++ join_of items from

-- what a query reads, after its join
abbrev pub read_changes : List Item → List (List Change) → ℕ → From → List Change
read_changes items lists n from = through (map (gives n) (join_of items from)) (read_entries items lists from)

-- after the join come the changes that are read
pub read-after : (items : List Item) (lists : List (List Change)) (n : ℕ) (from : From) →
    entries_after (map (gives n) (join_of items from)) (read_entries items lists from) ≡ from_side 0 (read_changes items lists n from)
unfolding read_entries
read-after items lists n (One number) = entries-changes [] (whole_changes items lists number)
read-after items lists n (Join k left right on) = by (kind_at items left)
  where
    es : List Entry
    es = read_entries items lists (Join k left right on)

    by : (over : Kind) → entries_after (map (gives n) (join_over items k left right on over)) es ≡ from_side 0 (through (map (gives n) (join_over items k left right on over)) es)
    by kind.Stream = one-node n (node.JoinStreamTable k on (side_at items left) (side_at items right)) es
    by kind.Table = one-node n (node.JoinTables k (side_at items left) (side_at items right)) es
    by kind.Windowed = one-node n (node.JoinTables k (side_at items left) (side_at items right)) es

module _ (items before : List Item) (among : AreAmong before items) (lists : List (List Change))
    (each : Each AreChangesOf before lists) (rise : Each (λ r. Rise) before lists)
    (numbered : (number : ℕ) (r : Relation) → relation_at before number ≡ Some r → (r.number ≡ number) × (0 < r.partitions))
    (raws : ℕ → List Change) (raw : (number : ℕ) (r : Relation) → relation_at before number ≡ Some r → IsRaw r (raws number) (changes_at lists number) × Rise (raws number)) (n : ℕ) where
  kind-is : (number : ℕ) (r : Relation) → relation_at before number ≡ Some r → kind_at items number ≡ r.kind
  kind-is number r at = ap (λ (o : Option Relation). unwrap_or (option_map (λ x. x.kind) o) kind.Stream) (among number r at)

  stream-changes : (number : ℕ) (r : Relation) → relation_at before number ≡ Some r → r.kind ≡ kind.Stream → whole_raw items raws number ≡ whole_changes items lists number
  stream-changes number r at is = whole-stream items before among lists each raws number r at (raw number r at).0 is

  table-changes : (number : ℕ) (r : Relation) → relation_at before number ≡ Some r → r.kind ≡ kind.Table → (m : ℕ) →
      results (gives m (node.Table number)) [] (from_side 0 (whole_raw items raws number)) ≡ whole_changes items lists number
  table-changes number r at is m = whole-table items before among lists each raws number r at (raw number r at).0 is (numbered number r at).0 m

  table-keys : (number : ℕ) (r : Relation) → relation_at before number ≡ Some r → r.kind ≡ kind.Table → (side : ℕ) → AllByRecursion HasKey (from_side side (whole_raw items raws number))
  table-keys number r at is side = whole-keyed items before among lists each raws number r at (raw number r at).0 is side

  raw-rise : (number : ℕ) (r : Relation) → relation_at before number ≡ Some r → Rise (whole_raw items raws number)
  raw-rise number r at = whole-raw-rise items raws number (raw number r at).1

  -- some nodes are divided on some entries, and turn them into what a query reads
  abbrev AreFirst : List Node → List Entry → List Change → Type 0
  AreFirst nodes es read = AreLaned n nodes es × (entries_after (map (gives n) nodes) es ≡ from_side 0 read)

  abbrev pub IsFirst : From → Type 0
  IsFirst from = AreFirst (first_nodes items from) (raw_entries items raws n from) (read_changes items lists n from)

  -- of one relation
  one-first : (number : ℕ) (r : Relation) → relation_at before number ≡ Some r → (over : Kind) → r.kind ≡ over → (over ≡ kind.Windowed → ⊥) → IsFirst (One number)
  unfolding read_entries
  one-first number r at kind.Stream is un =
      let nodes : table_of items (One number) ≡ [] = rw (kind-is number r at, is) refl in
      subst (λ xs. AreFirst (xs ++ []) (from_side 0 (whole_raw items raws number)) (read_changes items lists n (One number))) (sym nodes)
      (tt, ap (from_side 0) (stream-changes number r at is ∙ sym (changed-from-side (whole_changes items lists number))))
  one-first number r at kind.Table is un =
      let nodes : table_of items (One number) ≡ node.Table number ∷ [] = rw (kind-is number r at, is) refl in
      subst (λ xs. AreFirst (xs ++ []) (from_side 0 (whole_raw items raws number)) (read_changes items lists n (One number))) (sym nodes) (
        (laned-table n number (from_side 0 (whole_raw items raws number)) (table-keys number r at is 0), tt),
        ap (from_side 0) (table-changes number r at is n ∙ sym (changed-from-side (whole_changes items lists number))),
      )
  one-first number r at kind.Windowed is un = absurd (un refl)

  module _ (k : JoinKind) (left right : ℕ) (on : Typed) (types : List (Option SqlType)) (l r : Relation) (reads : Reads before (Join k left right on) types l)
      (at_left : relation_at before left ≡ Some l) (at_right : relation_at before right ≡ Some r) (table : r.kind ≡ kind.Table) where
    abbrev lefts : List Change
    lefts = whole_raw items raws left

    abbrev rights : List Change
    rights = whole_raw items raws right

    abbrev sides : List Entry
    sides = merged left right (whole_changes items lists left) (whole_changes items lists right)

    -- what the tasks read, where the left side is rekeyed or not
    abbrev tasks : Bool → List Entry
    tasks again = merged left right (left_side n again on lefts) rights

    -- one node that is divided on what the tasks read, and gives for it what it gives for the changes
    joined-first : (x : Node) (over : Kind) → l.kind ≡ over → join_over items k left right on over ≡ x ∷ [] →
        results (gives n x) [] (tasks (is_rekeyed items (Join k left right on))) ≡ results (gives n x) [] sides →
        AreLaned n (x ∷ []) (tasks (is_rekeyed items (Join k left right on))) → IsFirst (Join k left right on)
    unfolding read_entries
    joined-first x over is node same laned =
        subst (λ xs. AreFirst xs (tasks (is_rekeyed items (Join k left right on))) (through (map (gives n) xs) sides))
        (sym (ap (join_over items k left right on) (kind-is left l at_left ∙ is) ∙ node))
        (laned, ap (from_side 0) same ∙ one-node n x sides)

    -- of a stream and a table
    abbrev stream_join : Node
    stream_join = node.JoinStreamTable k on (side_at items left) (side_at items right)

    stream-tasks : l.kind ≡ kind.Stream → (again : Bool) → is_rekeyed items (Join k left right on) ≡ again →
        (results (gives n stream_join) [] (tasks again) ≡ results (gives n stream_join) [] sides) × AreLaned n (stream_join ∷ []) (tasks again)
    stream-tasks is = by
      where
        same : results (gives n stream_join) [] (merged left right lefts rights) ≡ results (gives n stream_join) [] sides
        same =
            stream-join-raw n left right right k on (side_at items left) (side_at items right) lefts rights (raw-rise left l at_left) (raw-rise right r at_right)
            ∙ ap₂ (λ ls rs. results (gives n stream_join) [] (merged left right ls rs)) (stream-changes left l at_left is) (table-changes right r at_right table 1)

        by : (again : Bool) → is_rekeyed items (Join k left right on) ≡ again →
            (results (gives n stream_join) [] (tasks again) ≡ results (gives n stream_join) [] sides) × AreLaned n (stream_join ∷ []) (tasks again)
        by true again = (
          rekeyed-join n left right k on (side_at items left) (side_at items right) lefts rights ∙ same,
          (laned-stream-join n k on (side_at items left) (side_at items right) (tasks true) (rekeyed-by-key n left right on lefts rights), tt),
        )
        by false again = (
          same,
          (
            laned-stream-join n k on (side_at items left) (side_at items right) (tasks false)
                (merged-by-key left right on lefts rights
                (subst (λ cs. AllByRecursion (IsJoinedByKey on) (from_side 0 cs)) (sym (stream-changes left l at_left is))
                (left-by-key items before among lists each k left right on types l reads is again))),
            tt,
          ),
        )

    stream-first : l.kind ≡ kind.Stream → IsFirst (Join k left right on)
    stream-first is =
        let tasks_do = stream-tasks is (is_rekeyed items (Join k left right on)) refl in
        joined-first stream_join kind.Stream is refl tasks_do.0 tasks_do.1

    -- of two tables
    abbrev tables_join : Node
    tables_join = node.JoinTables k (side_at items left) (side_at items right)

    tables-first : l.kind ≡ kind.Table → IsFirst (Join k left right on)
    tables-first is =
        let plain : is_rekeyed items (Join k left right on) ≡ false = rw (kind-is left l at_left, is) refl in
        joined-first tables_join kind.Table is refl
        (ap (λ again. results (gives n tables_join) [] (tasks again)) plain
        ∙ table-join-raw n left right left right k (side_at items left) (side_at items right) lefts rights (raw-rise left l at_left) (raw-rise right r at_right)
        ∙ ap₂ (λ ls rs. results (gives n tables_join) [] (merged left right ls rs)) (table-changes left l at_left is 1) (table-changes right r at_right table 1))
        (subst (λ again. AreLaned n (tables_join ∷ []) (tasks again)) (sym plain) (
          laned-table-join n k (side_at items left) (side_at items right) (tasks false)
              (merged-keyed left right lefts rights (table-keys left l at_left is 0) (table-keys right r at_right table 1)),
          tt,
        ))

    kinds-first : (over : Kind) → l.kind ≡ over → IsFirst (Join k left right on)
    kinds-first kind.Stream is = stream-first is
    kinds-first kind.Table is = tables-first is
    kinds-first kind.Windowed is = absurd (reads-unwindowed before reads is)

  -- the first nodes are divided on what the tasks read, and turn it into what the query reads
  pub reads-first : (from : From) (types : List (Option SqlType)) (l : Relation) → Reads before from types l → IsFirst from
  reads-first (One number) types l (one at un) = one-first number l at l.kind refl un
  reads-first (Join k left right on) types l (joined {r = r} at_left at_right apart table parts j) =
      kinds-first k left right on types l r (joined at_left at_right apart table parts j) at_left at_right table l.kind refl

  source-rise : (number : ℕ) (r : Relation) → relation_at before number ≡ Some r → Rise (whole_changes items lists number)
  source-rise number r at = whole-rise items lists number (each-at (λ r. Rise) before lists rise number r at)

  pub read-rise : (from : From) (types : List (Option SqlType)) (l : Relation) → Reads before from types l → Rise (read_changes items lists n from)
  unfolding read_entries
  read-rise (One number) types l (one at _) = subst Rise (sym (changed-from-side (whole_changes items lists number))) (source-rise number l at)
  read-rise (Join k left right on) types l (joined {r = r} at_left at_right apart _ _ _) = by (kind_at items left)
    where
      es : List Entry
      es = merged left right (whole_changes items lists left) (whole_changes items lists right)

      after : (x : Node) → RiseAt (base x) (triggers x) es → Rise (through (gives n x ∷ []) es)
      after x up = subst Rise (sym (changed-from-side (results (gives n x) [] es))) (results-rise (base x) (triggers x) (gives n x) (gives-rising n x) [] es up)

      tables : Rise (through (gives n (node.JoinTables k (side_at items left) (side_at items right)) ∷ []) es)
      tables =
          after (node.JoinTables k (side_at items left) (side_at items right))
          (both-rise left right (whole_changes items lists left) (whole_changes items lists right) items k apart (source-rise left l at_left) (source-rise right r at_right))

      by : (over : Kind) → Rise (through (map (gives n) (join_over items k left right on over)) es)
      by kind.Stream =
          after (node.JoinStreamTable k on (side_at items left) (side_at items right))
          (lefts-rise left right (whole_changes items lists left) (whole_changes items lists right) (source-rise left l at_left))
      by kind.Table = tables
      by kind.Windowed = tables
