-- The places of each relation rise.
use Rattle.std.proofs.Common.{◌≡◌, refl, subst, ℕ, List, [], ◌∷◌, ◌++◌, length, map, inl}
use Rattle.std.proofs.lemmas.List.Elements.{All-from_recursion}
use Rattle.std.specs.Prelude.{filter, flat_map, Option, Some, None}
use Rattle.std.specs.List.{All, AllByRecursion}
use Rattle.std.specs.declared.cmp.Ordering.TheVariants.{Less}
use Rattle.ksql_types.specs.declared.relation.Kind.{Kind}
use Rattle.ksql_types.specs.declared.relation.Kind.TheVariants as kind
use Rattle.ksql_types.specs.declared.relation.Relation.{Relation}
use Rattle.ksql_types.specs.declared.value.SqlType.{SqlType}
use Rattle.ksql_place.specs.Ascending.{Rises}
use Rattle.ksql_place.specs.Order.{record_cmp, stamp_cmp}
use Rattle.ksql_place.specs.Said.{is_of_topic, said, said_by, saying}
use Rattle.ksql_place.specs.declared.change.Body.{Body}
use Rattle.ksql_place.specs.declared.change.Change.{Change}
use Rattle.ksql_place.specs.declared.change.SourceRecord.{SourceRecord}
use Rattle.ksql_expr.specs.declared.typed.Typed.{Typed}
use Rattle.ksql_program.specs.Program.{relation_at, relation_of}
use Rattle.ksql_program.specs.Sound.{IsSound, IsSoundItem, IsSoundQuery, query, Reads, one, joined}
use Rattle.ksql_program.specs.declared.program.Item.{Item}
use Rattle.ksql_program.specs.declared.program.Item.TheVariants.{Declared, Started}
use Rattle.ksql_program.specs.declared.query.From.{From}
use Rattle.ksql_program.specs.declared.query.From.TheVariants.{One, Join}
use Rattle.ksql_program.specs.declared.query.Query.{Query}
use Rattle.ksql_program.specs.declared.query.Shape.{Shape}
use Rattle.ksql_program.specs.declared.query.Shape.TheVariants.{Plain, Group}
use Rattle.ksql_nodes.specs.declared.node.Node.{Node}
use Rattle.ksql_nodes.specs.declared.node.Node.TheVariants as node
use Rattle.ksql_nodes.specs.Entries.{Entry, Step, from_side, results, through}
use Rattle.ksql_nodes.specs.Nodes.{gives}
use Rattle.ksql_nodes.proofs.Lists.{All-append}
use Rattle.query_meaning.specs.Meaning.{declared_changes, item_changes, meaning, steps_of_declared}
use Rattle.query_meaning.specs.Queries.{after_aggregate, changes_at, filter_of, join_of, join_over, key_columns, kind_at, lanes_of, leftmost, query_changes, read_entries, shape_steps, side_at, steps_of, whole_changes, with_key_cells}
use Rattle.meaning_laws.specs.Places.{ArePlaced}
use Rattle.meaning_laws.proofs.Lists.{All-weaker, Pairwise, Pairwise-filter, Pairwise-from_all, Pairwise-map}
use Rattle.meaning_laws.proofs.Forks.{IsBefore, Rise, rise-placed}
use Rattle.meaning_laws.proofs.EachRelation.{AreAmong, Each, each-at, meant-each}
use Rattle.meaning_laws.proofs.Rising.{IsPlain, RiseAt, aggregate-rising, base, gives-rising, results-rise, rise-next, through-rise, triggers}
use Rattle.meaning_laws.proofs.Saying.{placed_at, flat-each}
use Rattle.meaning_laws.proofs.Sides.{both-rise, lefts-rise}

-- ---- declared relations

pub flat-rise : (k : Kind) (order : List SourceRecord) → Pairwise (λ a b. record_cmp a b ≡ Less) order → Rise (flat_map (saying k) order)
flat-rise k [] rise = tt
flat-rise k (r ∷ rs) rise = by (said_by k r.key r.value) (flat-rise k rs rise.1)
  where
    rest : List Change
    rest = flat_map (saying k) rs

    by : (o : Option Body) → Rise rest → Rise (placed_at r o ++ rest)
    by None ih = ih
    by (Some body) ih = (
      All-weaker (λ (d : Change). stamp_cmp r.stamp d.place.stamp ≡ Less) (λ d. IsBefore (record { stamp = r.stamp; path = [] }) d.place) (λ d less. inl less) rest
          (flat-each (λ s. stamp_cmp r.stamp s ≡ Less) k rs rise.0),
      ih,
    )

declared-plain : (k : Kind) (number : ℕ) → AllByRecursion IsPlain (steps_of_declared k number)
declared-plain kind.Stream number = tt
declared-plain kind.Table number = (gives-rising 1 (node.Table number), tt)
declared-plain kind.Windowed number = tt

declared-rise : (r : Relation) (order : List SourceRecord) → Pairwise (λ a b. record_cmp a b ≡ Less) order → Rise (declared_changes r order)
unfolding declared_changes said
declared-rise r order rise =
    through-rise (steps_of_declared r.kind r.number) (declared-plain r.kind r.number) (from_side 0 (said r order))
    (rise-next (said r order) (flat-rise r.kind (filter (is_of_topic r) order) (Pairwise-filter (λ a b. record_cmp a b ≡ Less) (is_of_topic r) order rise)))

-- ---- queries

filter-plain : (n : ℕ) (on : Option Typed) → AllByRecursion IsPlain (map (gives n) (filter_of on))
filter-plain n None = tt
filter-plain n (Some e) = (gives-rising n (node.Filter e), tt)

after-plain : (n : ℕ) (having : Option Typed) (values : List Typed) → AllByRecursion IsPlain (map (gives n) (after_aggregate having values))
after-plain n None values = (gives-rising n (node.Select [] values), tt)
after-plain n (Some e) values = (gives-rising n (node.Having e), (gives-rising n (node.Select [] values), tt))

shape-plain : (n : ℕ) (over : Kind) (shape : Shape) → AllByRecursion IsPlain (shape_steps n over shape)
shape-plain n over (Plain keys values) = (gives-rising n (node.Select keys values), tt)
shape-plain n kind.Stream (Group keys window aggs having values) =
    (gives-rising n (node.Group keys), (gives-rising n (node.Aggregate kind.Stream aggs window), after-plain n having values))
shape-plain n kind.Table (Group keys window aggs having values) = (aggregate-rising keys aggs, after-plain n having values)
shape-plain n kind.Windowed (Group keys window aggs having values) = (aggregate-rising keys aggs, after-plain n having values)

pub whole-rise : (items : List Item) (lists : List (List Change)) (number : ℕ) → Rise (changes_at lists number) → Rise (whole_changes items lists number)
whole-rise items lists number rise = Pairwise-map (λ c d. IsBefore c.place d.place) (with_key_cells (key_columns items number)) (changes_at lists number) rise

module _ (items before : List Item) (lists : List (List Change)) (each : Each (λ r. Rise) before lists) (n : ℕ) where
  whole-at : (number : ℕ) (r : Relation) → relation_at before number ≡ Some r → Rise (whole_changes items lists number)
  whole-at number r is = whole-rise items lists number (each-at (λ r. Rise) before lists each number r is)

  -- what a query reads, and then its steps
  read-rise : (from : From) (types : List (Option SqlType)) (l : Relation) → Reads before from types l → (on : Option Typed) (rest : List Step) → AllByRecursion IsPlain rest →
      Rise (through (map (gives n) (join_of items from ++ filter_of on) ++ rest) (read_entries items lists from))
  unfolding read_entries
  read-rise (One number) types l (one is _) on rest plain =
      through-rise (map (gives n) (filter_of on) ++ rest) (All-append IsPlain (map (gives n) (filter_of on)) rest (filter-plain n on) plain)
      (from_side 0 (whole_changes items lists number)) (rise-next (whole_changes items lists number) (whole-at number l is))
  read-rise (Join k left right key) types l (joined is_left is_right apart _ _ _) on rest plain = by (kind_at items left)
    where
      es : List Entry
      es = read_entries items lists (Join k left right key)

      steps : List Step
      steps = map (gives n) (filter_of on) ++ rest

      all : AllByRecursion IsPlain steps
      all = All-append IsPlain (map (gives n) (filter_of on)) rest (filter-plain n on) plain

      after : (x : Node) → RiseAt (base x) (triggers x) es → Rise (through (gives n x ∷ steps) es)
      after x rise = through-rise steps all (from_side 0 (results (gives n x) [] es)) (rise-next (results (gives n x) [] es) (results-rise (base x) (triggers x) (gives n x) (gives-rising n x) [] es rise))

      first : Rise (whole_changes items lists left)
      first = whole-at left l is_left

      second : Rise (whole_changes items lists right)
      second = whole-at right _ is_right

      tables : Rise (through (gives n (node.JoinTables k (side_at items left) (side_at items right)) ∷ steps) es)
      tables =
          after (node.JoinTables k (side_at items left) (side_at items right))
          (both-rise left right (whole_changes items lists left) (whole_changes items lists right) items k apart first second)

      by : (over : Kind) → Rise (through (map (gives n) (join_over items k left right key over ++ filter_of on) ++ rest) es)
      by kind.Stream =
          after (node.JoinStreamTable k key (side_at items left) (side_at items right))
          (lefts-rise left right (whole_changes items lists left) (whole_changes items lists right) first)
      by kind.Table = tables
      by kind.Windowed = tables

  query-rise : (q : Query) → n ≡ lanes_of items q → IsSoundQuery before q → Rise (query_changes items lists q)
  unfolding query_changes steps_of
  query-rise q is (query reads _ _ _ _) =
      subst (λ m. Rise (through (map (gives m) (join_of items q.from ++ filter_of q.filter) ++ shape_steps m (kind_at items (leftmost q.from)) q.shape) (read_entries items lists q.from))) is
      (read-rise q.from _ _ reads q.filter (shape_steps n (kind_at items (leftmost q.from)) q.shape) (shape-plain n (kind_at items (leftmost q.from)) q.shape))

-- ---- each relation

module _ (items : List Item) (order : List SourceRecord) (rises : Pairwise (λ a b. record_cmp a b ≡ Less) order) where
  item-rise : (before : List Item) (lists : List (List Change)) → AreAmong before items → Each (λ r. Rise) before lists → (i : Item) →
      relation_at items (length before) ≡ Some (relation_of i) → IsSoundItem before i → Rise (item_changes items order lists i)
  item-rise before lists among each (Declared r) at sound = declared-rise r order rises
  item-rise before lists among each (Started q) at sound = query-rise items before lists each (lanes_of items q) q refl sound.1

each-placed : (items : List Item) (lists : List (List Change)) → Each (λ r. Rise) items lists → AllByRecursion ArePlaced lists
each-placed [] [] each = tt
each-placed [] (l ∷ lists) each = absurd each
each-placed (i ∷ is) [] each = absurd each
each-placed (i ∷ is) (l ∷ lists) each = (rise-placed l each.0, each-placed is lists each.1)

pub meant-rise : (items : List Item) (order : List SourceRecord) → IsSound items → Rises record_cmp order → Each (λ r. Rise) items (meaning items order)
meant-rise items order sound rises =
    meant-each (λ r. Rise) items order (item-rise items order (Pairwise-from_all (λ a b. record_cmp a b ≡ Less) order rises)) [] [] tt items sound.sound refl

pub meant-placed : (items : List Item) (order : List SourceRecord) → IsSound items → Rises record_cmp order → All ArePlaced (meaning items order)
meant-placed items order sound rises =
    All-from_recursion ArePlaced (meaning items order) (each-placed items (meaning items order) (meant-rise items order sound rises))
