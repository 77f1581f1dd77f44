-- Times and paths of each relation's changes.
use Rattle.std.proofs.Common.{◌≡◌, refl, sym, subst, ℕ, ◌+◌, ◌*◌, ◌≤◌, ◌^◌, List, [], ◌∷◌, ◌++◌, map, length, arith}
use Rattle.std.specs.Prelude.{All, filter, flat_map, Option, Some, None}
use Rattle.std.specs.List.{AllByRecursion}
use Rattle.std.proofs.lemmas.List.Elements.{All-from_recursion, recursion_from_All}
use Rattle.ksql_types.specs.declared.relation.Kind.{Kind}
use Rattle.ksql_types.specs.declared.relation.Kind.TheVariants as kind
use Rattle.ksql_types.specs.declared.relation.Relation.{Relation}
use Rattle.ksql_types.specs.declared.relation.Window.{Window}
use Rattle.ksql_place.specs.Said.{is_of_topic, said, said_by, saying}
use Rattle.ksql_place.specs.declared.change.Body.{Body}
use Rattle.ksql_place.specs.declared.change.Change.{Change}
use Rattle.ksql_place.specs.declared.change.SourceRecord.{SourceRecord}
use Rattle.ksql_expr.specs.declared.typed.Typed.{Typed}
use Rattle.ksql_program.specs.Sound.{IsSound}
use Rattle.ksql_program.specs.declared.program.Item.{Item}
use Rattle.ksql_program.specs.declared.program.Item.TheVariants.{Declared, Started}
use Rattle.ksql_program.specs.declared.query.Agg.{Agg}
use Rattle.ksql_program.specs.declared.query.From.{From}
use Rattle.ksql_program.specs.declared.query.From.TheVariants.{One, Join}
use Rattle.ksql_program.specs.declared.query.Query.{Query}
use Rattle.ksql_program.specs.declared.query.Shape.{Shape}
use Rattle.ksql_program.specs.declared.query.Shape.TheVariants.{Plain, Group}
use Rattle.ksql_nodes.specs.declared.node.Node.{Node}
use Rattle.ksql_nodes.specs.declared.node.Node.TheVariants as node
use Rattle.ksql_nodes.specs.Entries.{Entry, Step, from_side, results, through}
use Rattle.ksql_nodes.specs.Nodes.{gives}
use Rattle.ksql_nodes.proofs.Lists.{All-append}
use Rattle.query_meaning.specs.Meaning.{declared_changes, item_changes, meaning, meaning_from, steps_of_declared}
use Rattle.query_meaning.specs.Queries.{after_aggregate, changes_at, entry_cmp, filter_of, join_of, join_over, key_columns, kind_at, lanes_of, leftmost, query_changes, read_entries, shape_steps, side_at, steps_of, whole_changes, with_key_cells}
use Rattle.meaning_laws.specs.Bounds.{IsInTime, IsSmall}
use Rattle.meaning_laws.proofs.Lists.{All-ascending, All-filter, All-map, All-weaker}
use Rattle.meaning_laws.proofs.EachRelation.{at-each}
use Rattle.meaning_laws.proofs.Saying.{placed_at}
use Rattle.meaning_laws.proofs.Sizes.{All-flat_map, Gives, IsSized, aggregate-sized, entries-give, growth, node-sized, results-give}

module _ (b : ℕ) where
  grow : (m k : ℕ) → m ≤ k → (changes : List Change) → AllByRecursion (IsSized b m) changes → AllByRecursion (IsSized b k) changes
  grow m k grows changes h = All-weaker (IsSized b m) (IsSized b k) (λ c h. (h.0, let own = h.1 in omega arith)) changes h

  -- steps that lead from paths of m numbers to paths of k
  abbrev Leads : ℕ → List Step → ℕ → Type 0
  Leads m [] k = m ≡ k
  Leads m (step ∷ steps) k = (j : ℕ) × Gives (IsSized b m) (IsSized b j) step × Leads j steps k

  leads-append : (m j k : ℕ) (xs ys : List Step) → Leads m xs j → Leads j ys k → Leads m (xs ++ ys) k
  leads-append m j k [] ys is h = subst (λ x. Leads x ys k) (sym is) h
  leads-append m j k (x ∷ xs) ys g h = (g.0, g.1, leads-append g.0 j k xs ys g.2 h)

  through-sized : (m k : ℕ) (steps : List Step) → Leads m steps k → (es : List Entry) → AllByRecursion (λ e. IsSized b m e.change) es → AllByRecursion (IsSized b k) (through steps es)
  through-sized m k [] is es h = All-map (IsSized b k) (λ e. e.change) es (subst (λ x. AllByRecursion (λ e. IsSized b x e.change) es) is h)
  through-sized m k (step ∷ steps) lead es h =
      through-sized lead.0 k steps lead.2 (from_side 0 (results step [] es))
      (entries-give (IsSized b lead.0) 0 (results step [] es) (results-give (λ e. IsSized b m e.change) (IsSized b lead.0) step lead.1 [] es tt h))

  after-leads : (j n : ℕ) (having : Option Typed) (values : List Typed) → Leads j (map (gives n) (after_aggregate having values)) j
  after-leads j n None values = (j, node-sized b j j n (node.Select [] values) (omega arith), refl)
  after-leads j n (Some e) values = (j, node-sized b j j n (node.Having e) (omega arith), (j, node-sized b j j n (node.Select [] values) (omega arith), refl))

  filter-leads : (j n : ℕ) (on : Option Typed) → Leads j (map (gives n) (filter_of on)) j
  filter-leads j n None = refl
  filter-leads j n (Some e) = (j, node-sized b j j n (node.Filter e) (omega arith), refl)

  -- where a join of tables may have added a number to paths of m
  abbrev start : Kind → ℕ → ℕ
  start kind.Stream m = m
  start _ m = m + 1

  window-grows : (m : ℕ) (over : Kind) (aggs : List Agg) (window : Option Window) → m + 1 + growth (node.Aggregate over aggs window) ≤ m + 2
  window-grows m over aggs None = omega arith
  window-grows m over aggs (Some w) = omega arith

  shape-leads : (m n : ℕ) (over : Kind) (shape : Shape) → Leads (start over m) (shape_steps n over shape) (m + 2)
  shape-leads m n kind.Stream (Plain keys values) = (m + 2, node-sized b m (m + 2) n (node.Select keys values) (omega arith), refl)
  shape-leads m n kind.Table (Plain keys values) = (m + 2, node-sized b (m + 1) (m + 2) n (node.Select keys values) (omega arith), refl)
  shape-leads m n kind.Windowed (Plain keys values) = (m + 2, node-sized b (m + 1) (m + 2) n (node.Select keys values) (omega arith), refl)
  shape-leads m n kind.Stream (Group keys window aggs having values) = (
    m + 1,
    node-sized b m (m + 1) n (node.Group keys) (omega arith),
    (m + 2, node-sized b (m + 1) (m + 2) n (node.Aggregate kind.Stream aggs window) (window-grows m kind.Stream aggs window), after-leads (m + 2) n having values),
  )
  shape-leads m n kind.Table (Group keys window aggs having values) = (m + 2, aggregate-sized b (m + 1) (m + 2) keys aggs (omega arith), after-leads (m + 2) n having values)
  shape-leads m n kind.Windowed (Group keys window aggs having values) = (m + 2, aggregate-sized b (m + 1) (m + 2) keys aggs (omega arith), after-leads (m + 2) n having values)

  start-grows : (over : Kind) (m : ℕ) → m ≤ start over m
  start-grows kind.Stream m = omega arith
  start-grows kind.Table m = omega arith
  start-grows kind.Windowed m = omega arith

  module _ (items : List Item) (lists : List (List Change)) (m : ℕ) (sized : AllByRecursion (AllByRecursion (IsSized b m)) lists) (n : ℕ) where
    whole-sized : (number : ℕ) → AllByRecursion (IsSized b m) (whole_changes items lists number)
    whole-sized number =
        All-map (IsSized b m) (with_key_cells (key_columns items number)) (changes_at lists number) (at-each (AllByRecursion (IsSized b m)) tt lists sized number)

    read-sized : (from : From) (on : Option Typed) (shape : Shape) →
        AllByRecursion (IsSized b (m + 2))
        (through (map (gives n) (join_of items from ++ filter_of on) ++ shape_steps n (kind_at items (leftmost from)) shape) (read_entries items lists from))
    unfolding read_entries
    read-sized (One number) on shape =
        let over : Kind = kind_at items number in
        through-sized (start over m) (m + 2) (map (gives n) (filter_of on) ++ shape_steps n over shape)
        (leads-append (start over m) (start over m) (m + 2) (map (gives n) (filter_of on)) (shape_steps n over shape) (filter-leads (start over m) n on) (shape-leads m n over shape))
        (from_side 0 (whole_changes items lists number))
        (entries-give (IsSized b (start over m)) 0 (whole_changes items lists number) (grow m (start over m) (start-grows over m) (whole_changes items lists number) (whole-sized number)))
    read-sized (Join k left right key) on shape = by (kind_at items left)
      where
        es : List Entry
        es = read_entries items lists (Join k left right key)

        all : AllByRecursion (λ e. IsSized b m e.change) es
        all =
            All-ascending (λ e. IsSized b m e.change) (entry_cmp left right) (from_side 0 (whole_changes items lists left) ++ from_side 1 (whole_changes items lists right))
            (All-append (λ e. IsSized b m e.change) (from_side 0 (whole_changes items lists left)) (from_side 1 (whole_changes items lists right))
            (entries-give (IsSized b m) 0 (whole_changes items lists left) (whole-sized left)) (entries-give (IsSized b m) 1 (whole_changes items lists right) (whole-sized right)))

        after : (over : Kind) (x : Node) → m + growth x ≤ start over m →
            AllByRecursion (IsSized b (m + 2)) (through (gives n x ∷ (map (gives n) (filter_of on) ++ shape_steps n over shape)) es)
        after over x grows =
            through-sized m (m + 2) (gives n x ∷ (map (gives n) (filter_of on) ++ shape_steps n over shape)) (
              start over m,
              node-sized b m (start over m) n x grows,
              leads-append (start over m) (start over m) (m + 2) (map (gives n) (filter_of on)) (shape_steps n over shape) (filter-leads (start over m) n on) (shape-leads m n over shape),
            ) es all

        by : (over : Kind) → AllByRecursion (IsSized b (m + 2)) (through (map (gives n) (join_over items k left right key over ++ filter_of on) ++ shape_steps n over shape) es)
        by kind.Stream = after kind.Stream (node.JoinStreamTable k key (side_at items left) (side_at items right)) (omega arith)
        by kind.Table = after kind.Table (node.JoinTables k (side_at items left) (side_at items right)) (omega arith)
        by kind.Windowed = after kind.Windowed (node.JoinTables k (side_at items left) (side_at items right)) (omega arith)

    query-sized : (q : Query) → n ≡ lanes_of items q → AllByRecursion (IsSized b (m + 2)) (query_changes items lists q)
    unfolding query_changes steps_of
    query-sized q is =
        subst (λ l. AllByRecursion (IsSized b (m + 2))
        (through (map (gives l) (join_of items q.from ++ filter_of q.filter) ++ shape_steps l (kind_at items (leftmost q.from)) q.shape) (read_entries items lists q.from))) is
        (read-sized q.from q.filter q.shape)

  -- ---- each relation

  said-sized : (k : Kind) (order : List SourceRecord) → AllByRecursion (λ r. r.time ≤ b) order → AllByRecursion (IsSized b 0) (flat_map (saying k) order)
  said-sized k order h = All-flat_map (IsSized b 0) (saying k) (λ r. r.time ≤ b) (λ r small. by r small (said_by k r.key r.value)) order h
    where
      by : (r : SourceRecord) → r.time ≤ b → (o : Option Body) → AllByRecursion (IsSized b 0) (placed_at r o)
      by r small None = tt
      by r small (Some body) = ((small, omega arith), tt)

  declared-leads : (k : Kind) (number : ℕ) → Leads 0 (steps_of_declared k number) 0
  declared-leads kind.Stream number = refl
  declared-leads kind.Table number = (0, node-sized b 0 0 1 (node.Table number) (omega arith), refl)
  declared-leads kind.Windowed number = refl

  declared-sized : (r : Relation) (order : List SourceRecord) → AllByRecursion (λ r. r.time ≤ b) order → AllByRecursion (IsSized b 0) (declared_changes r order)
  unfolding declared_changes said
  declared-sized r order h =
      through-sized 0 0 (steps_of_declared r.kind r.number) (declared-leads r.kind r.number) (from_side 0 (said r order))
      (entries-give (IsSized b 0) 0 (said r order) (said-sized r.kind (filter (is_of_topic r) order) (All-filter (λ r. r.time ≤ b) (is_of_topic r) order h)))

  module _ (items : List Item) (order : List SourceRecord) (small : AllByRecursion (λ r. r.time ≤ b) order) where
    item-sized : (lists : List (List Change)) (m : ℕ) → AllByRecursion (AllByRecursion (IsSized b m)) lists → (i : Item) → AllByRecursion (IsSized b (m + 2)) (item_changes items order lists i)
    item-sized lists m sized (Declared r) = grow 0 (m + 2) (omega arith) (declared_changes r order) (declared-sized r order small)
    item-sized lists m sized (Started q) = query-sized items lists m sized (lanes_of items q) q refl

    grow-lists : (m k : ℕ) → m ≤ k → (lists : List (List Change)) → AllByRecursion (AllByRecursion (IsSized b m)) lists → AllByRecursion (AllByRecursion (IsSized b k)) lists
    grow-lists m k grows lists h = All-weaker (AllByRecursion (IsSized b m)) (AllByRecursion (IsSized b k)) (λ changes. grow m k grows changes) lists h

    meant-sized : (lists : List (List Change)) (m : ℕ) → AllByRecursion (AllByRecursion (IsSized b m)) lists → (rest : List Item) →
        AllByRecursion (AllByRecursion (IsSized b (m + 2 * length rest))) (meaning_from items order lists rest)
    unfolding meaning_from
    meant-sized lists m sized [] = grow-lists m (m + 2 * 0) (omega arith) lists sized
    meant-sized lists m sized (i ∷ rest) =
        grow-lists (m + 2 + 2 * length rest) (m + 2 * length (i ∷ rest)) (omega arith) (meaning_from items order (lists ++ item_changes items order lists i ∷ []) rest)
        (meant-sized (lists ++ item_changes items order lists i ∷ []) (m + 2)
        (All-append (AllByRecursion (IsSized b (m + 2))) lists (item_changes items order lists i ∷ []) (grow-lists m (m + 2) (omega arith) lists sized) (item-sized lists m sized i, tt)) rest)

pub meant-small : (items : List Item) (order : List SourceRecord) → IsSound items → All IsInTime order → All (λ changes. All IsSmall changes) (meaning items order)
meant-small items order sound small =
    let few = sound.few in
    All-from_recursion (λ changes. All IsSmall changes) (meaning items order)
    (All-weaker (AllByRecursion (IsSized (2 ^ 53) (0 + 2 * length items))) (λ changes. All IsSmall changes)
    (λ changes h. All-from_recursion IsSmall changes
    (All-weaker (IsSized (2 ^ 53) (0 + 2 * length items)) IsSmall (λ c h. record { time = h.0; path = let own = h.1 in omega arith }) changes h))
    (meaning items order) (meant-sized (2 ^ 53) items order (recursion_from_All IsInTime order small) [] 0 tt items))
