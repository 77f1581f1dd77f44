-- Times and paths of what tasks send.
use Rattle.std.proofs.Common.{◌≡◌, ◌∙◌, ap, refl, subst, ℕ, zero, suc, ◌+◌, ◌*◌, ◌≤◌, ◌^◌, List, [], ◌∷◌, ◌++◌, map, length, take, arith}
use Rattle.std.specs.Prelude.{◌==◌, All, Bool, true, false, filter, flat_map, if◌then◌else◌, Option, Some, None, slice_get}
use Rattle.std.specs.List.{AllByRecursion, range_with_len}
use Rattle.std.proofs.lemmas.List.Elements.{All-from_recursion, recursion_from_All}
use Rattle.ksql_types.specs.declared.relation.Kind.{Kind}
use Rattle.ksql_types.specs.declared.relation.Kind.TheVariants as kind
use Rattle.ksql_types.specs.declared.relation.Relation.{Relation}
use Rattle.ksql_types.specs.declared.relation.Window.{Window}
use Rattle.ksql_types.specs.declared.topic.TopicSpec.{TopicSpec}
use Rattle.ksql_types.specs.declared.value.SqlType.{SqlType}
use Rattle.ksql_place.specs.Said.{is_of_topic, said, said_by, saying}
use Rattle.ksql_place.specs.declared.change.Body.{Body}
use Rattle.ksql_place.specs.declared.change.Change.{Change}
use Rattle.ksql_place.specs.declared.change.SourceRecord.{SourceRecord}
use Rattle.ksql_expr.specs.declared.typed.Typed.{Typed}
use Rattle.ksql_program.specs.Sound.{IsSound, IsSoundItem, IsSoundQuery, IsWindowed, Makes, plain, grouped, query}
use Rattle.ksql_program.specs.declared.program.Item.{Item}
use Rattle.ksql_program.specs.declared.program.Item.TheVariants.{Declared, Started}
use Rattle.ksql_program.specs.declared.query.Agg.{Agg}
use Rattle.ksql_program.specs.declared.query.From.{From}
use Rattle.ksql_program.specs.declared.query.From.TheVariants.{One, Join}
use Rattle.ksql_program.specs.declared.query.Query.{Query}
use Rattle.ksql_program.specs.declared.query.Shape.{Shape}
use Rattle.ksql_program.specs.declared.query.Shape.TheVariants.{Plain, Group}
use Rattle.ksql_nodes.specs.Entries.{Entry, from_side, results, through}
use Rattle.ksql_nodes.specs.Nodes.{gives}
use Rattle.ksql_nodes.specs.declared.node.Node.{Node}
use Rattle.ksql_nodes.specs.declared.node.Node.TheVariants as node
use Rattle.ksql_nodes.proofs.Lists.{All-append}
use Rattle.query_meaning.specs.Queries.{after_aggregate, entry_cmp, filter_of, join_of, join_over, kind_at, leftmost}
use Rattle.meaning_laws.specs.Bounds.{IsInTime, IsSmall}
use Rattle.meaning_laws.proofs.EachRelation.{AreAmong}
use Rattle.meaning_laws.proofs.Lists.{All-ascending, All-filter, All-map, All-of, All-weaker}
use Rattle.meaning_laws.proofs.RelationTables.{reads-kind}
use Rattle.meaning_laws.proofs.Saying.{placed_at}
use Rattle.meaning_laws.proofs.Sizes.{All-flat_map, IsSized, entries-give, growth, node-sized, results-give}
use Rattle.ksql_place.specs.Routing.{change_cmp, is_to, partitions_of}
use Rattle.topology.specs.Contents.{Contents, contents, contents_from, sent, side_entries, source_changes, source_contents, task_entries, task_results, with_cells, with_sub}
use Rattle.topology.specs.Stages.{aggregate_nodes, are_own_key, input_nodes, is_rekeyed, rekey_from, rekey_stages, shape_stages, stages_of, table_of}
use Rattle.topology.specs.Topologies.{cuts_of, stages_at, subs, subs_from, subs_of, topology_of}
use Rattle.topology.specs.declared.stage.CutName.{CutName}
use Rattle.topology.specs.declared.stage.Stage.{Stage}
use Rattle.topology.specs.declared.topology.Sub.{Sub}
use Rattle.topology.specs.declared.topology.SubInput.{SubInput}
use Rattle.sending_laws.specs.Sent.{IsSmallThroughout}
use Rattle.sending_laws.proofs.ItemLists.{before-among, sound-at}

abbrev total : {A : Type 0} → (A → ℕ) → List A → ℕ
total f [] = 0
total f (x ∷ xs) = f x + total f xs

total-append : {A : Type 0} (f : A → ℕ) (xs ys : List A) → total f (xs ++ ys) ≡ total f xs + total f ys
total-append f [] ys = omega arith
total-append f (x ∷ xs) ys = let rest : total f (xs ++ ys) ≡ total f xs + total f ys = total-append f xs ys in omega (arith, rest)

-- by how many numbers the nodes of a stage and of a sub-topology make paths longer
abbrev stage_growth : Stage → ℕ
stage_growth s = total growth s.nodes

abbrev sub_growth : Sub → ℕ
sub_growth s = total growth s.nodes

module _ (b : ℕ) where
  nodes-sized : (nodes : List Node) (m : ℕ) (es : List Entry) → AllByRecursion (λ e. IsSized b m e.change) es → AllByRecursion (IsSized b (m + total growth nodes)) (through (map (gives 1) nodes) es)
  nodes-sized [] m es h =
      let same : m ≡ m + 0 = omega arith in
      subst (λ k. AllByRecursion (IsSized b k) (through [] es)) same (All-map (IsSized b m) (λ (e : Entry). e.change) es h)
  nodes-sized (x ∷ xs) m es h =
      let k : ℕ = m + growth x in
      let now : List Change = results (gives 1 x) [] es in
      let same : k + total growth xs ≡ m + total growth (x ∷ xs) = omega arith in
      subst (λ k. AllByRecursion (IsSized b k) (through (map (gives 1) xs) (from_side 0 now))) same
      (nodes-sized xs k (from_side 0 now)
      (entries-give (IsSized b k) 0 now (results-give (λ e. IsSized b m e.change) (IsSized b k) (gives 1 x) (node-sized b m k 1 x (omega arith)) [] es tt h)))

  -- ---- a sub-topology

  abbrev AreSized : ℕ → Contents → Type 0
  AreSized m has = (topic part : ℕ) → AllByRecursion (IsSized b m) (has topic part)

  grow : (m k : ℕ) → m ≤ k → (changes : List Change) → AllByRecursion (IsSized b m) changes → AllByRecursion (IsSized b k) changes
  grow m k grows changes h = All-weaker (IsSized b m) (IsSized b k) (λ c h. (h.0, let own = h.1 in omega arith)) changes h

  cells-sized : (m columns : ℕ) (changes : List Change) → AllByRecursion (IsSized b m) changes → AllByRecursion (IsSized b m) (map (with_cells columns) changes)
  cells-sized m zero changes h = All-map (IsSized b m) (with_cells zero) changes h
  cells-sized m (suc columns) changes h = All-map (IsSized b m) (with_cells (suc columns)) changes h

  module _ (has : Contents) (m : ℕ) (sized : AreSized m has) where
    side-sized : (side : ℕ) (input : SubInput) (part : ℕ) → AllByRecursion (λ e. IsSized b m e.change) (side_entries side input has part)
    side-sized side input part =
        entries-give (IsSized b m) side (map (with_cells input.keys) (has input.topic part)) (cells-sized m input.keys (has input.topic part) (sized input.topic part))

    reads-sized : (inputs : List SubInput) (part : ℕ) → AllByRecursion (λ e. IsSized b m e.change) (task_entries inputs has part)
    reads-sized [] part = tt
    reads-sized (one ∷ []) part = side-sized 0 one part
    reads-sized (left ∷ right ∷ more) part =
        All-ascending (λ e. IsSized b m e.change) (entry_cmp left.relation right.relation) (side_entries 0 left has part ++ side_entries 1 right has part)
        (All-append (λ e. IsSized b m e.change) (side_entries 0 left has part) (side_entries 1 right has part) (side-sized 0 left part) (side-sized 1 right part))

    sent-sized : (sub : Sub) (n part : ℕ) → AllByRecursion (IsSized b (m + sub_growth sub)) (sent sub has n part)
    sent-sized sub n part =
        let B : Change → Type 0 = IsSized b (m + sub_growth sub) in
        let tasks : List ℕ = range_with_len 0 sub.partitions in
        All-ascending B change_cmp (flat_map (λ task. filter (is_to n part) (task_results sub has task)) tasks)
        (All-flat_map B (λ task. filter (is_to n part) (task_results sub has task)) (λ task. Unit {0})
        (λ task _. All-filter B (is_to n part) (task_results sub has task) (nodes-sized sub.nodes m (task_entries sub.inputs has task) (reads-sized sub.inputs task)))
        tasks (All-of tasks (λ task. tt)))

    sub-sized : (topics : List TopicSpec) (sub : Sub) → AreSized (m + sub_growth sub) (with_sub topics has sub)
    sub-sized topics sub topic part =
        elim (topic == sub.output) as (λ t. AllByRecursion (IsSized b (m + sub_growth sub)) (if t then sent sub has (partitions_of topics topic) part else has topic part))
        [ true ↦ sent-sized sub (partitions_of topics topic) part | false ↦ grow m (m + sub_growth sub) (omega arith) (has topic part) (sized topic part) ]

  contents-sized : (topics : List TopicSpec) (has : Contents) (m : ℕ) → AreSized m has → (subs : List Sub) → AreSized (m + total sub_growth subs) (contents_from topics has subs)
  unfolding contents_from
  contents-sized topics has m sized [] topic part = grow m (m + 0) (omega arith) (has topic part) (sized topic part)
  contents-sized topics has m sized (s ∷ ss) topic part =
      grow (m + sub_growth s + total sub_growth ss) (m + total sub_growth (s ∷ ss)) (omega arith) (contents_from topics (with_sub topics has s) ss topic part)
      (contents-sized topics (with_sub topics has s) (m + sub_growth s) (sub-sized has m sized topics s) ss topic part)

  -- ---- what records say

  said-sized : (r : Relation) (order : List SourceRecord) → AllByRecursion (λ r. r.time ≤ b) order → AllByRecursion (IsSized b 0) (said r order)
  unfolding said
  said-sized r order h =
      All-flat_map (IsSized b 0) (saying r.kind) (λ r. r.time ≤ b) (λ source small. by source small (said_by r.kind source.key source.value))
      (filter (is_of_topic r) order) (All-filter (λ r. r.time ≤ b) (is_of_topic r) order h)
    where
      by : (source : SourceRecord) → source.time ≤ b → (o : Option Body) → AllByRecursion (IsSized b 0) (placed_at source o)
      by source small None = tt
      by source small (Some body) = ((small, omega arith), tt)

  source-sized : (items : List Item) (order : List SourceRecord) → AllByRecursion (λ r. r.time ≤ b) order → AreSized 0 (source_contents items order)
  source-sized items order h topic part = All-filter (IsSized b 0) (λ c. c.place.stamp.part == part) (source_changes order (slice_get items topic)) (by (slice_get items topic))
    where
      by : (o : Option Item) → AllByRecursion (IsSized b 0) (source_changes order o)
      by None = tt
      by (Some (Declared r)) = said-sized r order h
      by (Some (Started q)) = tt

-- ---- the stages of a query

if-grows : (k : ℕ) (t : Bool) (xs ys : List Stage) → total stage_growth xs ≤ k → total stage_growth ys ≤ k → total stage_growth (if t then xs else ys) ≤ k
if-grows k true xs ys hx hy = hx
if-grows k false xs ys hx hy = hy

filter-still : (on : Option Typed) → total growth (filter_of on) ≡ 0
filter-still None = refl
filter-still (Some e) = refl

after-still : (having : Option Typed) (values : List Typed) → total growth (after_aggregate having values) ≡ 0
after-still None values = refl
after-still (Some e) values = refl

abbrev window_growth : Option Window → ℕ
window_growth None = 0
window_growth (Some w) = 1

window-growth : (over : Kind) (aggs : List Agg) (window : Option Window) → growth (node.Aggregate over aggs window) ≡ window_growth window
window-growth over aggs None = refl
window-growth over aggs (Some w) = refl

-- what a shape adds
abbrev shape_growth : Shape → ℕ
shape_growth (Plain keys values) = 0
shape_growth (Group keys window aggs having values) = 1 + window_growth window

-- the table that a query reads, by its kind
abbrev pub table_over : ℕ → Kind → List Node
table_over number kind.Table = node.Table number ∷ []
table_over number _ = []

module _ (items : List Item) where
  table-still : (from : From) → total growth (table_of items from) ≡ 0
  table-still (One number) = by (kind_at items number)
    where
      by : (over : Kind) → total growth (table_over number over) ≡ 0
      by kind.Stream = refl
      by kind.Table = refl
      by kind.Windowed = refl
  table-still (Join k left right on) = refl

  join-grows : (from : From) → total growth (join_of items from) ≤ 1
  join-grows (One number) = omega arith
  join-grows (Join k left right on) = by (kind_at items left)
    where
      by : (over : Kind) → total growth (join_over items k left right on over) ≤ 1
      by kind.Stream = omega arith
      by kind.Table = omega arith
      by kind.Windowed = omega arith

  stream-still : (from : From) → kind_at items (leftmost from) ≡ kind.Stream → total growth (join_of items from) ≡ 0
  stream-still (One number) is = refl
  stream-still (Join k left right on) is = ap (λ over. total growth (join_over items k left right on over)) is

  rekey-still : (q : Query) (from : From) → total stage_growth (rekey_from items q from) ≤ 0
  rekey-still q (One number) = omega arith
  rekey-still q (Join k left right on) = if-grows 0 (is_rekeyed items (Join k left right on)) _ _ (omega arith) (omega arith)

  module _ (q : Query) where
    input-grows : total growth (input_nodes items q) ≡ total growth (join_of items q.from)
    input-grows =
        let whole : total growth (input_nodes items q) ≡ total growth (table_of items q.from) + total growth (join_of items q.from ++ filter_of q.filter) = total-append growth (table_of items q.from) (join_of items q.from ++ filter_of q.filter) in
        let rest : total growth (join_of items q.from ++ filter_of q.filter) ≡ total growth (join_of items q.from) + total growth (filter_of q.filter) = total-append growth (join_of items q.from) (filter_of q.filter) in
        let table : total growth (table_of items q.from) ≡ 0 = table-still q.from in
        let filtered : total growth (filter_of q.filter) ≡ 0 = filter-still q.filter in
        omega (arith, whole, rest, table, filtered)

    shape-grows : (shape : Shape) → total stage_growth (shape_stages items q shape) ≤ total growth (join_of items q.from) + shape_growth shape
    shape-grows (Plain keys values) =
        let whole : total growth (input_nodes items q ++ node.Select keys values ∷ []) ≡ total growth (input_nodes items q) + 0 = total-append growth (input_nodes items q) (node.Select keys values ∷ []) in
        let front : total growth (input_nodes items q) ≡ total growth (join_of items q.from) = input-grows in
        omega (arith, whole, front)
    shape-grows (Group keys window aggs having values) =
        let grouping : List Node = input_nodes items q ++ node.Group keys ∷ [] in
        let rest : List Node = aggregate_nodes items q (Group keys window aggs having values) in
        let front : total growth (input_nodes items q) ≡ total growth (join_of items q.from) = input-grows in
        let first : total growth grouping ≡ total growth (input_nodes items q) + 1 = total-append growth (input_nodes items q) (node.Group keys ∷ []) in
        let whole : total growth (grouping ++ rest) ≡ total growth grouping + total growth rest = total-append growth grouping rest in
        let own : growth (node.Aggregate (kind_at items (leftmost q.from)) aggs window) ≡ window_growth window = window-growth (kind_at items (leftmost q.from)) aggs window in
        let after : total growth (after_aggregate having values) ≡ 0 = after-still having values in
        let last : total growth rest ≡ window_growth window = omega (arith, own, after) in
        if-grows (total growth (join_of items q.from) + shape_growth (Group keys window aggs having values)) (are_own_key items q.from keys) _ _
        (omega (arith, front, first, whole, last)) (omega (arith, front, first, whole, last))

  -- a query of a sound program makes paths longer by at most two numbers: a window is over a stream, and there a join
  -- adds none
  made-grows : (from : From) (l : Relation) (types : List (Option SqlType)) (out : Relation) → kind_at items (leftmost from) ≡ l.kind → (shape : Shape) → Makes l types shape out →
      total growth (join_of items from) + shape_growth shape ≤ 2
  made-grows from l types out is shape (plain {ks = ks} {vs = vs} _ _ _) =
      let join : total growth (join_of items from) ≤ 1 = join-grows from in omega (arith, join)
  made-grows from l types out is shape (grouped {ks = ks} {vs = vs} {w = w} {gs = gs} {h = h} _ _ _ _ _ _ windowed _ _ _) = by w windowed
    where
      by : (w : Option Window) → IsWindowed l.kind w → total growth (join_of items from) + (1 + window_growth w) ≤ 2
      by None windowed = let join : total growth (join_of items from) ≤ 1 = join-grows from in omega (arith, join)
      by (Some w) windowed = let join : total growth (join_of items from) ≡ 0 = stream-still from (is ∙ windowed.1) in omega (arith, join)

  query-grows : (before : List Item) → AreAmong before items → (q : Query) → IsSoundQuery before q → total stage_growth (stages_of items q) ≤ 2
  unfolding stages_of
  query-grows before among q (query {types = types} {left = l} reads condition makes _ _) =
      let whole : total stage_growth (rekey_stages items q ++ shape_stages items q q.shape) ≡ total stage_growth (rekey_stages items q) + total stage_growth (shape_stages items q q.shape) =
      total-append stage_growth (rekey_stages items q) (shape_stages items q q.shape) in
      let rekeyed : total stage_growth (rekey_stages items q) ≤ 0 = rekey-still q q.from in
      let shaped : total stage_growth (shape_stages items q q.shape) ≤ total growth (join_of items q.from) + shape_growth q.shape = shape-grows q q.shape in
      let made : total growth (join_of items q.from) + shape_growth q.shape ≤ 2 = made-grows q.from l types q.out (reads-kind before items among reads) q.shape makes in
      omega (arith, whole, rekeyed, shaped, made)

  -- ---- all sub-topologies

  abbrev GrowsByTwo : Item → Type 0
  GrowsByTwo i = total stage_growth (stages_at items i) ≤ 2

  item-grows : (before : List Item) → AreAmong before items → (i : Item) → IsSoundItem before i → GrowsByTwo i
  item-grows before among (Declared r) sound = omega arith
  item-grows before among (Started q) sound = query-grows before among q sound.1

  from-grow : (k first : ℕ) (cuts : List CutName) (number : ℕ) (stages : List Stage) → total sub_growth (subs_from items k first cuts number stages) ≡ total stage_growth stages
  from-grow k first cuts number [] = refl
  from-grow k first cuts number (s ∷ ss) = ap (λ n. stage_growth s + n) (from-grow k first cuts (number + 1) ss)

  subs-grow : (k first number : ℕ) (after : List Item) → AllByRecursion GrowsByTwo after → total sub_growth (subs_of items k first number after) ≤ 2 * length after
  unfolding subs_of
  subs-grow k first number [] grows = omega arith
  subs-grow k first number (i ∷ is) grows =
      let stages : List Stage = stages_at items i in
      let own : List Sub = subs_from items k first (cuts_of stages) number stages in
      let later : List Sub = subs_of items (k + 1) (first + length (cuts_of stages)) (number + length stages) is in
      let whole : total sub_growth (own ++ later) ≡ total sub_growth own + total sub_growth later = total-append sub_growth own later in
      let here : total sub_growth own ≡ total stage_growth stages = from-grow k first (cuts_of stages) number stages in
      let two : total stage_growth stages ≤ 2 = grows.0 in
      let rest : total sub_growth later ≤ 2 * length is = subs-grow (k + 1) (first + length (cuts_of stages)) (number + length stages) is grows.1 in
      omega (arith, whole, here, two, rest)

pub all-at : {A : Type 0} (P : A → Type 0) (xs : List A) → ((number : ℕ) (x : A) → slice_get xs number ≡ Some x → P x) → AllByRecursion P xs
all-at P [] h = tt
all-at P (x ∷ xs) h = (h zero x refl, all-at P xs (λ number y at. h (suc number) y at))

pub sent-small : (items : List Item) (order : List SourceRecord) → IsSound items → All IsInTime order → IsSmallThroughout items (topology_of items) order
sent-small items order sound small topic part =
    let grows : AllByRecursion (GrowsByTwo items) items = all-at (GrowsByTwo items) items (λ number i at. item-grows items (take number items) (before-among items number) i (sound-at items number i sound.sound at)) in
    let b : ℕ = 2 ^ 53 in
    let m : ℕ = 0 + total sub_growth (subs items) in
    let few : length items ≤ 200 = sound.few in
    let bound : total sub_growth (subs items) ≤ 2 * length items = subs-grow items 0 (length items) 0 items grows in
    let has : List Change = contents items (topology_of items) order topic part in
    All-from_recursion IsSmall has
    (All-weaker (IsSized b m) IsSmall (λ c h. record { time = h.0; path = let own = h.1 in omega (arith, few, bound, own) }) has
    (contents-sized b (topology_of items).topics (source_contents items order) 0 (source-sized b items order (recursion_from_All IsInTime order small)) (subs items) topic part))
