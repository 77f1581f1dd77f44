-- What the stages of a sound program look like: their nodes and what they read, and by how much they make paths longer.
use Rattle.std.proofs.Common.{◌≡◌, ◌∙◌, ap, append_assoc, refl, sym, subst, ℕ, zero, suc, ◌+◌, ◌*◌, ◌^◌, ◌<◌, ◌≤◌, List, [], ◌∷◌, ◌++◌, map, length, take, Bool, true, false, arith}
use Rattle.std.specs.Prelude.{◌==◌, ◌&&◌, not, if◌then◌else◌, Option, Some, None, slice_get, unwrap_or, option_map}
use Rattle.std.specs.List.{AllByRecursion}
use Rattle.std.proofs.lemmas.Option.{none-some, same_Some}
use Rattle.ksql_types.specs.Columns.{columns}
use Rattle.ksql_types.specs.declared.relation.Kind.{Kind}
use Rattle.ksql_types.specs.declared.relation.Kind.TheVariants as kind
use Rattle.ksql_types.specs.declared.relation.Relation.{Relation}
use Rattle.ksql_types.specs.declared.relation.Window.{Window}
use Rattle.ksql_types.specs.declared.value.SqlType.{SqlType}
use Rattle.ksql_expr.specs.declared.typed.Typed.{Typed}
use Rattle.ksql_program.specs.Program.{relation_at, relation_of}
use Rattle.ksql_program.specs.Sound.{HasFewAggregates, IsSound, IsSoundItem, IsSoundQuery, IsWindowed, ItemHasFewAggregates, Makes, Reads, grouped, joined, one, plain, query}
use Rattle.ksql_program.specs.declared.program.Item.{Item}
use Rattle.ksql_program.specs.declared.program.Item.TheVariants.{Declared, Started}
use Rattle.ksql_program.specs.declared.query.Agg.{Agg}
use Rattle.ksql_program.specs.declared.query.From.{From}
use Rattle.ksql_program.specs.declared.query.From.TheVariants.{One, Join}
use Rattle.ksql_program.specs.declared.query.JoinKind.{JoinKind}
use Rattle.ksql_program.specs.declared.query.Query.{Query}
use Rattle.ksql_program.specs.declared.query.Shape.{Shape}
use Rattle.ksql_program.specs.declared.query.Shape.TheVariants as shape
use Rattle.ksql_nodes.specs.declared.node.Node.{Node}
use Rattle.ksql_nodes.specs.declared.node.Node.TheVariants as node
use Rattle.ksql_nodes.proofs.Lists.{All-append}
use Rattle.query_meaning.specs.Queries.{after_aggregate, filter_of, join_of, join_over, key_columns, kind_at, lanes_of, leftmost, side_at}
use Rattle.meaning_laws.proofs.EachRelation.{AreAmong}
use Rattle.meaning_laws.proofs.Lists.{All-both, All-weaker}
use Rattle.meaning_laws.proofs.RelationTables.{reads-kind}
use Rattle.meaning_laws.proofs.Sizes.{growth}
use Rattle.topology.specs.Stages.{aggregate_nodes, are_own_key, input_nodes, inputs_of, is_column, is_rekeyed, rekey_from, rekey_stages, shape_stages, stages_of, table_of}
use Rattle.topology.specs.Topologies.{cuts_of, input_of, stages_at, subs, subs_from, subs_of}
use Rattle.topology.specs.declared.stage.CutName.{CutName}
use Rattle.topology.specs.declared.stage.CutName.TheVariants as cut
use Rattle.topology.specs.declared.stage.Link.{Link}
use Rattle.topology.specs.declared.stage.Link.TheVariants as link
use Rattle.topology.specs.declared.stage.Stage.{Stage}
use Rattle.topology.specs.declared.topology.Sub.{Sub}
use Rattle.sending_laws.proofs.ItemLists.{before-among, item-at, sound-at}
use Rattle.sending_laws.proofs.SentSizes.{all-at, table_over}
use Rattle.storing_laws.proofs.Along.{sub_growth, total, total-append}

-- ---- the form of a stage

-- a node after the first: it has one input, keeps no table, and has fewer aggregates than four bytes can count
abbrev pub IsLater : Node → Type 0
IsLater (node.Table relation) = ⊥
IsLater (node.JoinStreamTable kind on l r) = ⊥
IsLater (node.JoinTables kind l r) = ⊥
IsLater (node.Aggregate over aggs w) = suc (length aggs) < 2 ^ 32
IsLater _ = Unit {0}

-- the relation with whose number the places of a link's topic are compared
abbrev pub number_of : Link → ℕ
number_of (link.Relation number) = number
number_of (link.Cut name relation) = relation

-- a relation of a program, with at most 64 columns
abbrev pub IsNarrow : List Item → ℕ → Type 0
IsNarrow items number = (r : Relation) × (relation_at items number ≡ Some r) × (length (columns r) ≤ 64)

-- what a stage reads, and its nodes: it keeps tables in its first node alone, whose tables are whole relations
pub data HasForm (items : List Item) : List Link → List Node → Type 0 where
  of_one : {l : Link} {nodes : List Node} → AllByRecursion IsLater nodes → HasForm items (l ∷ []) nodes
  of_table : {number : ℕ} {nodes : List Node} → IsNarrow items number → AllByRecursion IsLater nodes → HasForm items (link.Relation number ∷ []) (node.Table number ∷ nodes)
  of_stream : {k : JoinKind} {on : Typed} {right : ℕ} {l : Link} {nodes : List Node} → IsNarrow items right → AllByRecursion IsLater nodes →
      HasForm items (l ∷ link.Relation right ∷ []) (node.JoinStreamTable k on (side_at items (number_of l)) (side_at items right) ∷ nodes)
  of_tables : {k : JoinKind} {left right : ℕ} {nodes : List Node} → (left ≡ right → ⊥) → IsNarrow items left → IsNarrow items right → AllByRecursion IsLater nodes →
      HasForm items (link.Relation left ∷ link.Relation right ∷ []) (node.JoinTables k (side_at items left) (side_at items right) ∷ nodes)

abbrev stage_growth : Stage → ℕ
stage_growth s = total growth s.nodes

-- ---- nodes

filter-later : (o : Option Typed) → AllByRecursion IsLater (filter_of o)
filter-later None = tt
filter-later (Some e) = (tt, tt)

after-later : (having : Option Typed) (values : List Typed) → AllByRecursion IsLater (after_aggregate having values)
after-later None values = (tt, tt)
after-later (Some e) values = (tt, (tt, tt))

regroup : (a b c d : List Node) → (a ++ (b ++ c)) ++ d ≡ a ++ (b ++ (c ++ d))
regroup a b c d = append_assoc a (b ++ c) d ∙ ap (λ rest. a ++ rest) (append_assoc b c d)

-- whether a stream is rekeyed, by the kind of what is joined
abbrev rekeyed_over : List Item → ℕ → Typed → Kind → Bool
rekeyed_over items left on kind.Stream = not ((key_columns items left == 1) && is_column 0 on)
rekeyed_over items left on _ = false

module _ (items : List Item) (sound : IsSound items) where
  -- a relation of a sound program has at most 64 columns
  pub narrow : (number : ℕ) (r : Relation) → relation_at items number ≡ Some r → IsNarrow items number
  narrow number r at = let found = item-at items number r at in (r, at, subst (λ x. length (columns x) ≤ 64) found.2 (by found.0 (sound-at items number found.0 sound.sound found.1)))
    where
      by : (i : Item) → IsSoundItem (take number items) i → length (columns (relation_of i)) ≤ 64
      by (Declared d) h = h.0.columns_few
      by (Started q) h = h.0.columns_few

  kind-at : (number : ℕ) (r : Relation) → relation_at items number ≡ Some r → kind_at items number ≡ r.kind
  kind-at number r at = ap (λ o. unwrap_or (option_map (λ (r : Relation). r.kind) o) kind.Stream) at

  module _ (before : List Item) (among : AreAmong before items) where
    -- what a stage reads first, and its first nodes
    read-form : (from : From) {types : List (Option SqlType)} {l : Relation} → Reads before from types l → (rest : List Node) → AllByRecursion IsLater rest →
        HasForm items (inputs_of items from) (table_of items from ++ (join_of items from ++ rest))
    read-form (One number) (one {r = r} at _) rest later = by (kind_at items number)
      where
        by : (over : Kind) → HasForm items (link.Relation number ∷ []) (table_over number over ++ rest)
        by kind.Stream = of_one later
        by kind.Table = of_table (narrow number r (among number r at)) later
        by kind.Windowed = of_one later
    read-form (Join k left right on) (joined {l = l} {r = r} at_left at_right apart table alike j) rest later = by (kind_at items left)
      where
        first : Bool → Link
        first b = if b then link.Cut cut.Left left else link.Relation left

        wide : IsNarrow items right
        wide = narrow right r (among right r at_right)

        stream : (b : Bool) → HasForm items (first b ∷ link.Relation right ∷ []) (node.JoinStreamTable k on (side_at items left) (side_at items right) ∷ rest)
        stream true = of_stream wide later
        stream false = of_stream wide later

        tables : HasForm items (link.Relation left ∷ link.Relation right ∷ []) (node.JoinTables k (side_at items left) (side_at items right) ∷ rest)
        tables = of_tables apart (narrow left l (among left l at_left)) wide later

        by : (over : Kind) → HasForm items (first (rekeyed_over items left on over) ∷ link.Relation right ∷ []) (join_over items k left right on over ++ rest)
        by kind.Stream = stream (rekeyed_over items left on kind.Stream)
        by kind.Table = tables
        by kind.Windowed = tables

    -- ---- the stages of a query

    abbrev IsFormed : Stage → Type 0
    IsFormed s = HasForm items s.inputs s.nodes

    rekey-formed : (q : Query) (from : From) → AllByRecursion IsFormed (rekey_from items q from)
    rekey-formed q (One number) = tt
    rekey-formed q (Join k left right on) = by (is_rekeyed items (Join k left right on))
      where
        stage : Stage
        stage = record { inputs = link.Relation left ∷ []; nodes = node.Rekey on ∷ []; partitions = lanes_of items q; output = link.Cut cut.Left left }

        by : (b : Bool) → AllByRecursion IsFormed (if b then stage ∷ [] else [])
        by true = (of_one (tt, tt), tt)
        by false = tt

    module _ (q : Query) {types : List (Option SqlType)} {l : Relation} (reads : Reads before q.from types l) where
      -- a stage that reads what the query reads
      reading-form : (rest : List Node) → AllByRecursion IsLater rest → HasForm items (inputs_of items q.from) (input_nodes items q ++ rest)
      reading-form rest later =
          subst (HasForm items (inputs_of items q.from)) (sym (regroup (table_of items q.from) (join_of items q.from) (filter_of q.filter) rest))
          (read-form q.from reads (filter_of q.filter ++ rest) (All-append IsLater (filter_of q.filter) rest (filter-later q.filter) later))

      shape-formed : (s : Shape) → HasFewAggregates s → AllByRecursion IsFormed (shape_stages items q s)
      shape-formed (shape.Plain ks vs) few = (reading-form (node.Select ks vs ∷ []) (tt, tt), tt)
      shape-formed (shape.Group ks w gs having vs) few = by (are_own_key items q.from ks)
        where
          rest : List Node
          rest = aggregate_nodes items q (shape.Group ks w gs having vs)

          grouping : List Node
          grouping = input_nodes items q ++ node.Group ks ∷ []

          later : AllByRecursion IsLater rest
          later = (few, after-later having vs)

          by : (b : Bool) → AllByRecursion IsFormed
              (if b then record { inputs = inputs_of items q.from; nodes = grouping ++ rest; partitions = lanes_of items q; output = link.Relation q.out.number } ∷ []
              else record { inputs = inputs_of items q.from; nodes = grouping; partitions = lanes_of items q; output = link.Cut cut.Group (leftmost q.from) }
              ∷ record { inputs = link.Cut cut.Group (leftmost q.from) ∷ []; nodes = rest; partitions = lanes_of items q; output = link.Relation q.out.number } ∷ [])
          by true = (subst (HasForm items (inputs_of items q.from)) (sym (append_assoc (input_nodes items q) (node.Group ks ∷ []) rest)) (reading-form (node.Group ks ∷ rest) (tt, later)), tt)
          by false = (reading-form (node.Group ks ∷ []) (tt, tt), (of_one later, tt))

    query-formed : (q : Query) → IsSoundQuery before q → HasFewAggregates q.shape → AllByRecursion IsFormed (stages_of items q)
    unfolding stages_of
    query-formed q (query reads _ _ _ _) few =
        All-append IsFormed (rekey_stages items q) (shape_stages items q q.shape) (rekey-formed q q.from) (shape-formed q reads q.shape few)

-- ---- paths

if-grows : (k : ℕ) (t : Bool) (xs ys : List Stage) → total stage_growth xs ≤ k → total stage_growth ys ≤ k → total stage_growth (if t then xs else ys) ≤ k
if-grows k true xs ys hx hy = hx
if-grows k false xs ys hx hy = hy

filter-still : (on : Option Typed) → total growth (filter_of on) ≡ 0
filter-still None = refl
filter-still (Some e) = refl

after-still : (having : Option Typed) (values : List Typed) → total growth (after_aggregate having values) ≡ 0
after-still None values = refl
after-still (Some e) values = refl

-- by how many numbers the aggregate of a window makes paths longer
abbrev window_growth : Option Window → ℕ
window_growth None = 0
window_growth (Some w) = 1

window-growth : (over : Kind) (aggs : List Agg) (w : Option Window) → growth (node.Aggregate over aggs w) ≡ window_growth w
window-growth over aggs None = refl
window-growth over aggs (Some w) = refl

-- and the nodes of a shape
abbrev shape_growth : Shape → ℕ
shape_growth (shape.Plain keys values) = 0
shape_growth (shape.Group keys w aggs having values) = 1 + window_growth w

module _ (items : List Item) where
  table-still : (from : From) → total growth (table_of items from) ≡ 0
  table-still (One number) = by (kind_at items number)
    where
      by : (over : Kind) → total growth (table_over number over) ≡ 0
      by kind.Stream = refl
      by kind.Table = refl
      by kind.Windowed = refl
  table-still (Join k left right on) = refl

  join-grows : (from : From) → total growth (join_of items from) ≤ 1
  join-grows (One number) = omega arith
  join-grows (Join k left right on) = by (kind_at items left)
    where
      by : (over : Kind) → total growth (join_over items k left right on over) ≤ 1
      by kind.Stream = omega arith
      by kind.Table = omega arith
      by kind.Windowed = omega arith

  rekey-still : (q : Query) (from : From) → total stage_growth (rekey_from items q from) ≤ 0
  rekey-still q (One number) = omega arith
  rekey-still q (Join k left right on) = if-grows 0 (is_rekeyed items (Join k left right on)) _ _ (omega arith) (omega arith)

  -- a join of a stream makes no path longer
  stream-still : (from : From) → kind_at items (leftmost from) ≡ kind.Stream → total growth (join_of items from) ≡ 0
  stream-still (One number) is = refl
  stream-still (Join k left right on) is = ap (λ over. total growth (join_over items k left right on over)) is

  module _ (q : Query) where
    input-grows : total growth (input_nodes items q) ≡ total growth (join_of items q.from)
    input-grows =
        let whole : total growth (input_nodes items q) ≡ total growth (table_of items q.from) + total growth (join_of items q.from ++ filter_of q.filter) = total-append growth (table_of items q.from) (join_of items q.from ++ filter_of q.filter) in
        let rest : total growth (join_of items q.from ++ filter_of q.filter) ≡ total growth (join_of items q.from) + total growth (filter_of q.filter) = total-append growth (join_of items q.from) (filter_of q.filter) in
        let table : total growth (table_of items q.from) ≡ 0 = table-still q.from in
        let filtered : total growth (filter_of q.filter) ≡ 0 = filter-still q.filter in
        omega (arith, whole, rest, table, filtered)

    shape-grows : (s : Shape) → total stage_growth (shape_stages items q s) ≤ total growth (join_of items q.from) + shape_growth s
    shape-grows (shape.Plain keys values) =
        let whole : total growth (input_nodes items q ++ node.Select keys values ∷ []) ≡ total growth (input_nodes items q) + 0 = total-append growth (input_nodes items q) (node.Select keys values ∷ []) in
        let front : total growth (input_nodes items q) ≡ total growth (join_of items q.from) = input-grows in
        omega (arith, whole, front)
    shape-grows (shape.Group keys w aggs having values) =
        let grouping : List Node = input_nodes items q ++ node.Group keys ∷ [] in
        let rest : List Node = aggregate_nodes items q (shape.Group keys w aggs having values) in
        let front : total growth (input_nodes items q) ≡ total growth (join_of items q.from) = input-grows in
        let first : total growth grouping ≡ total growth (input_nodes items q) + 1 = total-append growth (input_nodes items q) (node.Group keys ∷ []) in
        let whole : total growth (grouping ++ rest) ≡ total growth grouping + total growth rest = total-append growth grouping rest in
        let own : growth (node.Aggregate (kind_at items (leftmost q.from)) aggs w) ≡ window_growth w = window-growth (kind_at items (leftmost q.from)) aggs w in
        let after : total growth (after_aggregate having values) ≡ 0 = after-still having values in
        let last : total growth rest ≡ window_growth w = omega (arith, own, after) in
        if-grows (total growth (join_of items q.from) + shape_growth (shape.Group keys w aggs having values)) (are_own_key items q.from keys) _ _
        (omega (arith, front, first, whole, last)) (omega (arith, front, first, last))

  -- a window is over a stream, and there a join makes no path longer
  made-grows : (from : From) (l : Relation) (types : List (Option SqlType)) (out : Relation) → kind_at items (leftmost from) ≡ l.kind → (s : Shape) → Makes l types s out →
      total growth (join_of items from) + shape_growth s ≤ 2
  made-grows from l types out is s (plain {ks = ks} {vs = vs} _ _ _) = let join : total growth (join_of items from) ≤ 1 = join-grows from in omega (arith, join)
  made-grows from l types out is s (grouped {ks = ks} {vs = vs} {w = w} {gs = gs} {h = h} _ _ _ _ _ _ windowed _ _ _) = by w windowed
    where
      by : (w : Option Window) → IsWindowed l.kind w → total growth (join_of items from) + (1 + window_growth w) ≤ 2
      by None windowed = let join : total growth (join_of items from) ≤ 1 = join-grows from in omega (arith, join)
      by (Some w) windowed = let join : total growth (join_of items from) ≡ 0 = stream-still from (is ∙ windowed.1) in omega (arith, join)

  -- a query of a sound program makes paths longer by at most two numbers
  query-grows : (before : List Item) → AreAmong before items → (q : Query) → IsSoundQuery before q → total stage_growth (stages_of items q) ≤ 2
  unfolding stages_of
  query-grows before among q (query {types = types} {left = l} reads _ makes _ _) =
      let whole : total stage_growth (rekey_stages items q ++ shape_stages items q q.shape) ≡ total stage_growth (rekey_stages items q) + total stage_growth (shape_stages items q q.shape) =
      total-append stage_growth (rekey_stages items q) (shape_stages items q q.shape) in
      let rekeyed : total stage_growth (rekey_stages items q) ≤ 0 = rekey-still q q.from in
      let shaped : total stage_growth (shape_stages items q q.shape) ≤ total growth (join_of items q.from) + shape_growth q.shape = shape-grows q q.shape in
      let made : total growth (join_of items q.from) + shape_growth q.shape ≤ 2 = made-grows q.from l types q.out (reads-kind before items among reads) q.shape makes in
      omega (arith, whole, rekeyed, shaped, made)

-- ---- sub-topologies

-- the facts about a sub-topology
pub record IsFormedSub (items : List Item) (s : Sub) : Type 0 where
  pub first : ℕ
  pub cuts : List CutName
  pub links : List Link
  pub inputs : s.inputs ≡ map (input_of items first cuts) links
  pub form : HasForm items links s.nodes
  pub grows : sub_growth s ≤ 2

-- the facts about the stages of an item
abbrev IsFormedItem : List Item → Item → Type 0
IsFormedItem items i = AllByRecursion (λ s. HasForm items s.inputs s.nodes) (stages_at items i) × (total stage_growth (stages_at items i) ≤ 2)

stages-formed : (items : List Item) (k first : ℕ) (cuts : List CutName) (number : ℕ) (stages : List Stage) → AllByRecursion (λ s. HasForm items s.inputs s.nodes) stages →
    total stage_growth stages ≤ 2 → AllByRecursion (IsFormedSub items) (subs_from items k first cuts number stages)
stages-formed items k first cuts number [] formed grows = tt
stages-formed items k first cuts number (s ∷ ss) formed grows = (
  record { first = first; cuts = cuts; links = s.inputs; inputs = refl; form = formed.0; grows = omega (arith, grows) },
  stages-formed items k first cuts (number + 1) ss formed.1 (omega (arith, grows)),
)

items-formed : (items : List Item) (k first number : ℕ) (after : List Item) → AllByRecursion (IsFormedItem items) after → AllByRecursion (IsFormedSub items) (subs_of items k first number after)
unfolding subs_of
items-formed items k first number [] formed = tt
items-formed items k first number (i ∷ after) formed =
    let stages : List Stage = stages_at items i in
    All-append (IsFormedSub items) (subs_from items k first (cuts_of stages) number stages) (subs_of items (k + 1) (first + length (cuts_of stages)) (number + length stages) after)
    (stages-formed items k first (cuts_of stages) number stages formed.0.0 formed.0.1)
    (items-formed items (k + 1) (first + length (cuts_of stages)) (number + length stages) after formed.1)

from-grow : (items : List Item) (k first : ℕ) (cuts : List CutName) (number : ℕ) (stages : List Stage) → total sub_growth (subs_from items k first cuts number stages) ≡ total stage_growth stages
from-grow items k first cuts number [] = refl
from-grow items k first cuts number (s ∷ ss) = ap (λ n. stage_growth s + n) (from-grow items k first cuts (number + 1) ss)

subs-grow : (items : List Item) (k first number : ℕ) (after : List Item) → AllByRecursion (IsFormedItem items) after → total sub_growth (subs_of items k first number after) ≤ 2 * length after
unfolding subs_of
subs-grow items k first number [] formed = omega arith
subs-grow items k first number (i ∷ is) formed =
    let stages : List Stage = stages_at items i in
    let own : List Sub = subs_from items k first (cuts_of stages) number stages in
    let later : List Sub = subs_of items (k + 1) (first + length (cuts_of stages)) (number + length stages) is in
    let whole : total sub_growth (own ++ later) ≡ total sub_growth own + total sub_growth later = total-append sub_growth own later in
    let here : total sub_growth own ≡ total stage_growth stages = from-grow items k first (cuts_of stages) number stages in
    let two : total stage_growth stages ≤ 2 = formed.0.1 in
    let rest : total sub_growth later ≤ 2 * length is = subs-grow items (k + 1) (first + length (cuts_of stages)) (number + length stages) is formed.1 in
    omega (arith, whole, here, two, rest)

module _ (items : List Item) (sound : IsSound items) where
  all-formed : AllByRecursion (IsFormedItem items) items
  all-formed =
      All-weaker Known (IsFormedItem items) formed items
      (All-both Sound ItemHasFewAggregates items
      (all-at Sound items (λ number i at. (take number items, before-among items number, sound-at items number i sound.sound at))) sound.few_aggregates)
    where
      Sound : Item → Type 0
      Sound i = (before : List Item) × AreAmong before items × IsSoundItem before i

      Known : Item → Type 0
      Known i = Sound i × ItemHasFewAggregates i

      formed : (i : Item) → Known i → IsFormedItem items i
      formed (Declared r) known = (tt, omega arith)
      formed (Started q) ((before, among, is), few) = (query-formed items sound before among q is.1 few, query-grows items before among q is.1)

  -- each sub-topology has its form, and together they lengthen paths by at most twice as many numbers as there are
  -- items
  pub subs-formed : AllByRecursion (IsFormedSub items) (subs items)
  subs-formed = items-formed items 0 (length items) 0 items all-formed

  pub subs-bound : total sub_growth (subs items) ≤ 400
  subs-bound =
      let few : length items ≤ 200 = sound.few in
      let bound : total sub_growth (subs items) ≤ 2 * length items = subs-grow items 0 (length items) 0 items all-formed in
      omega (arith, few, bound)

-- what holds of each holds of the one at a number
pub all-get : {A : Type 0} (P : A → Type 0) (xs : List A) → AllByRecursion P xs → (number : ℕ) (x : A) → slice_get xs number ≡ Some x → P x
all-get P [] h number x at = absurd (none-some x at)
all-get P (y ∷ ys) h zero x at = subst P (same_Some y x at) h.0
all-get P (y ∷ ys) h (suc number) x at = all-get P ys h.1 number x at
