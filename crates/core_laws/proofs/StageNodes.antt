-- The nodes of a program's sub-topologies have operators, and no two of one sub-topology have stores of one number.
use Rattle.std.proofs.Common.{◌≡◌, ◌∙◌, refl, sym, subst, ℕ, ◌<◌, ◌≤◌, ◌*◌, Bool, List, [], ◌∷◌, ◌++◌, true, false, ne_eqb, true≢false, inl, inr, arith}
use Rattle.std.proofs.lemmas.Bool.{eqb-true, lt-ltb, ltb-true}
use Rattle.std.proofs.lemmas.Bool.Decides.{nat_tests}
use Rattle.std.proofs.lemmas.List.Elements.{All-from_recursion, All-nil}
use Rattle.std.specs.Prelude.{◌⊎◌, ◌==◌, ◌^◌, ◌&&◌, ◌||◌, not, All, IsTrue, Option, Some, None, nat_lt, option_map, slice_get, take, unwrap_or}
use Rattle.std.specs.List.{AllByRecursion}
use Rattle.ksql_types.specs.declared.relation.Kind.{Kind}
use Rattle.ksql_types.specs.declared.relation.Kind.TheVariants as kind
use Rattle.ksql_types.specs.declared.relation.Relation.{Relation}
use Rattle.ksql_types.specs.declared.relation.TaskName.{TaskName}
use Rattle.ksql_types.specs.declared.relation.Window.{Window}
use Rattle.ksql_types.specs.declared.value.SqlType.{SqlType}
use Rattle.ksql_expr.specs.declared.typed.Typed.{Typed}
use Rattle.ksql_program.specs.Sound.{IsSound, IsSoundItem, IsSoundQuery, IsSoundWindow, IsWindowed, Makes, grouped, plain, query as of_query}
use Rattle.ksql_program.specs.declared.program.Item.{Item}
use Rattle.ksql_program.specs.declared.program.Item.TheVariants.{Started}
use Rattle.ksql_program.specs.declared.query.Agg.{Agg}
use Rattle.ksql_program.specs.declared.query.From.{From}
use Rattle.ksql_program.specs.declared.query.From.TheVariants.{One, Join}
use Rattle.ksql_program.specs.declared.query.JoinKind.{JoinKind}
use Rattle.ksql_program.specs.declared.query.Query.{Query}
use Rattle.ksql_program.specs.declared.query.Shape.{Shape}
use Rattle.ksql_program.specs.declared.query.Shape.TheVariants as shape
use Rattle.ksql_nodes.specs.declared.node.Node.{Node}
use Rattle.ksql_nodes.specs.declared.node.Node.TheVariants.{Rekey, Table, JoinStreamTable, JoinTables, Filter, Group, Aggregate, Having, Select}
use Rattle.ksql_nodes.specs.declared.node.Side.{Side}
use Rattle.ksql_nodes.proofs.Lists.{All-append}
use Rattle.operator.specs.Holding.{is_store_of}
use Rattle.query_meaning.specs.Queries.{after_aggregate, filter_of, join_of, join_over, kind_at, leftmost, side_at}
use Rattle.meaning_laws.proofs.EachRelation.{AreAmong}
use Rattle.meaning_laws.proofs.Lists.{All-of, All-weaker, Pairwise, all-from_pairwise}
use Rattle.meaning_laws.proofs.RelationTables.{reads-kind, reads-unwindowed}
use Rattle.topology.specs.Stages.{aggregate_nodes, are_own_key, input_nodes, is_rekeyed, rekey_from, rekey_stages, shape_stages, stages_of, table_of}
use Rattle.topology.specs.Topologies.{subs, topology_of}
use Rattle.topology.specs.declared.stage.Stage.{Stage}
use Rattle.topology.specs.declared.topology.Sub.{Sub}
use Rattle.sending_laws.proofs.ItemLists.{before-among, sound-at}
use Rattle.sending_laws.proofs.Paths.{holds-of}
use Rattle.agg_ops.specs.Totals.{is_sound_window}
use Rattle.op_chain.specs.Chain.{HaveOwnStores, has_operator}
use Rattle.task_core.specs.Core.{nodes_at}
use Rattle.wiring_laws.proofs.Members.{at-member}
use Rattle.wiring_laws.proofs.Writers.{if-has, subs-all}

-- ---- what holds of each node

table-cases : (items : List Item) (number : ℕ) → (table_of items (One number) ≡ []) ⊎ (table_of items (One number) ≡ Table number ∷ [])
table-cases items number = by (kind_at items number) refl
  where
    by : (k : Kind) → kind_at items number ≡ k → (table_of items (One number) ≡ []) ⊎ (table_of items (One number) ≡ Table number ∷ [])
    by kind.Stream is = inl (rw is refl)
    by kind.Table is = inr (rw is refl)
    by kind.Windowed is = inl (rw is refl)

-- each node but an aggregate has this
record OfOthers (P : Node → Type 0) : Type 0 where
  rekey : (key : Typed) → P (Rekey key)
  table : (number : ℕ) → P (Table number)
  stream_join : (k : JoinKind) (on : Typed) (l r : Side) → P (JoinStreamTable k on l r)
  table_join : (k : JoinKind) (l r : Side) → P (JoinTables k l r)
  filter : (on : Typed) → P (Filter on)
  group : (keys : List Typed) → P (Group keys)
  having : (on : Typed) → P (Having on)
  select : (keys values : List Typed) → P (Select keys values)

module _ (P : Node → Type 0) (items : List Item) (q : Query) where
  filters-all : ((on : Typed) → P (Filter on)) → (on : Option Typed) → AllByRecursion P (filter_of on)
  filters-all each None = tt
  filters-all each (Some e) = (each e, tt)

  after-all : ((on : Typed) → P (Having on)) → ((keys values : List Typed) → P (Select keys values)) → (having : Option Typed) (values : List Typed) → AllByRecursion P (after_aggregate having values)
  after-all each last None values = (last [] values, tt)
  after-all each last (Some e) values = (each e, (last [] values, tt))

  table-all : ((number : ℕ) → P (Table number)) → (from : From) → AllByRecursion P (table_of items from)
  table-all each (One number) = by (table-cases items number)
    where
      by : (table_of items (One number) ≡ []) ⊎ (table_of items (One number) ≡ Table number ∷ []) → AllByRecursion P (table_of items (One number))
      by (inl is) = subst (AllByRecursion P) (sym is) tt
      by (inr is) = subst (AllByRecursion P) (sym is) (each number, tt)
  table-all each (Join k left right on) = tt

  over-all : ((k : JoinKind) (on : Typed) (l r : Side) → P (JoinStreamTable k on l r)) → ((k : JoinKind) (l r : Side) → P (JoinTables k l r)) →
      (k : JoinKind) (left right : ℕ) (on : Typed) (over : Kind) → AllByRecursion P (join_over items k left right on over)
  over-all stream tables k left right on kind.Stream = (stream k on (side_at items left) (side_at items right), tt)
  over-all stream tables k left right on kind.Table = (tables k (side_at items left) (side_at items right), tt)
  over-all stream tables k left right on kind.Windowed = (tables k (side_at items left) (side_at items right), tt)

  join-all : ((k : JoinKind) (on : Typed) (l r : Side) → P (JoinStreamTable k on l r)) → ((k : JoinKind) (l r : Side) → P (JoinTables k l r)) → (from : From) → AllByRecursion P (join_of items from)
  join-all stream tables (One number) = tt
  join-all stream tables (Join k left right on) = over-all stream tables k left right on (kind_at items left)

  input-all : OfOthers P → AllByRecursion P (input_nodes items q)
  input-all others =
      All-append P (table_of items q.from) (join_of items q.from ++ filter_of q.filter) (table-all others.table q.from)
      (All-append P (join_of items q.from) (filter_of q.filter) (join-all others.stream_join others.table_join q.from) (filters-all others.filter q.filter))

  -- each aggregate of a shape has this
  abbrev OfAggregates : Shape → Type 0
  OfAggregates (shape.Plain keys values) = Unit {0}
  OfAggregates (shape.Group keys window aggs having values) = P (Aggregate (kind_at items (leftmost q.from)) aggs window)

  abbrev NodesAll : Stage → Type 0
  NodesAll s = AllByRecursion P s.nodes

  shape-all : OfOthers P → (form : Shape) → OfAggregates form → AllByRecursion NodesAll (shape_stages items q form)
  shape-all others (shape.Plain keys values) known = (All-append P (input_nodes items q) (Select keys values ∷ []) (input-all others) (others.select keys values, tt), tt)
  shape-all others (shape.Group keys window aggs having values) known =
      let grouping : List Node = input_nodes items q ++ Group keys ∷ [] in
      let rest : List Node = aggregate_nodes items q (shape.Group keys window aggs having values) in
      let first : AllByRecursion P grouping = All-append P (input_nodes items q) (Group keys ∷ []) (input-all others) (others.group keys, tt) in
      let second : AllByRecursion P rest = (known, after-all others.having others.select having values) in
      if-has (AllByRecursion NodesAll) (are_own_key items q.from keys) _ _ (All-append P grouping rest first second, tt) (first, (second, tt))

  rekeys-all : OfOthers P → (from : From) → AllByRecursion NodesAll (rekey_from items q from)
  rekeys-all others (One number) = tt
  rekeys-all others (Join k left right on) = if-has (AllByRecursion NodesAll) (is_rekeyed items (Join k left right on)) _ _ ((others.rekey on, tt), tt) tt

  stages-have : OfOthers P → OfAggregates q.shape → AllByRecursion NodesAll (stages_of items q)
  unfolding stages_of
  stages-have others known = All-append NodesAll (rekey_stages items q) (shape_stages items q q.shape) (rekeys-all others q.from) (shape-all others q.shape known)

-- ---- operators

others-run : OfOthers (λ n. IsTrue (has_operator n))
others-run = record {
  rekey = λ key. refl;
  table = λ number. refl;
  stream_join = λ k on l r. refl;
  table_join = λ k l r. refl;
  filter = λ on. refl;
  group = λ keys. refl;
  having = λ on. refl;
  select = λ keys values. refl;
}

both-true : (a b : Bool) → IsTrue a → IsTrue b → IsTrue (a && b)
both-true true b first second = second
both-true false b first second = absurd (true≢false (sym first))

at-most : (m n : ℕ) → m ≤ n → IsTrue (not (nat_lt n m))
at-most m n le = by (nat_lt n m) refl
  where
    by : (b : Bool) → nat_lt n m ≡ b → IsTrue (not b)
    by false is = refl
    by true is = absurd (omega (arith, le, ltb-true n m is))

either : (b : Bool) → IsTrue b → IsTrue (b || false)
either true is = refl
either false is = absurd (true≢false (sym is))

window-sound : (w : Window) → IsSoundWindow w → IsTrue (is_sound_window w)
window-sound w h =
    both-true _ _
    (both-true _ _
    (both-true _ _ (both-true _ _ (lt-ltb 0 w.advance h.moves) (at-most w.advance w.size h.covers)) (at-most w.size (2 ^ 53) h.short))
    (at-most w.size (64 * w.advance) h.few))
    (at-most w.grace (2 ^ 53) h.waits)

aggregate-runs : (over : Kind) (aggs : List Agg) (window : Option Window) → (over ≡ kind.Windowed → ⊥) → IsWindowed over window → IsTrue (has_operator (Aggregate over aggs window))
aggregate-runs kind.Stream aggs None un windowed = refl
aggregate-runs kind.Table aggs None un windowed = refl
aggregate-runs kind.Windowed aggs window un windowed = absurd (un refl)
aggregate-runs kind.Stream aggs (Some w) un windowed = either (is_sound_window w) (window-sound w windowed.0)
aggregate-runs kind.Table aggs (Some w) un windowed = absurd (table-apart windowed.1)
  where
    table-apart : kind.Table ≡ kind.Stream → ⊥
    table-apart is = cc

-- the aggregate of a sound query has an operator
query-runs : (before items : List Item) → AreAmong before items → (q : Query) → IsSoundQuery before q → OfAggregates (λ n. IsTrue (has_operator n)) items q q.shape
query-runs before items among q (of_query {left = l} reads _ makes _ _) = by makes
  where
    over : kind_at items (leftmost q.from) ≡ l.kind
    over = reads-kind before items among reads

    by : {types : List (Option SqlType)} {form : Shape} {out : Relation} → Makes l types form out → OfAggregates (λ n. IsTrue (has_operator n)) items q form
    by (plain _ _ _) = tt
    by (grouped {w = w} {gs = gs} _ _ _ _ _ _ windowed _ _ _) =
        aggregate-runs (kind_at items (leftmost q.from)) gs w (λ is. reads-unwindowed before reads (sym over ∙ is))
        (subst (λ (k : Kind). IsWindowed k w) (sym over) windowed)

abbrev RunsNodes : Sub → Type 0
RunsNodes s = All (λ n. IsTrue (has_operator n)) s.nodes

-- each node of a sub-topology has an operator
pub has-operators : (items : List Item) → IsSound items → AllByRecursion RunsNodes (subs items)
has-operators items sound = subs-all items (λ (s : Stage). AllByRecursion (λ n. IsTrue (has_operator n)) s.nodes) RunsNodes
    (λ query first cuts number s all. All-from_recursion (λ n. IsTrue (has_operator n)) s.nodes all) by
  where
    by : (number : ℕ) (q : Query) → slice_get items number ≡ Some (Started q) → AllByRecursion (λ (s : Stage). AllByRecursion (λ n. IsTrue (has_operator n)) s.nodes) (stages_of items q)
    by number q at =
        let known : IsSoundItem (take number items) (Started q) = sound-at items number (Started q) sound.sound at in
        stages-have (λ n. IsTrue (has_operator n)) items q others-run (query-runs (take number items) items (before-among items number) q known.1)

-- ---- stores

abbrev AreApart : Node → Node → Type 0
AreApart n m = (number : ℕ) → IsTrue (is_store_of n number) → is_store_of m number ≡ false

-- a node without stores
abbrev IsStoreless : Node → Type 0
IsStoreless n = (number : ℕ) → is_store_of n number ≡ false

-- a node whose stores have numbers below 2, and a node without such stores
abbrev IsLow : Node → Type 0
IsLow n = (number : ℕ) → is_store_of n number ≡ true → number < 2

abbrev IsHigh : Node → Type 0
IsHigh n = (number : ℕ) → number < 2 → is_store_of n number ≡ false

storeless-low : (n : Node) → IsStoreless n → IsLow n
storeless-low n none number is = absurd (true≢false (sym is ∙ none number))

pairs-append : (xs ys : List Node) → Pairwise AreApart xs → Pairwise AreApart ys → AllByRecursion (λ x. AllByRecursion (AreApart x) ys) xs → Pairwise AreApart (xs ++ ys)
pairs-append [] ys first second between = second
pairs-append (x ∷ xs) ys first second between = (All-append (AreApart x) xs ys first.0 between.0, pairs-append xs ys first.1 second between.1)

apart-storeless : (x : Node) (ys : List Node) → AllByRecursion IsStoreless ys → AllByRecursion (AreApart x) ys
apart-storeless x ys none = All-weaker IsStoreless (AreApart x) (λ y h number is. h number) ys none

pairs-storeless : (ys : List Node) → AllByRecursion IsStoreless ys → Pairwise AreApart ys
pairs-storeless [] none = tt
pairs-storeless (y ∷ ys) none = (apart-storeless y ys none.1, pairs-storeless ys none.1)

-- nodes without stores after others
storeless-after : (xs ys : List Node) → Pairwise AreApart xs → AllByRecursion IsStoreless ys → Pairwise AreApart (xs ++ ys)
storeless-after xs ys pairs none = pairs-append xs ys pairs (pairs-storeless ys none) (All-of xs (λ x. apart-storeless x ys none))

-- nodes whose stores are below 2, and others without such stores
low-high : (xs ys : List Node) → AllByRecursion IsLow xs → AllByRecursion IsHigh ys → AllByRecursion (λ x. AllByRecursion (AreApart x) ys) xs
low-high xs ys low high =
    All-weaker IsLow (λ x. AllByRecursion (AreApart x) ys) (λ x below. All-weaker IsHigh (AreApart x) (λ y none number is. none number (below number is)) ys high) xs low

module _ (items : List Item) (q : Query) where
  filters-storeless : AllByRecursion IsStoreless (filter_of q.filter)
  filters-storeless = filters-all IsStoreless items q (λ on number. refl) q.filter

  after-storeless : (having : Option Typed) (values : List Typed) → AllByRecursion IsStoreless (after_aggregate having values)
  after-storeless having values = after-all IsStoreless items q (λ on number. refl) (λ keys values number. refl) having values

  low_equal : (number other : ℕ) → other < 2 → (number == other) ≡ true → number < 2
  low_equal number other below is = let same : number ≡ other = eqb-true number other is in omega (arith, same, below)

  low_below : (number : ℕ) → nat_lt number 2 ≡ true → number < 2
  low_below number is = grind (arith, nat_tests)

  input-low : AllByRecursion IsLow (input_nodes items q)
  input-low =
      All-append IsLow (table_of items q.from) (join_of items q.from ++ filter_of q.filter)
      (table-all IsLow items q (λ relation number is. low_equal number 0 (omega arith) is) q.from)
      (All-append IsLow (join_of items q.from) (filter_of q.filter)
      (join-all IsLow items q (λ k on l r number is. low_equal number 1 (omega arith) is) (λ k l r number is. low_below number is) q.from)
      (All-weaker IsStoreless IsLow storeless-low (filter_of q.filter) filters-storeless))

  input-pairs : Pairwise AreApart (input_nodes items q)
  input-pairs = by q.from
    where
      over : (k : JoinKind) (left right : ℕ) (on : Typed) (kind : Kind) → Pairwise AreApart (join_over items k left right on kind)
      over k left right on kind.Stream = (tt, tt)
      over k left right on kind.Table = (tt, tt)
      over k left right on kind.Windowed = (tt, tt)

      table : (number : ℕ) → (table_of items (One number) ≡ []) ⊎ (table_of items (One number) ≡ Table number ∷ []) → Pairwise AreApart (table_of items (One number))
      table number (inl is) = subst (Pairwise AreApart) (sym is) tt
      table number (inr is) = subst (Pairwise AreApart) (sym is) (tt, tt)

      by : (from : From) → Pairwise AreApart (table_of items from ++ (join_of items from ++ filter_of q.filter))
      by (One number) = storeless-after (table_of items (One number)) (filter_of q.filter) (table number (table-cases items number)) filters-storeless
      by (Join k left right on) = storeless-after (join_over items k left right on (kind_at items left)) (filter_of q.filter) (over k left right on (kind_at items left)) filters-storeless

  abbrev PairsApart : Stage → Type 0
  PairsApart s = Pairwise AreApart s.nodes

  shape-pairs : (form : Shape) → AllByRecursion PairsApart (shape_stages items q form)
  shape-pairs (shape.Plain keys values) = (storeless-after (input_nodes items q) (Select keys values ∷ []) input-pairs (λ number. refl, tt), tt)
  shape-pairs (shape.Group keys window aggs having values) =
      let grouping : List Node = input_nodes items q ++ Group keys ∷ [] in
      let over : Kind = kind_at items (leftmost q.from) in
      let rest : List Node = Aggregate over aggs window ∷ after_aggregate having values in
      let after : AllByRecursion IsStoreless (after_aggregate having values) = after-storeless having values in
      let first : Pairwise AreApart grouping = storeless-after (input_nodes items q) (Group keys ∷ []) input-pairs (λ number. refl, tt) in
      let second : Pairwise AreApart rest = (apart-storeless (Aggregate over aggs window) (after_aggregate having values) after, pairs-storeless (after_aggregate having values) after) in
      let low : AllByRecursion IsLow grouping = All-append IsLow (input_nodes items q) (Group keys ∷ []) input-low (storeless-low (Group keys) (λ number. refl), tt) in
      let high : AllByRecursion IsHigh rest =
      (λ number below. ne_eqb number 2 (λ same. omega (arith, same, below)), All-weaker IsStoreless IsHigh (λ y none number below. none number) (after_aggregate having values) after) in
      if-has (AllByRecursion PairsApart) (are_own_key items q.from keys) _ _ (pairs-append grouping rest first second (low-high grouping rest low high), tt) (first, (second, tt))

  rekeys-pairs : (from : From) → AllByRecursion PairsApart (rekey_from items q from)
  rekeys-pairs (One number) = tt
  rekeys-pairs (Join k left right on) = if-has (AllByRecursion PairsApart) (is_rekeyed items (Join k left right on)) _ _ ((tt, tt), tt) tt

  stages-pairs : AllByRecursion PairsApart (stages_of items q)
  unfolding stages_of
  stages-pairs = All-append PairsApart (rekey_stages items q) (shape_stages items q q.shape) (rekeys-pairs q.from) (shape-pairs q.shape)

-- no two nodes of a sub-topology have stores of one number
pub own-stores : (items : List Item) → AllByRecursion (λ (s : Sub). HaveOwnStores s.nodes) (subs items)
own-stores items = subs-all items (λ (s : Stage). Pairwise AreApart s.nodes) (λ (s : Sub). HaveOwnStores s.nodes)
    (λ query first cuts number s pairs. all-from_pairwise AreApart s.nodes pairs) (λ number q at. stages-pairs items q)

-- ---- the nodes of a task

nodes-of : (P : List Node → Type 0) → P [] → (items : List Item) → AllByRecursion (λ (s : Sub). P s.nodes) (subs items) → (u : TaskName) → P (nodes_at (topology_of items) u)
nodes-of P none items all u = by (slice_get (subs items) u.sub) refl
  where
    by : (o : Option Sub) → slice_get (subs items) u.sub ≡ o → P (unwrap_or (option_map (λ (s : Sub). s.nodes) o) [])
    by None at = none
    by (Some s) at = holds-of (λ (x : Sub). P x.nodes) (subs items) s all (at-member (subs items) u.sub s at)

pub task-operators : (items : List Item) → IsSound items → (u : TaskName) → All (λ n. IsTrue (has_operator n)) (nodes_at (topology_of items) u)
task-operators items sound u =
    nodes-of (λ nodes. All (λ n. IsTrue (has_operator n)) nodes) (All-nil (λ n. IsTrue (has_operator n))) items (has-operators items sound) u

pub task-stores : (items : List Item) (u : TaskName) → HaveOwnStores (nodes_at (topology_of items) u)
task-stores items u = nodes-of HaveOwnStores (all-from_pairwise AreApart [] tt) items (own-stores items) u
