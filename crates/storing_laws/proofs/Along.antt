-- What holds of what comes of nodes in a row and of sub-topologies in their order, where each node may make paths
-- longer.
use Rattle.std.proofs.Common.{◌≡◌, subst, ℕ, ◌+◌, ◌≤◌, List, [], ◌∷◌, ◌++◌, map, arith}
use Rattle.std.specs.Prelude.{◌==◌, Bool, true, false, filter, flat_map, if◌then◌else◌}
use Rattle.std.specs.List.{AllByRecursion, range_with_len}
use Rattle.ksql_types.specs.declared.topic.TopicSpec.{TopicSpec}
use Rattle.ksql_place.specs.Routing.{change_cmp, is_to, partitions_of}
use Rattle.ksql_place.specs.declared.change.Change.{Change}
use Rattle.ksql_nodes.specs.Entries.{Entry, from_side, results, through}
use Rattle.ksql_nodes.specs.Nodes.{gives}
use Rattle.ksql_nodes.specs.declared.node.Node.{Node}
use Rattle.ksql_nodes.proofs.Lists.{All-append}
use Rattle.query_meaning.specs.Queries.{entry_cmp}
use Rattle.meaning_laws.proofs.Lists.{All-ascending, All-filter, All-map, All-of, All-weaker}
use Rattle.meaning_laws.proofs.Sizes.{All-flat_map, Gives, entries-give, growth, results-give}
use Rattle.topology.specs.Contents.{Contents, contents_from, sent, side_entries, task_entries, task_results, with_cells, with_sub}
use Rattle.topology.specs.declared.topology.Sub.{Sub}
use Rattle.topology.specs.declared.topology.SubInput.{SubInput}

abbrev pub total : {A : Type 0} → (A → ℕ) → List A → ℕ
total f [] = 0
total f (x ∷ xs) = f x + total f xs

pub total-append : {A : Type 0} (f : A → ℕ) (xs ys : List A) → total f (xs ++ ys) ≡ total f xs + total f ys
total-append f [] ys = omega arith
total-append f (x ∷ xs) ys = let rest : total f (xs ++ ys) ≡ total f xs + total f ys = total-append f xs ys in omega (arith, rest)

-- by how many numbers the nodes of a sub-topology make paths longer
abbrev pub sub_growth : Sub → ℕ
sub_growth s = total growth s.nodes

-- P of a number holds of changes whose paths have at most n numbers, and what nodes that fit give keeps it
module _ (P : ℕ → Change → Type 0) (wider : (m k : ℕ) → m ≤ k → (c : Change) → P m c → P k c) (Fit : Node → Type 0)
    (give : (m : ℕ) (x : Node) → Fit x → Gives (P m) (P (m + growth x)) (gives 1 x))
    (whole : (m columns : ℕ) (c : Change) → P m c → P m (with_cells columns c)) where
  -- what one node passes on
  pub passed-hold : (x : Node) → Fit x → (m : ℕ) (es : List Entry) → AllByRecursion (λ e. P m e.change) es →
      AllByRecursion (λ e. P (m + growth x) e.change) (from_side 0 (results (gives 1 x) [] es))
  passed-hold x fits m es h =
      entries-give (P (m + growth x)) 0 (results (gives 1 x) [] es) (results-give (λ e. P m e.change) (P (m + growth x)) (gives 1 x) (give m x fits) [] es tt h)

  pub nodes-hold : (nodes : List Node) → AllByRecursion Fit nodes → (m : ℕ) (es : List Entry) → AllByRecursion (λ e. P m e.change) es →
      AllByRecursion (P (m + total growth nodes)) (through (map (gives 1) nodes) es)
  nodes-hold [] fit m es h =
      let same : m ≡ m + 0 = omega arith in
      subst (λ k. AllByRecursion (P k) (through [] es)) same (All-map (P m) (λ (e : Entry). e.change) es h)
  nodes-hold (x ∷ xs) fit m es h =
      let now : List Change = results (gives 1 x) [] es in
      let same : m + growth x + total growth xs ≡ m + total growth (x ∷ xs) = omega arith in
      subst (λ k. AllByRecursion (P k) (through (map (gives 1) xs) (from_side 0 now))) same
      (nodes-hold xs fit.1 (m + growth x) (from_side 0 now) (passed-hold x fit.0 m es h))

  -- ---- a sub-topology

  abbrev pub HoldThroughout : ℕ → Contents → Type 0
  HoldThroughout m has = (topic part : ℕ) → AllByRecursion (P m) (has topic part)

  widened : (m k : ℕ) → m ≤ k → (changes : List Change) → AllByRecursion (P m) changes → AllByRecursion (P k) changes
  widened m k grows changes h = All-weaker (P m) (P k) (wider m k grows) changes h

  pub cells-hold : (m columns : ℕ) (changes : List Change) → AllByRecursion (P m) changes → AllByRecursion (P m) (map (with_cells columns) changes)
  cells-hold m columns changes h = All-map (P m) (with_cells columns) changes (All-weaker (P m) (λ c. P m (with_cells columns c)) (whole m columns) changes h)

  module _ (has : Contents) (m : ℕ) (hold : HoldThroughout m has) where
    pub side-hold : (side : ℕ) (input : SubInput) (part : ℕ) → AllByRecursion (λ e. P m e.change) (side_entries side input has part)
    side-hold side input part =
        entries-give (P m) side (map (with_cells input.keys) (has input.topic part)) (cells-hold m input.keys (has input.topic part) (hold input.topic part))

    pub reads-hold : (inputs : List SubInput) (part : ℕ) → AllByRecursion (λ e. P m e.change) (task_entries inputs has part)
    reads-hold [] part = tt
    reads-hold (one ∷ []) part = side-hold 0 one part
    reads-hold (left ∷ right ∷ more) part =
        All-ascending (λ e. P m e.change) (entry_cmp left.relation right.relation) (side_entries 0 left has part ++ side_entries 1 right has part)
        (All-append (λ e. P m e.change) (side_entries 0 left has part) (side_entries 1 right has part) (side-hold 0 left part) (side-hold 1 right part))

    sent-hold : (sub : Sub) → AllByRecursion Fit sub.nodes → (n part : ℕ) → AllByRecursion (P (m + sub_growth sub)) (sent sub has n part)
    sent-hold sub fit n part =
        let B : Change → Type 0 = P (m + sub_growth sub) in
        let tasks : List ℕ = range_with_len 0 sub.partitions in
        All-ascending B change_cmp (flat_map (λ task. filter (is_to n part) (task_results sub has task)) tasks)
        (All-flat_map B (λ task. filter (is_to n part) (task_results sub has task)) (λ task. Unit {0})
        (λ task _. All-filter B (is_to n part) (task_results sub has task) (nodes-hold sub.nodes fit m (task_entries sub.inputs has task) (reads-hold sub.inputs task)))
        tasks (All-of tasks (λ task. tt)))

    sub-hold : (topics : List TopicSpec) (sub : Sub) → AllByRecursion Fit sub.nodes → HoldThroughout (m + sub_growth sub) (with_sub topics has sub)
    sub-hold topics sub fit topic part = by (topic == sub.output)
      where
        by : (b : Bool) → AllByRecursion (P (m + sub_growth sub)) (if b then sent sub has (partitions_of topics topic) part else has topic part)
        by true = sent-hold sub fit (partitions_of topics topic) part
        by false = widened m (m + sub_growth sub) (omega arith) (has topic part) (hold topic part)

  pub contents-hold : (topics : List TopicSpec) (has : Contents) (m : ℕ) → HoldThroughout m has → (subs : List Sub) → AllByRecursion (λ s. AllByRecursion Fit s.nodes) subs →
      HoldThroughout (m + total sub_growth subs) (contents_from topics has subs)
  unfolding contents_from
  contents-hold topics has m hold [] fit topic part = widened m (m + 0) (omega arith) (has topic part) (hold topic part)
  contents-hold topics has m hold (s ∷ ss) fit topic part =
      widened (m + sub_growth s + total sub_growth ss) (m + total sub_growth (s ∷ ss)) (omega arith) (contents_from topics (with_sub topics has s) ss topic part)
      (contents-hold topics (with_sub topics has s) (m + sub_growth s) (sub-hold has m hold topics s fit.0) ss fit.1 topic part)
