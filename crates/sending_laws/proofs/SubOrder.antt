-- The sub-topologies of a sound program come after those that write what they read.
use Rattle.std.proofs.Common.{◌≡◌, ◌∙◌, ap, refl, sym, subst, ℕ, zero, suc, ◌+◌, ◌<◌, ◌≤◌, Bool, true, false, List, [], ◌∷◌, ◌++◌, length, length-append, take, map, arith, inl, inr}
use Rattle.std.specs.List.{AllByRecursion}
use Rattle.std.specs.Prelude.{◌⊎◌, if◌then◌else◌, slice_get, Contains, Option, Some}
use Rattle.ksql_types.specs.declared.relation.Relation.{Relation}
use Rattle.ksql_types.specs.declared.value.SqlType.{SqlType}
use Rattle.ksql_expr.specs.declared.typed.Typed.{Typed}
use Rattle.ksql_program.specs.Sound.{AreSoundItems, IsSound, IsSoundQuery, Reads, joined as of_join, one as of_one, query as of_query}
use Rattle.ksql_program.specs.declared.program.Item.{Item}
use Rattle.ksql_program.specs.declared.program.Item.TheVariants.{Declared, Started}
use Rattle.ksql_program.specs.declared.query.From.{From}
use Rattle.ksql_program.specs.declared.query.From.TheVariants.{One, Join}
use Rattle.ksql_program.specs.declared.query.Query.{Query}
use Rattle.ksql_program.specs.declared.query.Shape.{Shape}
use Rattle.ksql_program.specs.declared.query.Shape.TheVariants as shape
use Rattle.ksql_nodes.specs.declared.node.Node.{Node}
use Rattle.ksql_nodes.specs.declared.node.Node.TheVariants as node
use Rattle.query_meaning.specs.Queries.{lanes_of, leftmost}
use Rattle.topology.specs.Stages.{aggregate_nodes, are_own_key, input_nodes, inputs_of, is_rekeyed, rekey_from, shape_stages, stages_of}
use Rattle.topology.specs.Topologies.{cuts_of, input_of, place_of, stages_at, sub_of, subs, subs_from, subs_of, topic_of}
use Rattle.topology.specs.declared.stage.CutName.{CutName}
use Rattle.topology.specs.declared.stage.CutName.TheVariants as cut
use Rattle.topology.specs.declared.stage.Link.{Link}
use Rattle.topology.specs.declared.stage.Link.TheVariants as link
use Rattle.topology.specs.declared.stage.Stage.{Stage}
use Rattle.topology.specs.declared.topology.Sub.{Sub}
use Rattle.topology.specs.declared.topology.SubInput.{SubInput}
use Rattle.meaning_laws.proofs.Lists.{All-weaker}
use Rattle.sending_laws.proofs.ItemLists.{before-below, sound-at, take-length, within}
use Rattle.sending_laws.proofs.Paths.{StandInOrder, holds-of, topics_read}
use Rattle.sending_laws.proofs.GroupStages.{cut_stages, whole_stages}

-- ---- topics by their numbers

-- the topics of n relations have the numbers below n, and repartition topics those from there on
module _ (n : ℕ) where
  -- what the query of an item may read: an earlier relation, or a repartition topic that is written already
  abbrev IsWritten : ℕ → ℕ → ℕ → Type 0
  IsWritten item first topic = (topic < item) ⊎ ((n ≤ topic) × (topic < first))

  -- what the query of an item and later ones may write: its relation or a later one, or a repartition topic that is not
  -- written yet
  abbrev IsToCome : ℕ → ℕ → ℕ → Type 0
  IsToCome item first topic = ((item ≤ topic) × (topic < n)) ⊎ (first ≤ topic)

  not-both : (item first topic : ℕ) → item < n → n ≤ first → IsWritten item first topic → IsToCome item first topic → ⊥
  not-both item first topic low high (inl written) (inl coming) = let least : item ≤ topic = coming.0 in omega (arith, written, least)
  not-both item first topic low high (inl written) (inr coming) = omega (arith, low, high, written, coming)
  not-both item first topic low high (inr written) (inl coming) =
      let least : n ≤ topic = written.0 in
      let most : topic < n = coming.1 in
      omega (arith, least, most)
  not-both item first topic low high (inr written) (inr coming) = let most : topic < first = written.1 in omega (arith, most, coming)

  to-come-sooner : (item first later next : ℕ) → item ≤ later → first ≤ next → (topic : ℕ) → IsToCome later next topic → IsToCome item first topic
  to-come-sooner item first later next low high topic (inl coming) = let least : later ≤ topic = coming.0 in inl (omega (arith, low, least), coming.1)
  to-come-sooner item first later next low high topic (inr coming) = inr (omega (arith, high, coming))

  -- sub-topologies in order, which write what is to come
  abbrev AreToCome : ℕ → ℕ → List Sub → Type 0
  AreToCome item first ss = StandInOrder ss × AllByRecursion (λ (s : Sub). IsToCome item first s.output) ss

  are-sooner : (item first later next : ℕ) (ss : List Sub) → item ≤ later → first ≤ next → AreToCome later next ss → AreToCome item first ss
  are-sooner item first later next ss low high coming =
      (coming.0, All-weaker (λ (s : Sub). IsToCome later next s.output) (λ (s : Sub). IsToCome item first s.output) (λ s. to-come-sooner item first later next low high s.output) ss coming.1)

  module _ (item first : ℕ) (low : item < n) (high : n ≤ first) (s : Sub) (reads : AllByRecursion (IsWritten item first) (topics_read s)) (rest : List Sub) where
    one-more : IsToCome item first s.output → AllByRecursion (λ (t : Sub). IsToCome item first t.output) rest → AllByRecursion (λ (t : Sub). t.output ≡ s.output → ⊥) rest → StandInOrder rest →
        AreToCome item first (s ∷ rest)
    one-more own coming apart order = (
      ((unread s.output own, All-weaker (λ (t : Sub). IsToCome item first t.output) (λ (t : Sub). Contains (topics_read s) t.output → ⊥) (λ t. unread t.output) rest coming), apart, order),
      (own, coming),
    )
      where
        -- (what is to come isn't read)
        unread : (topic : ℕ) → IsToCome item first topic → Contains (topics_read s) topic → ⊥
        unread topic comes read = not-both item first topic low high (holds-of (IsWritten item first) (topics_read s) topic reads read) comes

    -- a sub-topology that writes the next repartition topic
    cut-first : s.output ≡ first → AreToCome item (first + 1) rest → AreToCome item first (s ∷ rest)
    cut-first is coming =
        let later = are-sooner item first item (first + 1) rest (omega arith) (omega arith) coming in
        one-more (inr (omega (arith, is))) later.1
        (All-weaker (λ (t : Sub). IsToCome item (first + 1) t.output) (λ (t : Sub). t.output ≡ s.output → ⊥) (λ t. apart t.output) rest coming.1) coming.0
      where
        apart : (topic : ℕ) → IsToCome item (first + 1) topic → topic ≡ s.output → ⊥
        apart topic (inl comes) same = let below : topic < n = comes.1 in omega (arith, below, same, is, high)
        apart topic (inr comes) same = omega (arith, comes, same, is)

    -- one that writes the relation of the item
    result-first : s.output ≡ item → AreToCome (item + 1) first rest → AreToCome item first (s ∷ rest)
    result-first is coming =
        let later = are-sooner item first (item + 1) first rest (omega arith) (omega arith) coming in
        let least : item ≤ s.output = omega (arith, is) in
        let below : s.output < n = omega (arith, is, low) in
        one-more (inl (least, below)) later.1
        (All-weaker (λ (t : Sub). IsToCome (item + 1) first t.output) (λ (t : Sub). t.output ≡ s.output → ⊥) (λ t. apart t.output) rest coming.1) coming.0
      where
        apart : (topic : ℕ) → IsToCome (item + 1) first topic → topic ≡ s.output → ⊥
        apart topic (inl comes) same = let least : item + 1 ≤ topic = comes.0 in omega (arith, least, same, is)
        apart topic (inr comes) same = omega (arith, comes, same, is, low, high)

-- ---- a query

module _ (items : List Item) where
  abbrev AreWritten : ℕ → ℕ → List ℕ → Type 0
  AreWritten item first topics = AllByRecursion (IsWritten (length items) item first) topics

  -- the topics that a stage's inputs have
  topics-linked : (item first start : ℕ) (cuts : List CutName) (links : List Link) → AreWritten item first (map (topic_of start cuts) links) →
      AreWritten item first (map (λ (input : SubInput). input.topic) (map (input_of items start cuts) links))
  topics-linked item first start cuts [] written = tt
  topics-linked item first start cuts (link.Relation number ∷ links) written = (written.0, topics-linked item first start cuts links written.1)
  topics-linked item first start cuts (link.Cut name relation ∷ links) written = (written.0, topics-linked item first start cuts links written.1)

  module _ (item first : ℕ) (low : item < length items) (high : length items ≤ first) (rest : List Sub) where
    -- stages that come after repartition topics of these names, before the sub-topologies of later items
    abbrev AreInOrder : List CutName → List Stage → Type 0
    AreInOrder before stages =
        let cuts = before ++ cuts_of stages in
        (number : ℕ) → AreToCome (length items) (item + 1) (first + length cuts) rest →
        AreToCome (length items) item (first + length before) (subs_from items item first cuts number stages ++ rest)

    module _ (q : Query) (out : q.out.number ≡ item) (before : List CutName) (place : place_of cut.Group (before ++ cut.Group ∷ []) ≡ length before)
        (reads : (cuts : List CutName) → AreWritten item (first + length before) (map (topic_of first (before ++ cuts)) (inputs_of items q.from))) where
      abbrev start : ℕ
      start = first + length before

      abbrev result_stage : List Node → Stage
      result_stage nodes = record { inputs = inputs_of items q.from; nodes = nodes; partitions = lanes_of items q; output = link.Relation q.out.number }

      above : length items ≤ start
      above = omega (arith, high)

      -- one stage, which writes the result
      one-stage : (nodes : List Node) → AreInOrder before (result_stage nodes ∷ [])
      one-stage nodes number coming =
          let long : length (before ++ []) ≡ length before + 0 = length-append before [] in
          result-first (length items) item start low above (sub_of items item first (before ++ []) number (result_stage nodes)) (topics-linked item start first (before ++ []) (inputs_of items q.from) (reads [])) rest out
          (are-sooner (length items) (item + 1) start (item + 1) (first + length (before ++ [])) rest (omega arith) (omega (arith, long)) coming)

      abbrev group_stage : List Typed → Stage
      group_stage keys = record { inputs = inputs_of items q.from; nodes = input_nodes items q ++ node.Group keys ∷ []; partitions = lanes_of items q; output = link.Cut cut.Group (leftmost q.from) }

      abbrev grouped_stage : List Node → Stage
      grouped_stage nodes = record { inputs = link.Cut cut.Group (leftmost q.from) ∷ []; nodes = nodes; partitions = lanes_of items q; output = link.Relation q.out.number }

      -- two stages; the first writes the repartition topic of the groups
      two-stages : (keys : List Typed) (nodes : List Node) → AreInOrder before (cut_stages items q keys nodes)
      two-stages keys nodes number coming =
          let cuts : List CutName = before ++ cut.Group ∷ [] in
          let grouping : Sub = sub_of items item first cuts number (group_stage keys) in
          let last : Sub = sub_of items item first cuts (number + 1) (grouped_stage nodes) in
          let long : length cuts ≡ length before + 1 = length-append before (cut.Group ∷ []) in
          let least : length items ≤ first + place_of cut.Group cuts = omega (arith, high) in
          let most : first + place_of cut.Group cuts < start + 1 = omega (arith, place) in
          cut-first (length items) item start low above grouping (topics-linked item start first cuts (inputs_of items q.from) (reads (cut.Group ∷ []))) (last ∷ rest) (ap (λ p. first + p) place)
          (result-first (length items) item (start + 1) low (omega (arith, above)) last (inr (least, most), tt) rest out
          (are-sooner (length items) (item + 1) (start + 1) (item + 1) (first + length cuts) rest (omega arith) (omega (arith, long)) coming))

      shape-order : (form : Shape) → AreInOrder before (shape_stages items q form)
      shape-order (shape.Plain keys values) = one-stage (input_nodes items q ++ node.Select keys values ∷ [])
      shape-order (shape.Group keys window aggs having values) = by (are_own_key items q.from keys)
        where
          nodes : List Node
          nodes = aggregate_nodes items q (shape.Group keys window aggs having values)

          by : (own : Bool) → AreInOrder before (if own then whole_stages items q keys nodes else cut_stages items q keys nodes)
          by true = one-stage ((input_nodes items q ++ node.Group keys ∷ []) ++ nodes)
          by false = two-stages keys nodes

    from-order : (q : Query) → q.out.number ≡ item → (from : From) (types : List (Option SqlType)) (l : Relation) → Reads (take item items) from types l →
        AreInOrder [] (rekey_from items (record q { from = from }) from ++ shape_stages items (record q { from = from }) q.shape)
    from-order q out (One number) types l (of_one at unwindowed) =
        shape-order (record q { from = One number }) out [] refl (λ cuts. (inl (before-below items item number l at), tt)) q.shape
    from-order q out (Join kind left right on) types l (of_join {r = r} at_left at_right apart table alike joins) = by (is_rekeyed items (Join kind left right on)) refl
      where
        asked : Query
        asked = record q { from = Join kind left right on }

        rekeying : Stage
        rekeying = record { inputs = link.Relation left ∷ []; nodes = node.Rekey on ∷ []; partitions = lanes_of items asked; output = link.Cut cut.Left left }

        first_link : Bool → Link
        first_link again = if again then link.Cut cut.Left left else link.Relation left

        left-low : left < item
        left-low = before-below items item left l at_left

        right-low : right < item
        right-low = before-below items item right r at_right

        by : (again : Bool) → is_rekeyed items (Join kind left right on) ≡ again → AreInOrder [] ((if again then rekeying ∷ [] else []) ++ shape_stages items asked q.shape)
        by true is = λ number coming.
            let cuts : List CutName = cut.Left ∷ cuts_of (shape_stages items asked q.shape) in
            let reads : (more : List CutName) → AreWritten item (first + 1) (map (topic_of first (cut.Left ∷ more)) (inputs_of items (Join kind left right on))) =
            λ more. subst (λ again. AreWritten item (first + 1) (map (topic_of first (cut.Left ∷ more)) (first_link again ∷ link.Relation right ∷ []))) (sym is)
            (inr (omega (arith, high), omega arith), (inl right-low, tt)) in
            let later : List Sub = subs_from items item first cuts (number + 1) (shape_stages items asked q.shape) ++ rest in
            cut-first (length items) item (first + 0) low (omega (arith, high)) (sub_of items item first cuts number rekeying) (inl left-low, tt) later refl
            (are-sooner (length items) item (first + 0 + 1) item (first + 1) later (omega arith) (omega arith)
            (shape-order asked out (cut.Left ∷ []) refl reads q.shape (number + 1) coming))
        by false is =
            shape-order asked out [] refl
            (λ more. subst (λ again. AreWritten item (first + 0) (map (topic_of first more) (first_link again ∷ link.Relation right ∷ []))) (sym is) (inl left-low, (inl right-low, tt))) q.shape

    query-order : (q : Query) → q.out.number ≡ item → IsSoundQuery (take item items) q → AreInOrder [] (stages_of items q)
    unfolding stages_of
    query-order q out (of_query {types = types} {left = l} is_read condition makes keyed fresh) = from-order q out q.from types l is_read

  -- ---- a program

  module _ (sound : AreSoundItems [] items) where
    item-order : (item first number : ℕ) (rest : List Sub) → length items ≤ first → (i : Item) → slice_get items item ≡ Some i →
        AreToCome (length items) (item + 1) (first + length (cuts_of (stages_at items i))) rest →
        AreToCome (length items) item first (subs_from items item first (cuts_of (stages_at items i)) number (stages_at items i) ++ rest)
    item-order item first number rest high (Declared r) at coming = are-sooner (length items) item first (item + 1) (first + 0) rest (omega arith) (omega arith) coming
    item-order item first number rest high (Started q) at coming =
        let known = sound-at items item (Started q) sound at in
        are-sooner (length items) item first item (first + 0) (subs_from items item first (cuts_of (stages_of items q)) number (stages_of items q) ++ rest) (omega arith) (omega arith)
        (query-order item first (within items item (Started q) at) high rest q (known.0.numbered ∙ take-length items item (Started q) at) known.1 number coming)

    items-order : (after : List Item) (item first number : ℕ) → ((place : ℕ) → slice_get items (item + place) ≡ slice_get after place) → length items ≤ first →
        AreToCome (length items) item first (subs_of items item first number after)
    unfolding subs_of
    items-order [] item first number here high = (tt, tt)
    items-order (i ∷ after) item first number here high =
        let stages : List Stage = stages_at items i in
        let now : item ≡ item + 0 = omega arith in
        let next : (place : ℕ) → (item + 1) + place ≡ item + suc place = λ place. omega arith in
        item-order item first number (subs_of items (item + 1) (first + length (cuts_of stages)) (number + length stages) after) high i (ap (slice_get items) now ∙ here zero)
        (items-order after (item + 1) (first + length (cuts_of stages)) (number + length stages) (λ place. ap (slice_get items) (next place) ∙ here (suc place)) (omega (arith, high)))

pub subs-in-order : (items : List Item) → IsSound items → StandInOrder (subs items)
subs-in-order items sound =
    let same : (place : ℕ) → 0 + place ≡ place = λ place. omega arith in
    (items-order items sound.sound items 0 (length items) 0 (λ place. ap (slice_get items) (same place)) (omega arith)).0
