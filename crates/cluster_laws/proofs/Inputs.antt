-- The topics that a task reads have as many partitions as its sub-topology has tasks.
use Rattle.std.proofs.Common.{◌≡◌, ◌∙◌, ap, ap₂, refl, sym, ℕ, zero, suc, ◌+◌, List, [], ◌∷◌, ◌++◌, length, length-append, map, take, append_assoc, Bool, true, false, true≢false, inl, arith}
use Rattle.std.proofs.lemmas.List.{length-map}
use Rattle.std.proofs.lemmas.Option.{none-some, slice_get-map}
use Rattle.std.specs.Prelude.{if◌then◌else◌, Option, Some, option_map, slice_get}
use Rattle.std.specs.List.{AllByRecursion}
use Rattle.ksql_types.specs.declared.relation.Relation.{Relation}
use Rattle.ksql_types.specs.declared.topic.TopicSpec.{TopicSpec}
use Rattle.ksql_types.specs.declared.value.SqlType.{SqlType}
use Rattle.ksql_program.specs.Program.{relation_at, relation_of, relations}
use Rattle.ksql_program.specs.Sound.{IsSound, IsSoundQuery, Reads, joined as of_join, one as of_one, query as of_query}
use Rattle.ksql_program.specs.declared.program.Item.{Item}
use Rattle.ksql_program.specs.declared.program.Item.TheVariants.{Declared, Started}
use Rattle.ksql_program.specs.declared.query.From.{From}
use Rattle.ksql_program.specs.declared.query.From.TheVariants.{One, Join}
use Rattle.ksql_program.specs.declared.query.Query.{Query}
use Rattle.ksql_program.specs.declared.query.Shape.{Shape}
use Rattle.ksql_program.specs.declared.query.Shape.TheVariants as shape
use Rattle.ksql_nodes.specs.declared.node.Node.{Node}
use Rattle.ksql_nodes.specs.declared.node.Node.TheVariants as node
use Rattle.ksql_nodes.proofs.Lists.{All-append}
use Rattle.query_meaning.specs.Queries.{lanes_of, leftmost, partitions_at}
use Rattle.meaning_laws.proofs.EachRelation.{AreAmong}
use Rattle.meaning_laws.proofs.Lists.{All-map, All-weaker}
use Rattle.topology.specs.Stages.{aggregate_nodes, are_own_key, inputs_of, is_rekeyed, rekey_from, rekey_stages, shape_stages, stages_of}
use Rattle.topology.specs.Topologies.{cut_topics, cuts_of, input_of, place_of, relation_topic, stages_at, subs, subs_from, subs_of, topics_from, topology_of}
use Rattle.topology.specs.declared.stage.CutName.{CutName}
use Rattle.topology.specs.declared.stage.CutName.TheVariants as cut
use Rattle.topology.specs.declared.stage.Link.{Link}
use Rattle.topology.specs.declared.stage.Link.TheVariants as link
use Rattle.topology.specs.declared.stage.Stage.{Stage}
use Rattle.topology.specs.declared.topology.Sub.{Sub}
use Rattle.topology.specs.declared.topology.SubInput.{SubInput}
use Rattle.sending_laws.proofs.CutNames.{IsIn, back-in, front-in, if-in, place-at}
use Rattle.sending_laws.proofs.ItemLists.{before-among, sound-at, within}
use Rattle.sending_laws.proofs.Numbering.{get-after, get-front, stages-lanes, topics-lanes, topics-length}
use Rattle.sending_laws.proofs.GroupStages.{cut_stages, whole_stages}
use Rattle.sending_laws.proofs.ItemLists.{partitions-at}
use Rattle.cluster_laws.specs.Rounds.{count_at}

count-front : {A : Type 0} (f : A → ℕ) (xs ys : List A) (place n : ℕ) → option_map f (slice_get xs place) ≡ Some n → option_map f (slice_get (xs ++ ys) place) ≡ Some n
count-front f [] ys place n is = absurd (none-some n is)
count-front f (x ∷ xs) ys zero n is = is
count-front f (x ∷ xs) ys (suc place) n is = count-front f xs ys place n is

-- each topic that a sub-topology reads has as many partitions as it has
abbrev pub ReadsAlike : List TopicSpec → Sub → Type 0
ReadsAlike topics s = AllByRecursion (λ (i : SubInput). count_at topics i.topic ≡ Some s.partitions) s.inputs

module _ (items : List Item) where
  -- ---- the stages of a query

  -- a relation with n partitions, or a repartition topic that is written
  abbrev IsOfLanes : List CutName → ℕ → Link → Type 0
  IsOfLanes cuts n (link.Relation number) = (r : Relation) × (relation_at items number ≡ Some r) × (r.partitions ≡ n)
  IsOfLanes cuts n (link.Cut name relation) = IsIn name cuts

  abbrev StageAlike : List CutName → ℕ → Stage → Type 0
  StageAlike cuts n s = AllByRecursion (IsOfLanes cuts n) s.inputs

  module _ (before : List Item) (among : AreAmong before items) (cuts : List CutName) where
    relation-lanes : (number : ℕ) (r : Relation) → relation_at before number ≡ Some r → IsOfLanes cuts (partitions_at items number) (link.Relation number)
    relation-lanes number r at = (r, among number r at, sym (partitions-at items before among number r at))

    inputs-lanes : (from : From) (types : List (Option SqlType)) (l : Relation) → Reads before from types l → (is_rekeyed items from ≡ true → IsIn cut.Left cuts) →
        AllByRecursion (IsOfLanes cuts (partitions_at items (leftmost from))) (inputs_of items from)
    inputs-lanes (One number) types l (of_one at unwindowed) rekeyed = (relation-lanes number l at, tt)
    inputs-lanes (Join k left right on) types l (of_join {r = r} at_left at_right apart table alike joins) rekeyed =
        (first (is_rekeyed items (Join k left right on)) refl, ((r, among right r at_right, sym alike ∙ sym (partitions-at items before among left l at_left)), tt))
      where
        first : (again : Bool) → is_rekeyed items (Join k left right on) ≡ again → IsOfLanes cuts (partitions_at items left) (if again then link.Cut cut.Left left else link.Relation left)
        first true is = rekeyed is
        first false is = relation-lanes left l at_left

    rekeys-lanes : (q : Query) (from : From) (types : List (Option SqlType)) (l : Relation) → Reads before from types l → AllByRecursion (StageAlike cuts (partitions_at items (leftmost from))) (rekey_from items q from)
    rekeys-lanes q (One number) types l reads = tt
    rekeys-lanes q (Join k left right on) types l (of_join at_left at_right apart table alike joins) = by (is_rekeyed items (Join k left right on))
      where
        by : (again : Bool) → AllByRecursion (StageAlike cuts (partitions_at items left))
            (if again then record { inputs = link.Relation left ∷ []; nodes = node.Rekey on ∷ []; partitions = lanes_of items q; output = link.Cut cut.Left left } ∷ [] else [])
        by true = ((relation-lanes left l at_left, tt), tt)
        by false = tt

    module _ (q : Query) (types : List (Option SqlType)) (l : Relation) (reads : Reads before q.from types l) (rekeyed : is_rekeyed items q.from ≡ true → IsIn cut.Left cuts) where
      inputs : AllByRecursion (IsOfLanes cuts (lanes_of items q)) (inputs_of items q.from)
      inputs = inputs-lanes q.from types l reads rekeyed

      shape-lanes : (form : Shape) → (IsIn cut.Group (cuts_of (shape_stages items q form)) → IsIn cut.Group cuts) → AllByRecursion (StageAlike cuts (lanes_of items q)) (shape_stages items q form)
      shape-lanes (shape.Plain keys values) group = (inputs, tt)
      shape-lanes (shape.Group keys window aggs having values) group = by (are_own_key items q.from keys) group
        where
          rest : List Node
          rest = aggregate_nodes items q (shape.Group keys window aggs having values)

          by : (own : Bool) → (IsIn cut.Group (cuts_of (if own then whole_stages items q keys rest else cut_stages items q keys rest)) → IsIn cut.Group cuts) →
              AllByRecursion (StageAlike cuts (lanes_of items q)) (if own then whole_stages items q keys rest else cut_stages items q keys rest)
          by true group = (inputs, tt)
          by false group = (inputs, ((group (inl refl), tt), tt))

  rekey-in : (q : Query) (from : From) → is_rekeyed items from ≡ true → IsIn cut.Left (cuts_of (rekey_from items q from))
  rekey-in q (One number) is = absurd (true≢false (sym is))
  rekey-in q (Join k left right on) is = if-in cut.Left (is_rekeyed items (Join k left right on)) true is _ _ (inl refl)

  -- each stage of a sound query reads topics with as many partitions as it has
  query-lanes : (before : List Item) → AreAmong before items → (q : Query) → IsSoundQuery before q → AllByRecursion (StageAlike (cuts_of (stages_of items q)) (lanes_of items q)) (stages_of items q)
  unfolding stages_of
  query-lanes before among q (of_query {types = types} {left = l} reads _ _ _ _) =
      let rekeys : List Stage = rekey_stages items q in
      let shapes : List Stage = shape_stages items q q.shape in
      let cuts : List CutName = cuts_of (rekeys ++ shapes) in
      All-append (StageAlike cuts (lanes_of items q)) rekeys shapes
      (rekeys-lanes before among cuts q q.from types l reads)
      (shape-lanes before among cuts q types l reads (λ is. front-in cut.Left rekeys shapes (rekey-in q q.from is)) q.shape (back-in cut.Group rekeys shapes))

  -- ---- the sub-topologies of a query

  abbrev topics : List TopicSpec
  topics = (topology_of items).topics

  module _ (k first number : ℕ) (front rest : List TopicSpec) (name : List ℕ) (q : Query) (is : topics ≡ front ++ (topics_from first number name (stages_of items q) ++ rest)) (long : length front ≡ first) where
    abbrev cuts : List CutName
    cuts = cuts_of (stages_of items q)

    own : List TopicSpec
    own = topics_from first number name (stages_of items q)

    link-alike : (i : Link) → IsOfLanes cuts (lanes_of items q) i → count_at topics (input_of items first cuts i).topic ≡ Some (lanes_of items q)
    link-alike (link.Relation j) (r, at, same) =
        ap (option_map (λ (t : TopicSpec). t.partitions))
        (get-front (map (relation_topic (subs items)) (relations items)) (cut_topics items (length items) 0 items) j (relation_topic (subs items) r)
        (slice_get-map (relation_topic (subs items)) (relations items) j ∙ ap (option_map (relation_topic (subs items))) at))
        ∙ ap Some same
    link-alike (link.Cut c relation) among =
        let place : ℕ = place_of c cuts in
        ap₂ (λ ts n. option_map (λ (t : TopicSpec). t.partitions) (slice_get ts (n + place))) is (sym long)
        ∙ ap (option_map (λ (t : TopicSpec). t.partitions)) (get-after front (topics_from first number name (stages_of items q) ++ rest) place)
        ∙ count-front (λ (t : TopicSpec). t.partitions) (topics_from first number name (stages_of items q)) rest place (lanes_of items q)
        (topics-lanes (lanes_of items q) first number name (stages_of items q) (stages-lanes items q) place (within cuts place c (place-at c cuts among)))

    stages-alike : (now : ℕ) (stages : List Stage) → AllByRecursion (StageAlike cuts (lanes_of items q)) stages → AllByRecursion (λ (s : Stage). s.partitions ≡ lanes_of items q) stages →
        AllByRecursion (ReadsAlike topics) (subs_from items k first cuts now stages)
    stages-alike now [] reads lanes = tt
    stages-alike now (s ∷ ss) reads lanes = (
      All-map (λ (i : SubInput). count_at topics i.topic ≡ Some s.partitions) (input_of items first cuts) s.inputs
          (All-weaker (IsOfLanes cuts (lanes_of items q)) (λ i. count_at topics (input_of items first cuts i).topic ≡ Some s.partitions) (λ i read. link-alike i read ∙ ap Some (sym lanes.0)) s.inputs reads.0),
      stages-alike (now + 1) ss reads.1 lanes.1,
    )

  -- ---- all of them

  module _ (sound : IsSound items) where
    items-alike : (k first number : ℕ) (front : List TopicSpec) (after : List Item) → ((n : ℕ) → slice_get items (k + n) ≡ slice_get after n) →
        topics ≡ front ++ cut_topics items first number after → length front ≡ first → AllByRecursion (ReadsAlike topics) (subs_of items k first number after)
    unfolding subs_of cut_topics
    items-alike k first number front [] here is long = tt
    items-alike k first number front (i ∷ after) here is long =
        All-append (ReadsAlike topics) (subs_from items k first (cuts_of stages) number stages) _ (by i (ap (slice_get items) same ∙ here zero) is)
        (items-alike (k + 1) (first + length (cuts_of stages)) (number + length stages) (front ++ own) after
        (λ n. ap (slice_get items) (next n) ∙ here (suc n))
        (is ∙ sym (append_assoc front own later))
        (length-append front own ∙ ap₂ (λ a b. a + b) long (topics-length first number (relation_of i).name stages)))
      where
        stages : List Stage
        stages = stages_at items i

        own : List TopicSpec
        own = topics_from first number (relation_of i).name stages

        later : List TopicSpec
        later = cut_topics items (first + length (cuts_of stages)) (number + length stages) after

        same : k ≡ k + 0
        same = omega arith

        next : (n : ℕ) → (k + 1) + n ≡ k + suc n
        next n = omega arith

        by : (j : Item) → slice_get items k ≡ Some j → topics ≡ front ++ (topics_from first number (relation_of j).name (stages_at items j)
            ++ cut_topics items (first + length (cuts_of (stages_at items j))) (number + length (stages_at items j)) after) →
            AllByRecursion (ReadsAlike topics) (subs_from items k first (cuts_of (stages_at items j)) number (stages_at items j))
        by (Declared r) at is = tt
        by (Started q) at is =
            stages-alike k first number front _ (relation_of (Started q)).name q is long number (stages_of items q)
            (query-lanes (take k items) (before-among items k) q (sound-at items k (Started q) sound.sound at).1) (stages-lanes items q)

    pub subs-alike : AllByRecursion (ReadsAlike topics) (subs items)
    subs-alike =
        let relations_first : length (map (relation_topic (subs items)) (relations items)) ≡ length items =
        length-map (relations items) (relation_topic (subs items)) ∙ length-map items relation_of in
        let same : (n : ℕ) → 0 + n ≡ n = λ n. omega arith in
        items-alike 0 (length items) 0 (map (relation_topic (subs items)) (relations items)) items (λ n. ap (slice_get items) (same n)) refl relations_first
